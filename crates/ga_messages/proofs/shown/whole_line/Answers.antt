use Rattle.std.proofs.Common.{◌∙◌, ◌==◌, [], ap, get_or, lit<}
use Rattle.std.specs.List.{slice_split}
use Rattle.std.proofs.lemmas.Iterator.Splits.{YieldsList-from_str_split}
use Rattle.ga_messages.proofs.NthItem.{nth_none, nth_some}
use Rattle.ga_messages.proofs.shown.whole_line.Goals as goal

pub returns-in-Some : goal.returns-in-Some
returns-in-Some c =
    let text = c.args.text.now in
    let lines = YieldsList-from_str_split 10 text
    (lit< tt) c.split.ensures.text c.split.ensures.has_more c.split.ensures.pattern in
    nth_some lines c.saturating_sub.result [] c.nth.result c.in-Some.found c.nth.new.self
    c.in-Some.is c.nth.ensures.ran
    ∙ ap (λ line. get_or (slice_split (λ c. c == 10) text) line []) c.saturating_sub.ensures

pub returns-in-None : goal.returns-in-None
returns-in-None c =
    let text = c.args.text.now in
    let lines = YieldsList-from_str_split 10 text
    (lit< tt) c.split.ensures.text c.split.ensures.has_more c.split.ensures.pattern in
    nth_none lines c.saturating_sub.result [] c.nth.result c.nth.new.self c.in-None.is
    c.nth.ensures.ran
    ∙ ap (λ line. get_or (slice_split (λ c. c == 10) text) line []) c.saturating_sub.ensures
