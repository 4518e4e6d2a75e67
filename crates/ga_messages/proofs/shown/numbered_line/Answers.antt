use Rattle.std.proofs.Common.{◌∙◌, [], ap, get_or}
use Rattle.std.specs.Str.Lines.{lines}
use Rattle.std.proofs.lemmas.Iterator.Splits.{YieldsList-from_lines}
use Rattle.ga_messages.proofs.NthItem.{nth_none, nth_some}
use Rattle.ga_messages.proofs.shown.numbered_line.Goals as goal

pub returns-in-Some : goal.returns-in-Some
returns-in-Some c =
    nth_some (YieldsList-from_lines c.args.text.now c.lines.ensures.rest) c.saturating_sub.result
    [] c.nth.result c.in-Some.found c.nth.new.self c.in-Some.is c.nth.ensures.ran
    ∙ ap (λ line. get_or (lines c.args.text.now) line []) c.saturating_sub.ensures

pub returns-in-None : goal.returns-in-None
returns-in-None c =
    nth_none (YieldsList-from_lines c.args.text.now c.lines.ensures.rest) c.saturating_sub.result
    [] c.nth.result c.nth.new.self c.in-None.is c.nth.ensures.ran
    ∙ ap (λ line. get_or (lines c.args.text.now) line []) c.saturating_sub.ensures
