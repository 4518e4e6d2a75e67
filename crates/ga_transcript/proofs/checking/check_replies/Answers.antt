use Rattle.std.proofs.Common.{◌≡◌, ◌∙◌, ◌+◌, None, Some, ap, inr, sym}
use Rattle.ga_debug.specs.Beginning.{start_view}
use Rattle.ga_transcript.specs.Following.{early_reply}
use Rattle.ga_transcript.proofs.Starting.{checked_behind, early_checked}
use Rattle.ga_transcript.proofs.checking.check_replies.Goals as goal

pub returns : goal.returns
returns c =
    let start = start_view c.in_ok-loaded.loaded in
    let early : early_reply (start.line + 1) start.commands ≡ Some c.in-Some.line =
    ap (λ left. early_reply (left.number + 1) left.lines) (sym c.again.ensures)
    ∙ sym c.in-Some.ensures in
    inr (start, c.in_ok-loaded.ensures.loaded, early_checked start c.in-Some.line early)

pub returns-in-None : goal.returns-in-None
returns-in-None c =
    let start = start_view c.in_ok-loaded.loaded in
    let none : early_reply (start.line + 1) start.commands ≡ None =
    ap (λ left. early_reply (left.number + 1) left.lines) (sym c.again.ensures)
    ∙ sym c.in-None.ensures in
    checked_behind c.args.text.now start c.follow.result c.in_ok-loaded.ensures.loaded none
    c.follow.ensures
