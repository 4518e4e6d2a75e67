use Rattle.std.proofs.Common.{◌≡◌, ◌∙◌, ◌+◌, None, Some, ap, inr, sym}
use Rattle.ga_debug.specs.Beginning.{start_view}
use Rattle.ga_transcript.specs.Following.{early_reply}
use Rattle.ga_transcript.proofs.Comparisons.{compared_behind, early_compared, same_exactly}
use Rattle.ga_transcript.proofs.differences.compare_replies.Goals as goal

pub returns-clause-compared : goal.returns-clause-compared
returns-clause-compared c =
    let start = start_view c.in_ok-loaded.loaded in
    let early : early_reply (start.line + 1) start.commands ≡ Some c.in-Some.line =
    ap (λ left. early_reply (left.number + 1) left.lines) (sym c.again.ensures)
    ∙ sym c.in-Some.ensures in
    inr (
      start,
      c.in_ok-loaded.ensures.loaded,
      early_compared c.args.name.now start c.in-Some.line early,
    )

pub returns-in-None-clause-compared : goal.returns-in-None-clause-compared
returns-in-None-clause-compared c =
    let start = start_view c.in_ok-loaded.loaded in
    let none : early_reply (start.line + 1) start.commands ≡ None =
    ap (λ left. early_reply (left.number + 1) left.lines) (sym c.again.ensures)
    ∙ sym c.in-None.ensures in
    compared_behind c.args.name.now c.args.text.now start c.compared.result
    c.in_ok-loaded.ensures.loaded none c.compared.ensures

pub returns-in-None-clause-same : goal.returns-in-None-clause-same
returns-in-None-clause-same c =
    same_exactly c.args.name.now c.args.text.now c.compared.result
    (returns-in-None-clause-compared c)
