use Rattle.std.proofs.Common.{subst}
use Rattle.ga_chip.specs.Chip.{Chip}
use Rattle.ga_profile.specs.HasRun.{HasRun}
use Rattle.ga_report.proofs.holders.nodes_at.Goals as goal

pub advance-requires-clause-known : goal.advance-requires-clause-known
advance-requires-clause-known c = c.in_ok-watch.ensures.known c.in_ok-chip.chip

pub returns-clause-nodes : goal.returns-clause-nodes
returns-clause-nodes c =
    let start = c.args.chip.now in
    let copy = c.in_ok-chip.chip in
    c.in_ok-nodes.ensures.nodes start (c.advance.ensures.run 0 start
    (subst (λ (chip : Chip). HasRun 0 chip 0 copy c.in_ok-watch.watch) c.in_ok-chip.ensures
    (c.in_ok-watch.ensures.run copy)))
