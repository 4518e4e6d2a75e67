use Rattle.std.proofs.Common.{rules}
use Rattle.ga_debug.specs.Beginning.{start_view}
use Rattle.ga_replays.proofs.debug.output.Goals as goal

pub returns-clause-output : goal.returns-clause-output
returns-clause-output c =
    let start = start_view c.in_ok-loaded.loaded in
    (_, search rules, (start, c.in_ok-loaded.ensures.loaded, search rules))
