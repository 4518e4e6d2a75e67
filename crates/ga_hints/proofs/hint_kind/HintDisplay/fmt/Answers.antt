use Rattle.std.proofs.Common.{append_assoc}
use Rattle.std.specs.Prelude.{codes, string_bytes}
use Rattle.ga_hints.proofs.hint_kind.HintDisplay.fmt.Goals as goal

pub returns-in-Body-clause-writes : goal.returns-in-Body-clause-writes
returns-in-Body-clause-writes g c =
    let name = string_bytes c.in-Body.name in
    rw (c.in-Body.is, append_assoc name (codes " is a body: use ") name)
    c.write-in-Body.ensures.writes
