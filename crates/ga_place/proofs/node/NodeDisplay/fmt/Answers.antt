use Rattle.std.proofs.Common.{◌≡◌, ◌<◌, arith}
use Rattle.std.specs.Fmt.{styled_decimal}
use Rattle.ga_place.specs.Node.{node_text}
use Rattle.ga_place.proofs.NodeText.{three_places}
use Rattle.ga_place.proofs.node.NodeDisplay.fmt.Goals as goal

pub returns-clause-writes : goal.returns-clause-writes
returns-clause-writes g c =
    let below : c.name-name.result < 1000 = omega (arith, c.name-name.ensures.bound) in
    let text : styled_decimal c.laid_out.result c.name-name.result ≡ node_text c.name-name.result =
    rw c.laid_out.ensures (three_places c.name-name.result below) in
    rw (← c.name-name.ensures.value, ← text) c.write.ensures.writes
