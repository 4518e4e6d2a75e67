use Rattle.std.proofs.Common.{◌≡◌, ◌∙◌, sym}
use Rattle.ga_place.specs.Side.{sides_bits, sides_by_edge}
use Rattle.ga_place.proofs.AddressLemmas.{where_is-idle}
use Rattle.ga_place.proofs.address.idle_address.Goals as goal

pub returns-clause-located : goal.returns-clause-located
returns-clause-located c =
    let same : sides_bits c.args.node ≡ sides_by_edge c.args.node =
    sym c.existing_sides.ensures.value ∙ c.existing_sides.ensures.edges in
    let bits : c.from.result ≡ sides_by_edge c.args.node =
    cc (c.bits.ensures tt, c.existing_sides.ensures.edges) in
    rw (bits, same) (where_is-idle c.args.node)
