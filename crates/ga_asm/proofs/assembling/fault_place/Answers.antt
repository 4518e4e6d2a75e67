use Rattle.std.proofs.Common.{rules, ◌∙◌, ap}
use Rattle.ga_source.specs.Program.{items_at}
use Rattle.ga_source.specs.Token.{place_of}
use Rattle.ga_asm.proofs.Sections.{place_at, told_place}
use Rattle.ga_asm.proofs.assembling.fault_place.Goals as goal

pub returns : goal.returns
returns c =
    let found = c.index-found.result.now in
    place_at (items_at c.args.program.now c.args.section) c.in_ok-places.places.items c.args.item
    found (place_of c.unwrap_or.result) c.in_ok-places.ensures c.requires
    (ap place_of c.unwrap_or.ensures ∙ told_place found.name found.place ∙ (search rules))
