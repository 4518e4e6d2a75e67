use Rattle.std.proofs.Common.{◌∙◌, ap}
use Rattle.std.specs.Prelude.{option_map, slice_get, string_bytes}
use Rattle.ga_source.specs.Token.{place_of}
use Rattle.ga_diagnostics.proofs.WrittenPlaces.{no_origin, origin_found}
use Rattle.ga_diagnostics.proofs.written_lines.origin_at.Goals as goal

pub returns-in-Some : goal.returns-in-Some
returns-in-Some c =
    let made = c.args.made.now in
    ap (option_map place_of) c.place_at.ensures
    ∙ ap (λ places. option_map place_of (slice_get places c.in-Some.index)) c.deref.ensures.value
    ∙ origin_found (string_bytes made.text) c.args.tokens.now made.origins.items c.args.place
    c.in-Some.index c.requires c.in-Some.ensures

pub returns-in-None : goal.returns-in-None
returns-in-None c =
    let made = c.args.made.now in
    no_origin (string_bytes made.text) c.args.tokens.now made.origins.items c.args.place c.requires
    c.in-None.ensures
