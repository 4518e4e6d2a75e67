-- The places at which the tokens of an expansion were written.
use Rattle.std.specs.Prelude.{ℕ, List, map, string_bytes, unwrap_or}
use Rattle.ga_pack.specs.Model.Text.{Place, end_of}
use Rattle.ga_source.specs.Token.{place_of}
use Rattle.ga_asm.specs.declared.text.TextError.{TextError}
use Rattle.ga_asm.specs.declared.text.TextError.TheVariants.{Asm, Memory, Source}
use Rattle.ga_expand.specs.Texts.{origin_of}
use Rattle.ga_expand.specs.declared.expansion.Expansion.{Expansion}

-- The place where the token at a place of an expansion was written. The expansion's end is the
-- text's end.
abbrev pub origin : List ℕ → Expansion → Place → Place
origin text made place =
    unwrap_or (origin_of (string_bytes made.text) (map place_of made.origins.items) place)
    (end_of text)

-- a fault of an expansion, at the place where its token was written
unfoldable pub at_origin : List ℕ → Expansion → TextError → TextError
at_origin text made (Source error) =
    let place = origin text made (record { line = error.line; column = error.column }) in
    Source (record error { line = place.line; column = place.column })
at_origin text made (Asm error) =
    let place = origin text made (record { line = error.line; column = error.column }) in
    Asm (record error { line = place.line; column = place.column })
at_origin text made Memory = Memory
