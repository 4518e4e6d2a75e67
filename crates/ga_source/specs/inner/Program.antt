-- Where a fault is reported.
use Rattle.std.specs.Prelude.{◌≡◌, ◌≢◌, ℕ, List}
use Rattle.ga_pack.specs.Model.Text.{places_of}
use Rattle.ga_pack.specs.Model.Program.{place_at}
use Rattle.ga_pack.specs.declared.error_kind.SourceErrorKind.{SourceErrorKind}
use Rattle.ga_pack.specs.declared.error_kind.SourceErrorKind.TheVariants.{Memory}
use Rattle.ga_source.specs.declared.error.SourceError.{SourceError}
use Rattle.ga_source.specs.Error.{error_place}

-- a fault is reported at a token, by its number from 0, or at the text's end, unless memory was
-- refused
abbrev pub IsReported : List ℕ → ℕ → SourceErrorKind → SourceError → Type 0
IsReported text token kind error =
    error.kind ≢ Memory
    → (error.kind ≡ kind) × (error_place error ≡ place_at (places_of text) token)
