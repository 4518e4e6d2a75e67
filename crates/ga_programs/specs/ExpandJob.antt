-- The job `expand`: what it writes.
use Rattle.std.specs.Prelude.{◌≡◌, ℕ, List, map, Result, Ok, Err}
use Rattle.ga_pack.specs.Model.Text.{texts_of}
use Rattle.ga_expand.specs.Error.{fault_of}
use Rattle.ga_expand.specs.Expanding.{Piece}
use Rattle.ga_expand.specs.Texts.{expansion}
use Rattle.ga_expand.specs.declared.error.ExpandError.{ExpandError}
use Rattle.ga_input.specs.declared.fault.ServeError.{ServeError}
use Rattle.ga_input.specs.Text.{IsInText}
use Rattle.ga_input.specs.TextFault.{shown_expand_fault}

-- a text with the tokens that a text of the larger language expands to, or its first fault
abbrev pub IsExpanded : List ℕ → Result (List ℕ) ExpandError → Type 0
IsExpanded text (Ok made) =
    (pieces : List Piece) × (expansion text ≡ Ok pieces)
    × (texts_of made ≡ map (λ piece. piece.text) pieces)
IsExpanded text (Err error) = expansion text ≡ Err (fault_of error)

-- what `expand` may write for an input, or the first fault of the input, with what is shown of its
-- text
abbrev pub IsExpandOutput : List ℕ → Result (List ℕ) ServeError → Type 0
IsExpandOutput input answer = IsInText shown_expand_fault IsExpanded input answer
