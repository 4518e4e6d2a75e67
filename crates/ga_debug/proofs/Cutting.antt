-- How a text is cut at its first separator.
use Rattle.std.proofs.Common.{◌≡◌, ◌∙◌, ℕ, ◌<◌, ◌==◌, Some, None, List, [], ◌∷◌, refl, sym, subst}
use Rattle.std.specs.Borrow.{Bor}
use Rattle.std.proofs.lemmas.List.Splits.{slice_split_first, slice_split_none}
use Rattle.std.proofs.lemmas.List.Sums.{fails_before_first}
use Rattle.std.proofs.lemmas.Str.Pattern.{IsSplitOnceResult, split_once_first}
use Rattle.ga_debug.specs.Pieces.{pieces}

-- a text without separator is one piece
pub no_cut : (separator : ℕ) (text : List ℕ) → separator < 128
    → IsSplitOnceResult separator text None → pieces separator text ≡ text ∷ []
no_cut separator text ascii h =
    let none = split_once_first separator text None h ascii in
    slice_split_none (λ c. c == separator) text (λ k d within.
    fails_before_first (λ c. c == separator) text k d (subst (λ n. k < n) (sym none) within))

-- else the first piece is before the first separator
pub first_cut : (separator : ℕ) (text : List ℕ) (piece behind : Bor (List ℕ)) → separator < 128
    → IsSplitOnceResult separator text (Some (piece, behind))
    → pieces separator text ≡ piece.now ∷ pieces separator behind.now
first_cut separator text piece behind ascii h =
    let cut = split_once_first separator text (Some (piece, behind)) h ascii in
    slice_split_first (λ c. c == separator) text 0 cut.0 ∙ rw (cut.1, cut.2) refl
