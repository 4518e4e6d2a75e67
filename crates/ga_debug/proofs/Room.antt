-- A text has no more lines than characters.
use Rattle.std.proofs.Common.{◌≡◌, ◌∙◌, ℕ, ◌+◌, ◌≤◌, ◌==◌, List, [], ◌∷◌, length, arith, ap, sym}
use Rattle.ga_source.proofs.Lines.{span, span_split}
use Rattle.ga_debug.specs.Pieces.{pieces}

room_least : (all : List (List ℕ)) → length all ≤ span all
room_least [] = omega arith
room_least (piece ∷ all) = omega (arith, room_least all)

-- behind a first line of this length
pub lines_left : (separator : ℕ) (text first : List ℕ) (rest : List (List ℕ))
    → pieces separator text ≡ first ∷ rest → length first + length rest ≤ length text
lines_left separator text first rest e =
    let whole : span (first ∷ rest) ≡ length text + 1 =
    ap span (sym e) ∙ span_split (λ c. c == separator) text in
    omega (arith, whole, room_least rest)
