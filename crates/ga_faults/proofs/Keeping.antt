-- The lines that a part keeps, and its text.
use Rattle.std.proofs.Common.{◌≡◌, ◌∙◌, ◌+◌, ◌-◌, ◌<◌, ◌≤◌, ◌++◌, ℕ, List, [], ◌∷◌, Option, Some, None, length, map, get_or, drop, refl, ap, sym, append-nil, append_assoc, Bor}
use Rattle.std.specs.List.{join_by, join_with_byte}
use Rattle.std.proofs.lemmas.List.{map-append, take-map}
use Rattle.ga_faults.specs.Sections.{kept_line, kept_lines, up_to}
use Rattle.ga_faults.proofs.TokensRead.{left_at, none_left}

abbrev pub now : Bor (List ℕ) → List ℕ
now line = line.now

-- one more line is kept, or an empty one is in its place
pub kept_more : (head first : ℕ) (lines : List (Bor (List ℕ))) (index : ℕ)
    (other shown : Bor (List ℕ)) (kept new : List (Bor (List ℕ))) (all : List (List ℕ))
    → index < length lines
    → map now kept ++ kept_lines head first (index + 1) (drop index (map now lines)) ≡ all
    → shown.now ≡ kept_line head first (index + 1) (get_or lines index other).now
    → new ≡ kept ++ shown ∷ []
    → map now new ++ kept_lines head first (index + 1 + 1) (drop (index + 1) (map now lines))
    ≡ all
unfolding kept_lines
kept_more head first lines index other shown kept new all inside so_far is pushed =
    let rest = kept_lines head first (index + 1 + 1) (drop (index + 1) (map now lines)) in
    ap (λ ls. map now ls ++ rest) pushed
    ∙ ap (λ ls. ls ++ rest) (map-append now kept (shown ∷ []))
    ∙ append_assoc (map now kept) (shown.now ∷ []) rest
    ∙ ap (λ bytes. map now kept ++ bytes ∷ rest) is
    ∙ ap (λ left. map now kept ++ kept_lines head first (index + 1) left)
    (sym (left_at now lines index (get_or lines index other) other inside refl))
    ∙ so_far

-- the lines of a part, when none is left
pub kept_all : (head first : ℕ) (lines : List (Bor (List ℕ))) (index : ℕ)
    (kept : List (Bor (List ℕ))) (all : List (List ℕ)) → length lines ≤ index
    → map now kept ++ kept_lines head first (index + 1) (drop index (map now lines)) ≡ all
    → map now kept ≡ all
unfolding kept_lines
kept_all head first lines index kept all past so_far =
    sym (append-nil (map now kept))
    ∙ ap (λ left. map now kept ++ kept_lines head first (index + 1) left)
    (sym (none_left now lines index past))
    ∙ so_far

-- the lines up to an end, as the code has them
pub now_up_to : (next : Option ℕ) (lines : List (Bor (List ℕ)))
    → map now (up_to next lines) ≡ up_to next (map now lines)
now_up_to None lines = refl
now_up_to (Some next) lines = sym (take-map now (next - 1) lines)

-- `join` writes the same as the definition
pub joined : (pieces : List (Bor (List ℕ)))
    → join_by now (10 ∷ []) pieces ≡ join_with_byte 10 (map now pieces)
joined [] = refl
joined (piece ∷ []) = append-nil piece.now
joined (piece ∷ next ∷ pieces) =
    ap (λ bytes. piece.now ++ 10 ∷ bytes) (joined (next ∷ pieces))
