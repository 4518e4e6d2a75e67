-- Lines that are written one by one, each behind its number.
use Rattle.std.proofs.Common.{◌≡◌, ◌∙◌, ℕ, ◌+◌, ◌<◌, List, ◌∷◌, ◌++◌, ap, drop, get_or, length, sym}
use Rattle.std.specs.List.{flat_map}
use Rattle.std.proofs.lemmas.List.{append_assoc, drop_more}
use Rattle.ga_report.specs.Source.{numbered_pair}

-- the line that comes next is the first of those that are left
pub line_more : (all : List (ℕ × List ℕ)) (text : List ℕ) (n m : ℕ) (line : ℕ × List ℕ)
    → (n < length all) × (line ≡ get_or all n line) → m ≡ n + 1
    → (text ++ numbered_pair line) ++ flat_map numbered_pair (drop m all)
    ≡ text ++ flat_map numbered_pair (drop n all)
line_more all text n m line turn more =
    append_assoc text (numbered_pair line) (flat_map numbered_pair (drop m all))
    ∙ ap (λ rest. text ++ flat_map numbered_pair rest)
    (sym (drop_more all n line turn.0 ∙ ap (λ first. first ∷ drop (n + 1) all) (sym turn.1)
    ∙ ap (λ k. line ∷ drop k all) (sym more)))
