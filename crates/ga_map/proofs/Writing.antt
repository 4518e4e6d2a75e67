-- Texts that are written part by part.
use Rattle.std.proofs.Common.{◌≡◌, ◌∙◌, ℕ, ◌+◌, List, ◌++◌, ap, append_assoc, sym}
use Rattle.std.specs.List.{flat_map, range_with_len}
use Rattle.ga_dump.proofs.Lines.{next_line}

-- one part more of those that are numbered from 0
pub part_more : (f : ℕ → List ℕ) (n : ℕ) (old text new : List ℕ)
    → text ≡ old ++ flat_map f (range_with_len 0 n) → new ≡ text ++ f n
    → new ≡ old ++ flat_map f (range_with_len 0 (n + 1))
part_more f n old text new so_far wrote =
    wrote ∙ ap (λ t. t ++ f n) so_far ∙ append_assoc old (flat_map f (range_with_len 0 n)) (f n)
    ∙ ap (λ t. old ++ t) (sym (next_line f n))
