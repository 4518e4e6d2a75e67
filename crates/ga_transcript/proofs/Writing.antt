-- Lines, one step of a loop at a time.
use Rattle.std.proofs.Common.{◌≡◌, ◌∙◌, ℕ, zero, suc, ◌-◌, ◌<◌, List, ◌∷◌, ◌++◌, ap, append_assoc, arith, sym, take}
use Rattle.ga_transcript.specs.Following.{Lines}
use Rattle.ga_transcript.specs.Record.{behind_ends}

-- one more of the first lines
pub front_next : (front front' line : List ℕ) (lines rest : Lines) (left : ℕ) (all : List ℕ)
    → 0 < left → lines ≡ line ∷ rest → front' ≡ front ++ 10 ∷ line
    → front ++ behind_ends (take left lines) ≡ all
    → front' ++ behind_ends (take (left - 1) rest) ≡ all
front_next front front' line lines rest zero all some is wrote so_far = absurd (omega (arith, some))
front_next front front' line lines rest (suc left) all some is wrote so_far =
    let less : suc left - 1 ≡ left = omega arith in
    ap (λ n. front' ++ behind_ends (take n rest)) less
    ∙ ap (λ t. t ++ behind_ends (take left rest)) wrote
    ∙ append_assoc front (10 ∷ line) (behind_ends (take left rest))
    ∙ sym (ap (λ (ls : Lines). front ++ behind_ends (take (suc left) ls)) is)
    ∙ so_far
