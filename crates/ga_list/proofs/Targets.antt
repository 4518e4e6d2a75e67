-- The address that a destination means which was laid for a name is that name's.
use Rattle.std.proofs.Common.{◌≡◌, ◌∙◌, ◌≤◌, ℕ, zero, suc, ◌+◌, ◌-◌, ◌*◌, ◌/◌, ◌%◌, true, false, List, [], ◌∷◌, ◌++◌, length, Some, refl, ap, length-append, arith}
use Rattle.std.proofs.lemmas.Bool.{eqb-true}
use Rattle.std.proofs.lemmas.Grind.{common_steps}
use Rattle.std.specs.Prelude.{count_by}
use Rattle.std.specs.Option.{unwrap_or}
use Rattle.ga_word.specs.declared.op.Op.{Op}
use Rattle.ga_word.specs.declared.op.Op.TheVariants.{FetchP, StoreP}
use Rattle.ga_word.specs.Op.{takes_dest}
use Rattle.ga_pack.specs.Followers.{is_followed}
use Rattle.ga_pack.specs.Slots.{dest_bound}
use Rattle.ga_pack.specs.Model.Layout.{Labels, address_of, dest_in, p_behind, reaches}
use Rattle.ga_pack.specs.Model.Source.{Label}
use Rattle.ga_list.specs.Reading.{target}

-- what takes a destination has no follower
pub not_followed : (o : Op) → takes_dest o ≡ true → is_followed o ≡ false
not_followed FetchP h = cc
not_followed StoreP h = cc
not_followed o h = refl

count_snoc : (ops : List Op) (o : Op) → is_followed o ≡ false
    → count_by is_followed (ops ++ o ∷ []) ≡ count_by is_followed ops
count_snoc [] o h = grind (arith, common_steps)
count_snoc (p ∷ ops) o h = let rest = count_snoc ops o h in grind (arith, common_steps)

count_most : (ops : List Op) → count_by is_followed ops ≤ length ops
count_most [] = omega arith
count_most (o ∷ ops) = let rest = count_most ops in grind (arith, common_steps)

-- P with its low bits replaced by those of an address that is in reach
replaced : (slot p at : ℕ) → p ≤ 65 + slot → at ≤ 64 → reaches slot p at ≡ true
    → p / dest_bound slot * dest_bound slot + at % dest_bound slot ≡ at
replaced zero p at few near h = omega arith
replaced (suc zero) p at few near h = omega arith
replaced (suc (suc zero)) p at few near h =
    let same : at / 8 ≡ p / 8 = eqb-true (at / 8) (p / 8) h in omega arith
replaced (suc (suc (suc slot))) p at few near h = absurd (grind (arith, common_steps))

pub target_is : (labels : Labels) (address : ℕ) (ops : List Op) (o : Op) (s : List ℕ) (at : ℕ)
    → is_followed o ≡ false → address ≤ 64 → at ≤ 64 → address_of labels s ≡ Some at
    → reaches (length ops) (p_behind address ops) at ≡ true
    → target address (ops ++ o ∷ []) (dest_in labels (length ops) (Label s)) ≡ at
target_is labels address ops o s at stays few near there h =
    let slot = length ops in
    let p = p_behind address ops in
    let slot_is : length (ops ++ o ∷ []) - 1 ≡ slot = omega (arith, length-append ops (o ∷ [])) in
    let p_is : p_behind address (ops ++ o ∷ []) ≡ p =
    ap (λ n. address + 1 + n) (count_snoc ops o stays) in
    let dest_is : dest_in labels slot (Label s) ≡ at % dest_bound slot =
    ap (λ n. unwrap_or n 0 % dest_bound slot) there in
    let dest = dest_in labels slot (Label s) in
    ap (λ n. p_behind address (ops ++ o ∷ []) / dest_bound n * dest_bound n + dest) slot_is
    ∙ ap (λ n. n / dest_bound slot * dest_bound slot + dest) p_is
    ∙ ap (λ n. p / dest_bound slot * dest_bound slot + n) dest_is
    ∙ replaced slot p at (omega (arith, count_most ops)) near h
