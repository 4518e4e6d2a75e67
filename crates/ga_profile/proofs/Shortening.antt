-- Turns in which a node is twice as fast, one at a time.
use Rattle.std.proofs.Common.{◌≡◌, ◌∙◌, ℕ, zero, suc, ◌+◌, ◌-◌, ◌<◌, ◌&&◌, Bool, true, false, List, ap, ap₂, arith, get_or, length, subst, sym, take}
use Rattle.std.specs.Prelude.{Option, Some, None, if◌then◌else◌}
use Rattle.std.specs.List.{list_all, range_with_len}
use Rattle.std.proofs.Math.Seq.{take-length}
use Rattle.std.proofs.lemmas.List.Folds.{list_all_at, list_all_more}
use Rattle.std.proofs.lemmas.List.FromFn.{get_or-range_with_len, length-range_with_len}
use Rattle.ga_chip.specs.Chip.{Chip}
use Rattle.ga_profile.specs.Faster.{faster_turned, have_done, turns_if_faster}

-- ---- the work of all nodes

abbrev all : List ℕ
all = range_with_len 0 144

within : (index : ℕ) → index < 144 → index < length all
within index below = subst (λ n. index < n) (sym (length-range_with_len 0 144)) below

at : (p : ℕ → Bool) (index : ℕ) → index < 144 → p (get_or all index 0) ≡ p index
at p index below =
    let same : 0 + index ≡ index = omega arith in
    ap p (get_or-range_with_len 0 144 index 0 below ∙ same)

-- one more index passes, one doesn't, or all do
pub one_passes : (p : ℕ → Bool) (index : ℕ) → index < 144 → list_all p (take index all) ≡ true
    → p index ≡ true → list_all p (take (index + 1) all) ≡ true
one_passes p index below so_far here =
    list_all_more p all index 0 (within index below)
    ∙ ap₂ (λ a b. a && b) so_far (at p index below ∙ here)

pub one_fails : (p : ℕ → Bool) (index : ℕ) → index < 144 → p index ≡ false
    → list_all p all ≡ false
one_fails p index below here =
    list_all_at p all index 0 (within index below) (at p index below ∙ here)

pub all_pass : (p : ℕ → Bool) (index : ℕ) → index ≡ 144 → list_all p (take index all) ≡ true
    → list_all p all ≡ true
all_pass p index reached so_far =
    ap (list_all p) (sym (take-length all)
    ∙ ap (λ n. take n all) (length-range_with_len 0 144 ∙ sym reached)) ∙ so_far

-- ---- the turns

-- the work is done
pub made_now : (left made first name : ℕ) (goals : List ℕ) (chip : Chip) (whole : Option ℕ)
    → have_done goals chip ≡ true → turns_if_faster left made first name goals chip ≡ whole
    → Some made ≡ whole
unfolding turns_if_faster
made_now zero made first name goals chip whole done so_far =
    sym (ap (λ (b : Bool). if b then Some made else None) done) ∙ so_far
made_now (suc left) made first name goals chip whole done so_far =
    sym (ap (λ (b : Bool). if b then Some made else turns_if_faster left (suc made) first name goals
    (faster_turned name (first + made) chip)) done) ∙ so_far

-- one more turn is made
pub one_turn : (most made first name : ℕ) (goals : List ℕ) (chip next : Chip) (whole : Option ℕ)
    → made < most → have_done goals chip ≡ false → next ≡ faster_turned name (first + made) chip
    → turns_if_faster (most - made) made first name goals chip ≡ whole
    → turns_if_faster (most - (made + 1)) (made + 1) first name goals next ≡ whole
unfolding turns_if_faster
one_turn most made first name goals chip next whole below not_yet is so_far =
    let left = most - (made + 1) in
    let more : most - made ≡ suc left = omega (arith, below) in
    let one : made + 1 ≡ suc made = omega arith in
    ap (λ n. turns_if_faster left n first name goals next) one
    ∙ ap (turns_if_faster left (suc made) first name goals) is
    ∙ sym (ap (λ (b : Bool). if b then Some made else turns_if_faster left (suc made) first name
    goals (faster_turned name (first + made) chip)) not_yet)
    ∙ ap (λ n. turns_if_faster n made first name goals chip) (sym more) ∙ so_far

-- all turns are made, and the work isn't done
pub never_made : (most made first name : ℕ) (goals : List ℕ) (chip : Chip) (whole : Option ℕ)
    → made ≡ most → have_done goals chip ≡ false
    → turns_if_faster (most - made) made first name goals chip ≡ whole → None ≡ whole
unfolding turns_if_faster
never_made most made first name goals chip whole reached not_yet so_far =
    let none : most - made ≡ 0 = omega (arith, reached) in
    sym (ap (λ (b : Bool). if b then Some made else None) not_yet)
    ∙ ap (λ n. turns_if_faster n made first name goals chip) (sym none) ∙ so_far
