-- Turns, one step of a loop at a time.
use Rattle.std.proofs.Common.{◌≡◌, ◌∙◌, ℕ, suc, ◌+◌, ◌-◌, ◌<◌, false, Option, ap, arith, refl, sym}
use Rattle.ga_chip.specs.Chip.{Chip}
use Rattle.ga_debug.specs.declared.until.Reached.{Reached}
use Rattle.ga_debug.specs.Until.{is_there, turn_past, until_from}

-- one more turn
pub turn_next : (count turns moved passes node at : ℕ) (chip next : Chip) (left steps : ℕ)
    (all : Option Reached × Chip) → turns < count → is_there node at passes chip ≡ false
    → ◌≡◌ {A = (ℕ × ℕ) × Chip} ((left, steps), next) (turn_past node at passes turns chip)
    → until_from (count - turns) turns moved passes node at chip ≡ all
    → until_from (count - (turns + 1)) (turns + 1) (moved + steps) left node at next ≡ all
turn_next count turns moved passes node at chip next left steps all within free is_next so_far =
    let rest = count - (turns + 1) in
    let more : count - turns ≡ suc rest = omega (arith, within) in
    let one : turns + 1 ≡ suc turns = omega arith in
    let past = turn_past node at passes turns chip in
    let step : until_from (suc rest) turns moved passes node at chip
    ≡ until_from rest (suc turns) (moved + past.0.1) past.0.0 node at past.1 = rw (free) refl in
    ap (λ n. until_from rest n (moved + steps) left node at next) one
    ∙ ap (λ (p : (ℕ × ℕ) × Chip). until_from rest (suc turns) (moved + p.0.1) p.0.0 node at p.1)
    is_next
    ∙ sym step
    ∙ sym (ap (λ n. until_from n turns moved passes node at chip) more)
    ∙ so_far
