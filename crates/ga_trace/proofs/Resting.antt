-- Turns until rest, one step of the loop at a time.
use Rattle.std.proofs.Common.{◌≡◌, ◌∙◌, ℕ, suc, ◌+◌, ◌-◌, ◌<◌, ◌==◌, true, false, List, ap, arith, length, length-append, refl, sym}
use Rattle.std.specs.List.{flat_map, range_with_len}
use Rattle.ga_dump.proofs.Lines.{next_line}
use Rattle.ga_place.specs.Cell.{name_at}
use Rattle.ga_chip.specs.Chip.{Chip}
use Rattle.ga_trace.specs.declared.rest.Ran.{Ran}
use Rattle.ga_trace.specs.Rest.{calm_after, if_spins, ran_from, spin_count}
use Rattle.ga_trace.specs.Traced.{moved_in, turned}

-- four calm turns are enough
pub run_rests : (most turns moved calm : ℕ) (chip : Chip) (whole : Ran × Chip) → turns < most
    → calm ≡ 4 → ran_from (most - turns) turns moved calm chip ≡ whole
    → ◌≡◌ {A = Ran × Chip} (record { turns = turns; moved = moved; rests = true }, chip) whole
unfolding ran_from
run_rests most turns moved calm chip whole within four so_far =
    let left = most - (turns + 1) in
    let more : most - turns ≡ suc left = omega (arith, within) in
    let here : ran_from (suc left) turns moved 4 chip
    ≡ (record { turns = turns; moved = moved; rests = true }, chip) = refl in
    sym here ∙ ap (λ c. ran_from (suc left) turns moved c chip) (sym four)
    ∙ ap (λ n. ran_from n turns moved calm chip) (sym more) ∙ so_far

-- all turns were made
pub run_ended : (most turns moved calm : ℕ) (chip : Chip) (whole : Ran × Chip) → turns ≡ most
    → ran_from (most - turns) turns moved calm chip ≡ whole
    → ◌≡◌ {A = Ran × Chip} (record { turns = most; moved = moved; rests = calm == 4 }, chip) whole
unfolding ran_from
run_ended most turns moved calm chip whole all so_far =
    let none : most - turns ≡ 0 = omega (arith, all) in
    ap (λ n. (record { turns = n; moved = moved; rests = calm == 4 }, chip)) (sym all)
    ∙ ap (λ n. ran_from n turns moved calm chip) (sym none) ∙ so_far

-- one more turn
pub run_next : (most turns moved calm steps spinning : ℕ) (chip next : Chip) (whole : Ran × Chip)
    → turns < most → (calm == 4) ≡ false → next ≡ turned turns chip → steps ≡ moved_in turns chip
    → spinning ≡ spin_count chip → ran_from (most - turns) turns moved calm chip ≡ whole
    → ran_from (most - (turns + 1)) (turns + 1) (moved + steps)
    (calm_after calm steps spinning) next ≡ whole
unfolding ran_from
run_next most turns moved calm steps spinning chip next whole within going is_next made spin
    so_far =
    let left = most - (turns + 1) in
    let more : most - turns ≡ suc left = omega (arith, within) in
    let one : turns + 1 ≡ suc turns = omega arith in
    let here : ran_from (suc left) turns moved calm chip
    ≡ ran_from left (suc turns) (moved + moved_in turns chip)
    (calm_after calm (moved_in turns chip) (spin_count chip)) (turned turns chip) =
    rw (going) refl in
    ap (λ n. ran_from left n (moved + steps) (calm_after calm steps spinning) next) one
    ∙ ap (λ s. ran_from left (suc turns) (moved + s) (calm_after calm s spinning) next) made
    ∙ ap (λ s. ran_from left (suc turns) (moved + moved_in turns chip)
    (calm_after calm (moved_in turns chip) s) next) spin
    ∙ ap (λ c. ran_from left (suc turns) (moved + moved_in turns chip)
    (calm_after calm (moved_in turns chip) (spin_count chip)) c) is_next
    ∙ sym here ∙ ap (λ n. ran_from n turns moved calm chip) (sym more) ∙ so_far

-- one more node
pub one_more : (chip : Chip) (index count more : ℕ)
    → count ≡ length (flat_map (λ i. if_spins chip (name_at i)) (range_with_len 0 index))
    → more ≡ length (if_spins chip (name_at index))
    → count + more
    ≡ length (flat_map (λ i. if_spins chip (name_at i)) (range_with_len 0 (index + 1)))
one_more chip index count more so_far is =
    let names : ℕ → List ℕ = λ i. if_spins chip (name_at i) in
    ap (λ n. n + more) so_far
    ∙ ap (λ n. length (flat_map names (range_with_len 0 index)) + n) is
    ∙ sym (length-append (flat_map names (range_with_len 0 index)) (names index))
    ∙ ap (λ (l : List ℕ). length l) (sym (next_line names index))
