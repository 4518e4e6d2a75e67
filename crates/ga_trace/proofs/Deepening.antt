-- Turns in which the depth of stacks is counted, one step of the loop at a time.
use Rattle.std.proofs.Common.{◌≡◌, ◌∙◌, ℕ, suc, ◌+◌, ◌-◌, ◌<◌, ◌≤◌, ◌==◌, Bool, true, false, ap, arith, refl, sym}
use Rattle.std.specs.Prelude.{◌||◌, Option}
use Rattle.ga_chip.specs.Chip.{Chip, state_of}
use Rattle.ga_node.specs.State.{State}
use Rattle.ga_observe.specs.declared.step.Step.{Step}
use Rattle.ga_trace.specs.declared.depth.StackDepths.{StackDepths}
use Rattle.ga_trace.specs.Depth.{after_step, deep_from, r_of}
use Rattle.ga_trace.specs.Traced.{moved_in, quiet_after, step_in, turned}

-- all steps were made, or no more come
pub deep_done : (most number quiet : ℕ) (done : Option State → Bool) (name : ℕ)
    (depths : StackDepths) (chip : Chip) (whole : StackDepths × Chip) → number < most
    → (done (state_of chip name) || (quiet == 4)) ≡ true
    → deep_from (most - number) number quiet done name depths chip ≡ whole
    → (depths, chip) ≡ whole
unfolding deep_from
deep_done most number quiet done name depths chip whole within over so_far =
    let left = most - (number + 1) in
    let more : most - number ≡ suc left = omega (arith, within) in
    let end : deep_from (suc left) number quiet done name depths chip ≡ (depths, chip) =
    rw (over) refl in
    sym end ∙ ap (λ n. deep_from n number quiet done name depths chip) (sym more) ∙ so_far

-- all turns were made
pub deep_ended : (most number quiet : ℕ) (done : Option State → Bool) (name : ℕ)
    (depths : StackDepths) (chip : Chip) (whole : StackDepths × Chip) → most ≤ number
    → deep_from (most - number) number quiet done name depths chip ≡ whole
    → (depths, chip) ≡ whole
unfolding deep_from
deep_ended most number quiet done name depths chip whole past so_far =
    let none : most - number ≡ 0 = omega (arith, past) in
    ap (λ n. deep_from n number quiet done name depths chip) (sym none) ∙ so_far

-- one more turn
pub deep_next : (most number quiet : ℕ) (done : Option State → Bool) (name : ℕ)
    (depths more_depths : StackDepths) (chip next : Chip) (moved : ℕ) (step : Option Step) (r : ℕ)
    (whole : StackDepths × Chip) → number < most
    → (done (state_of chip name) || (quiet == 4)) ≡ false → next ≡ turned number chip
    → moved ≡ moved_in number chip → step ≡ step_in name number chip → r ≡ r_of (state_of chip name)
    → more_depths ≡ after_step step r depths
    → deep_from (most - number) number quiet done name depths chip ≡ whole
    → deep_from (most - (number + 1)) (number + 1) (quiet_after quiet moved) done name more_depths
    next ≡ whole
unfolding deep_from
deep_next most number quiet done name depths more_depths chip next moved step r whole within
    going is_next is_moved is_step is_r is_deeper so_far =
    let left = most - (number + 1) in
    let more : most - number ≡ suc left = omega (arith, within) in
    let one : number + 1 ≡ suc number = omega arith in
    let own = r_of (state_of chip name) in
    let here : deep_from (suc left) number quiet done name depths chip
    ≡ deep_from left (suc number) (quiet_after quiet (moved_in number chip)) done name
    (after_step (step_in name number chip) own depths) (turned number chip) = rw (going) refl in
    let deeper : more_depths ≡ after_step (step_in name number chip) own depths =
    is_deeper ∙ ap (λ s. after_step s r depths) is_step
    ∙ ap (λ n. after_step (step_in name number chip) n depths) is_r in
    ap (λ n. deep_from left n (quiet_after quiet moved) done name more_depths next) one
    ∙ ap (λ m. deep_from left (suc number) (quiet_after quiet m) done name more_depths next)
    is_moved
    ∙ ap (λ d. deep_from left (suc number) (quiet_after quiet (moved_in number chip)) done name d
    next) deeper
    ∙ ap (λ c. deep_from left (suc number) (quiet_after quiet (moved_in number chip)) done name
    (after_step (step_in name number chip) own depths) c) is_next
    ∙ sym here ∙ ap (λ n. deep_from n number quiet done name depths chip) (sym more) ∙ so_far
