-- Turns of a watch, one step of its loop at a time.
use Rattle.std.proofs.Common.{◌≡◌, ◌∙◌, ℕ, suc, ◌+◌, ◌-◌, ◌<◌, ◌≤◌, ◌==◌, true, false, List, ◌++◌, ap, arith, refl, sym}
use Rattle.std.specs.Prelude.{Option}
use Rattle.ga_asm.specs.Image.{ImageView}
use Rattle.ga_chip.specs.Chip.{Chip}
use Rattle.ga_trace.specs.declared.traced.MadeTurn.{MadeTurn}
use Rattle.ga_trace.specs.declared.what.Value.{Value}
use Rattle.ga_trace.specs.declared.what.What.{What}
use Rattle.ga_trace.specs.Traced.{moved_in, quiet_after, step_in, turn_line, turned}
use Rattle.ga_trace.specs.Watched.{change_line, changes_to, no_change_line, value_in_turn, watched_from}
use Rattle.ga_trace.specs.inner.Traced.{IsMade}
use Rattle.ga_trace.specs.What.{value_of}

-- what the turn of a number shows, by the chip behind it
abbrev pub shown_in : What → ℕ → ℕ → Chip → Chip → Value
shown_in what name number chip next =
    value_in_turn what (step_in name number chip) (value_of what name next)

-- what a turn that was made shows
pub made_shown : (what : What) (name number : ℕ) (old next : Chip) (made : MadeTurn)
    → IsMade name number old next made → (end new : Value) → end ≡ value_of what name next
    → new ≡ value_in_turn what made.step end → new ≡ shown_in what name number old next
made_shown what name number old next made is end new is_end is_new =
    is_new ∙ ap (value_in_turn what made.step) is_end
    ∙ ap (λ s. value_in_turn what s (value_of what name next)) is.step

-- no step comes any more
pub watch_quiet : (images : List (ℕ × ImageView)) (name most number quiet : ℕ) (what : What)
    (goal : Option Value) (chip : Chip) (whole : List ℕ × Chip) → number < most
    → (quiet == 4) ≡ true
    → watched_from images name what goal (most - number) number quiet chip ≡ whole
    → (no_change_line name chip, chip) ≡ whole
unfolding watched_from
watch_quiet images name most number quiet what goal chip whole within four so_far =
    let left = most - (number + 1) in
    let more : most - number ≡ suc left = omega (arith, within) in
    let end : watched_from images name what goal (suc left) number quiet chip
    ≡ (no_change_line name chip, chip) = rw (four) refl in
    sym end ∙ ap (λ n. watched_from images name what goal n number quiet chip) (sym more) ∙ so_far

-- all turns were made
pub watch_ended : (images : List (ℕ × ImageView)) (name most number quiet : ℕ) (what : What)
    (goal : Option Value) (chip : Chip) (whole : List ℕ × Chip) → most ≤ number
    → watched_from images name what goal (most - number) number quiet chip ≡ whole
    → (no_change_line name chip, chip) ≡ whole
unfolding watched_from
watch_ended images name most number quiet what goal chip whole past so_far =
    let none : most - number ≡ 0 = omega (arith, past) in
    ap (λ n. watched_from images name what goal n number quiet chip) (sym none) ∙ so_far

-- the value changes
pub watch_found : (images : List (ℕ × ImageView)) (name most number quiet : ℕ) (what : What)
    (goal : Option Value) (chip next : Chip) (old new : Value) (text longer : List ℕ)
    (whole : List ℕ × Chip) → number < most → (quiet == 4) ≡ false → next ≡ turned number chip
    → old ≡ value_of what name chip → new ≡ shown_in what name number chip next
    → changes_to goal old new ≡ true → text ≡ turn_line images name number chip
    → longer ≡ text ++ change_line old new (number + 1)
    → watched_from images name what goal (most - number) number quiet chip ≡ whole
    → (longer, next) ≡ whole
unfolding watched_from
watch_found images name most number quiet what goal chip next old new text longer whole within
    going is_next is_old is_new changes wrote_line wrote so_far =
    let left = most - (number + 1) in
    let more : most - number ≡ suc left = omega (arith, within) in
    let one : number + 1 ≡ suc number = omega arith in
    let before = value_of what name chip in
    let after = shown_in what name number chip (turned number chip) in
    let newer : new ≡ after = is_new ∙ ap (shown_in what name number chip) is_next in
    let found : changes_to goal before after ≡ true =
    sym (ap (λ v. changes_to goal v after) is_old) ∙ sym (ap (λ v. changes_to goal old v) newer)
    ∙ changes in
    let here : watched_from images name what goal (suc left) number quiet chip
    ≡ (
      turn_line images name number chip ++ change_line before after (suc number),
      turned number chip,
    ) = rw (going, found) refl in
    ap (λ t. (t, next)) (wrote ∙ ap (λ t. t ++ change_line old new (number + 1)) wrote_line
    ∙ ap (λ v. turn_line images name number chip ++ change_line v new (number + 1)) is_old
    ∙ ap (λ v. turn_line images name number chip ++ change_line before v (number + 1)) newer
    ∙ ap (λ n. turn_line images name number chip ++ change_line before after n) one)
    ∙ ap (λ c. (turn_line images name number chip ++ change_line before after (suc number), c))
    is_next
    ∙ sym here ∙ ap (λ n. watched_from images name what goal n number quiet chip) (sym more)
    ∙ so_far

-- it doesn't yet
pub watch_next : (images : List (ℕ × ImageView)) (name most number quiet : ℕ) (what : What)
    (goal : Option Value) (chip next : Chip) (old new : Value) (moved : ℕ)
    (whole : List ℕ × Chip) → number < most → (quiet == 4) ≡ false → next ≡ turned number chip
    → moved ≡ moved_in number chip → old ≡ value_of what name chip
    → new ≡ shown_in what name number chip next → changes_to goal old new ≡ false
    → watched_from images name what goal (most - number) number quiet chip ≡ whole
    → watched_from images name what goal (most - (number + 1)) (number + 1)
    (quiet_after quiet moved) next ≡ whole
unfolding watched_from
watch_next images name most number quiet what goal chip next old new moved whole within going
    is_next is_moved is_old is_new same so_far =
    let left = most - (number + 1) in
    let more : most - number ≡ suc left = omega (arith, within) in
    let one : number + 1 ≡ suc number = omega arith in
    let before = value_of what name chip in
    let after = shown_in what name number chip (turned number chip) in
    let newer : new ≡ after = is_new ∙ ap (shown_in what name number chip) is_next in
    let other : changes_to goal before after ≡ false =
    sym (ap (λ v. changes_to goal v after) is_old) ∙ sym (ap (λ v. changes_to goal old v) newer)
    ∙ same in
    let here : watched_from images name what goal (suc left) number quiet chip
    ≡ watched_from images name what goal left (suc number)
    (quiet_after quiet (moved_in number chip)) (turned number chip) = rw (going, other) refl in
    ap (λ n. watched_from images name what goal left n (quiet_after quiet moved) next) one
    ∙ ap (λ m. watched_from images name what goal left (suc number) (quiet_after quiet m) next)
    is_moved
    ∙ ap (λ c. watched_from images name what goal left (suc number)
    (quiet_after quiet (moved_in number chip)) c) is_next
    ∙ sym here ∙ ap (λ n. watched_from images name what goal n number quiet chip) (sym more)
    ∙ so_far
