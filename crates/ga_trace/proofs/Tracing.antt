-- Turns of a trace, one step of its loop at a time.
use Rattle.std.proofs.Common.{◌≡◌, ◌∙◌, ℕ, zero, suc, ◌+◌, ◌-◌, ◌<◌, ◌≤◌, ◌==◌, true, false, List, [], ◌++◌, ap, append-nil, append_assoc, arith, refl, sym}
use Rattle.std.specs.Prelude.{Option, Some, if◌then◌else◌}
use Rattle.std.specs.Option.{option_map_or}
use Rattle.ga_asm.specs.Image.{ImageView}
use Rattle.ga_chip.specs.Chip.{Chip, state_of}
use Rattle.ga_node.specs.State.{State}
use Rattle.ga_observe.specs.declared.step.Step.{Step}
use Rattle.ga_trace.specs.Stepped.{line_between, rest_line}
use Rattle.ga_trace.specs.declared.traced.MadeTurn.{MadeTurn}
use Rattle.ga_trace.specs.inner.Traced.{IsMade, made_line}
use Rattle.ga_trace.specs.Traced.{is_over, less_by, moved_in, quiet_after, step_in, traced_from, turn_line, turned}

-- four quiet turns end it
pub quiet_bound : (name quiet : ℕ) (chip : Chip) → quiet ≤ 4 → is_over name quiet chip ≡ false
    → quiet ≤ 3
quiet_bound name quiet chip most going = grind arith

-- a text in front of what follows
abbrev pub behind : List ℕ → List ℕ × Chip → List ℕ × Chip
behind text rest = (text ++ rest.0, rest.1)

-- all steps were made
pub trace_done : (images : List (ℕ × ImageView)) (name left turn quiet steps : ℕ) (chip : Chip)
    (text : List ℕ) (whole : List ℕ × Chip) → steps ≡ 0
    → behind text (traced_from images name left turn quiet steps chip) ≡ whole
    → (text, chip) ≡ whole
unfolding traced_from
trace_done images name zero turn quiet steps chip text whole none so_far =
    let end : traced_from images name zero turn quiet steps chip ≡ ([], chip) =
    ap (λ n. (if n == 0 then [] else rest_line name chip, chip)) none in
    ap (λ t. (t, chip)) (sym (append-nil text)) ∙ ap (behind text) (sym end) ∙ so_far
trace_done images name (suc left) turn quiet steps chip text whole none so_far =
    let end : traced_from images name (suc left) turn quiet steps chip ≡ ([], chip) =
    rw (none) refl in
    ap (λ t. (t, chip)) (sym (append-nil text)) ∙ ap (behind text) (sym end) ∙ so_far

-- no more come
pub trace_over : (images : List (ℕ × ImageView)) (name most number quiet steps : ℕ) (chip : Chip)
    (text longer : List ℕ) (whole : List ℕ × Chip) → number < most → (steps == 0) ≡ false
    → is_over name quiet chip ≡ true → longer ≡ text ++ rest_line name chip
    → behind text (traced_from images name (most - number) number quiet steps chip) ≡ whole
    → (longer, chip) ≡ whole
unfolding traced_from
trace_over images name most number quiet steps chip text longer whole within some over wrote
    so_far =
    let left = most - (number + 1) in
    let more : most - number ≡ suc left = omega (arith, within) in
    let end : traced_from images name (suc left) number quiet steps chip
    ≡ (rest_line name chip, chip) = rw (some, over) refl in
    ap (λ t. (t, chip)) wrote ∙ ap (behind text) (sym end)
    ∙ ap (λ n. behind text (traced_from images name n number quiet steps chip)) (sym more)
    ∙ so_far

-- all turns were made
pub trace_ended : (images : List (ℕ × ImageView)) (name most number quiet steps : ℕ) (chip : Chip)
    (text longer : List ℕ) (whole : List ℕ × Chip) → most ≤ number
    → longer ≡ text ++ (if steps == 0 then [] else rest_line name chip)
    → behind text (traced_from images name (most - number) number quiet steps chip) ≡ whole
    → (longer, chip) ≡ whole
unfolding traced_from
trace_ended images name most number quiet steps chip text longer whole past wrote so_far =
    let none : most - number ≡ 0 = omega (arith, past) in
    ap (λ t. (t, chip)) wrote
    ∙ ap (λ n. behind text (traced_from images name n number quiet steps chip)) (sym none)
    ∙ so_far

-- the line of a turn that was made
pub made_told : (images : List (ℕ × ImageView)) (name number : ℕ) (old next : Chip)
    (made : MadeTurn) (new : State) → IsMade name number old next made
    → Some new ≡ state_of next name → made_line images made new ≡ turn_line images name number old
made_told images name number old next made new is after =
    ap (λ (o : Option State). option_map_or (λ step. line_between images step o (Some new))
    made.step []) is.before
    ∙ ap (λ (o : Option State). option_map_or
    (λ step. line_between images step (state_of old name) o)
    made.step []) (after ∙ ap (λ c. state_of c name) is.chip)
    ∙ ap (λ (s : Option Step). option_map_or (λ step. line_between images step (state_of old name)
    (state_of (turned number old) name)) s []) is.step

-- one more turn
pub trace_next : (images : List (ℕ × ImageView)) (name most number quiet steps : ℕ)
    (chip next : Chip) (text longer : List ℕ) (moved : ℕ) (step : Option Step)
    (whole : List ℕ × Chip) → number < most → (steps == 0) ≡ false
    → is_over name quiet chip ≡ false → next ≡ turned number chip → moved ≡ moved_in number chip
    → step ≡ step_in name number chip → longer ≡ text ++ turn_line images name number chip
    → behind text (traced_from images name (most - number) number quiet steps chip) ≡ whole
    → behind longer (traced_from images name (most - (number + 1)) (number + 1)
    (quiet_after quiet moved) (less_by steps step) next) ≡ whole
unfolding traced_from
trace_next images name most number quiet steps chip next text longer moved step whole within some
    going is_next is_moved is_step wrote so_far =
    let left = most - (number + 1) in
    let more : most - number ≡ suc left = omega (arith, within) in
    let one : number + 1 ≡ suc number = omega arith in
    let line = turn_line images name number chip in
    let rest = traced_from images name left (suc number)
    (quiet_after quiet (moved_in number chip)) (less_by steps (step_in name number chip))
    (turned number chip) in
    let here : traced_from images name (suc left) number quiet steps chip ≡ behind line rest =
    rw (some, going) refl in
    ap (λ n. behind longer (traced_from images name left n (quiet_after quiet moved)
    (less_by steps step) next)) one
    ∙ ap (λ m. behind longer (traced_from images name left (suc number) (quiet_after quiet m)
    (less_by steps step) next)) is_moved
    ∙ ap (λ s. behind longer (traced_from images name left (suc number)
    (quiet_after quiet (moved_in number chip)) (less_by steps s) next)) is_step
    ∙ ap (λ c. behind longer (traced_from images name left (suc number)
    (quiet_after quiet (moved_in number chip)) (less_by steps (step_in name number chip)) c))
    is_next
    ∙ ap (λ t. behind t rest) wrote
    ∙ ap (λ t. (t, rest.1)) (append_assoc text line rest.0)
    ∙ ap (behind text) (sym here)
    ∙ ap (λ n. behind text (traced_from images name n number quiet steps chip)) (sym more)
    ∙ so_far
