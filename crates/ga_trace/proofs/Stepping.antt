-- Steps of one node, one at a time.
use Rattle.std.proofs.Common.{◌≡◌, ◌∙◌, ℕ, suc, ◌+◌, ◌-◌, ◌<◌, ◌≤◌, Bool, true, false, List, ◌∷◌, add-one, ap, append_assoc, arith, drop, drop-cons, get_or, refl, sym}
use Rattle.std.specs.Prelude.{Option, None, Some, find, if◌then◌else◌}
use Rattle.ga_asm.specs.Image.{ImageView}
use Rattle.ga_place.specs.Side.{SIDES}
use Rattle.ga_place.specs.declared.side.Side.{Side}
use Rattle.ga_place.specs.declared.side.Side.TheVariants.{Right}
use Rattle.ga_chip.specs.Chip.{Chip, state_of, tried}
use Rattle.ga_chip.specs.Run.{Try}
use Rattle.ga_chip.specs.declared.outcome.Outcome.{Outcome}
use Rattle.ga_chip.specs.declared.outcome.Outcome.TheVariants.{Moved, Waits, Held, Stopped}
use Rattle.ga_chip.proofs.Tries.{tried_still}
use Rattle.ga_observe.specs.Seen.{steps_in}
use Rattle.ga_observe.specs.declared.step.Step.{Step}
use Rattle.ga_trace.specs.Last.{last_by}
use Rattle.ga_trace.specs.Stepped.{is_moved, line_between, moving_side, one_step, rest_line, step_at, step_told, stepped}
use Rattle.ga_trace.specs.inner.Stepped.{Tells}
use Rattle.ga_trace.proofs.Tracing.{behind}

-- there is no more
pub step_over : (images : List (ℕ × ImageView)) (name count done : ℕ) (chip next : Chip)
    (text longer : List ℕ) (whole : List ℕ × Chip) → done < count
    → Tells images name chip next text longer false
    → behind text (stepped images name (count - done) chip) ≡ whole → (longer, next) ≡ whole
step_over images name count done chip next text longer whole within (none, wrote) so_far =
    let left = count - (done + 1) in
    let more : count - done ≡ suc left = omega (arith, within) in
    let here : stepped images name (suc left) chip ≡ (rest_line name next, next) =
    ap (step_told images name chip (stepped images name left)) none in
    ap (λ t. (t, next)) wrote ∙ ap (behind text) (sym here)
    ∙ ap (λ n. behind text (stepped images name n chip)) (sym more) ∙ so_far

-- there is one
pub step_next : (images : List (ℕ × ImageView)) (name count done : ℕ) (chip next : Chip)
    (text longer : List ℕ) (whole : List ℕ × Chip) → done < count
    → Tells images name chip next text longer true
    → behind text (stepped images name (count - done) chip) ≡ whole
    → behind longer (stepped images name (count - (done + 1)) next) ≡ whole
step_next images name count done chip next text longer whole within (step, some, wrote) so_far =
    let left = count - (done + 1) in
    let more : count - done ≡ suc left = omega (arith, within) in
    let line = line_between images step (state_of chip name) (state_of next name) in
    let rest = stepped images name left next in
    let here : stepped images name (suc left) chip ≡ behind line rest =
    ap (step_told images name chip (stepped images name left)) some in
    ap (λ t. behind t rest) wrote
    ∙ ap (λ t. (t, rest.1)) (append_assoc text line rest.0)
    ∙ ap (behind text) (sym here)
    ∙ ap (λ n. behind text (stepped images name n chip)) (sym more) ∙ so_far

-- the sides that are left, after one that doesn't move the node,
abbrev pub sides_left : ℕ → Chip → ℕ → Option Side
sides_left name chip index = find (λ side. is_moved (tried chip name side).0) (drop index SIDES)

abbrev pub side_at : ℕ → Side
side_at index = get_or SIDES index Right

here : (name index : ℕ) (chip : Chip) → index < 4
    → sides_left name chip index
    ≡ (if is_moved (tried chip name (side_at index)).0 then Some (side_at index)
    else sides_left name chip (index + 1))
here name index chip within =
    ap (λ (sides : List Side). find (λ side. is_moved (tried chip name side).0) sides)
    (drop-cons SIDES index Right within ∙ ap (λ n. side_at index ∷ drop n SIDES)
    (sym (add-one index)))

moved_one : (outcome : Outcome) → outcome ≡ Moved → is_moved outcome ≡ true
moved_one outcome e = ap is_moved e

still_one : (outcome : Outcome) → (outcome ≡ Moved → ⊥) → is_moved outcome ≡ false
still_one Moved still = absurd (still refl)
still_one Waits still = refl
still_one Held still = refl
still_one Stopped still = refl

-- and the step by one that does
pub one_by : (name index : ℕ) (chip now next : Chip) (outcome : Outcome) (found : Option Step)
    → index < 4 → now ≡ chip → sides_left name chip index ≡ moving_side chip name
    → ◌≡◌ {A = Outcome × Chip} (outcome, next) (tried now name (side_at index)) → outcome ≡ Moved
    → found ≡ last_by name None (steps_in 0 now (Try name (side_at index)))
    → ◌≡◌ {A = Option Step × Chip} (found, next) (one_step name chip)
unfolding one_step
one_by name index chip now next outcome found within same so_far made moved seen =
    let side = side_at index in
    let done : (outcome, next) ≡ tried chip name side = made ∙ ap (λ c. tried c name side) same in
    let moves : is_moved (tried chip name side).0 ≡ true =
    ap (λ (r : Outcome × Chip). is_moved r.0) (sym done) ∙ moved_one outcome moved in
    let is : moving_side chip name ≡ Some side =
    sym so_far ∙ here name index chip within
    ∙ ap (λ (b : Bool). if b then Some side else sides_left name chip (index + 1)) moves in
    ap (λ f. (f, next)) (seen ∙ ap (λ c. last_by name None (steps_in 0 c (Try name side))) same)
    ∙ ap (λ (r : Outcome × Chip). (last_by name None (steps_in 0 chip (Try name side)), r.1)) done
    ∙ ap (step_at name chip) (sym is)

pub none_by : (name index : ℕ) (chip now next : Chip) (outcome : Outcome) → index < 4
    → now ≡ chip → sides_left name chip index ≡ moving_side chip name
    → ◌≡◌ {A = Outcome × Chip} (outcome, next) (tried now name (side_at index))
    → (outcome ≡ Moved → ⊥)
    → (next ≡ chip) × (sides_left name chip (index + 1) ≡ moving_side chip name)
none_by name index chip now next outcome within same so_far made still =
    let side = side_at index in
    let done : (outcome, next) ≡ tried chip name side = made ∙ ap (λ c. tried c name side) same in
    let rests : is_moved (tried chip name side).0 ≡ false =
    ap (λ (r : Outcome × Chip). is_moved r.0) (sym done) ∙ still_one outcome still in (
      ap (λ (r : Outcome × Chip). r.1) done ∙ tried_still chip name side
          (λ moved. still (ap (λ (r : Outcome × Chip). r.0) done ∙ moved)),
      sym (ap (λ (b : Bool). if b then Some side else sides_left name chip (index + 1)) rests)
          ∙ sym (here name index chip within) ∙ so_far,
    )

-- no side moves it
pub none_left : (name index : ℕ) (chip now : Chip) → 4 ≤ index → index ≤ 4 → now ≡ chip
    → sides_left name chip index ≡ moving_side chip name
    → ◌≡◌ {A = Option Step × Chip} (None, now) (one_step name chip)
unfolding one_step
none_left name index chip now past within same so_far =
    let all : index ≡ 4 = omega (arith, past, within) in
    let none : moving_side chip name ≡ None = sym so_far ∙ ap (sides_left name chip) all in
    ap (λ c. (None, c)) same ∙ ap (step_at name chip) (sym none)
