-- Turns of profile 1, one step of a loop at a time; and a turn in which it stops no node.
use Rattle.std.proofs.Common.{◌≡◌, ◌≢◌, ◌∙◌, ◌⊎◌, inl, inr, ℕ, zero, suc, ◌+◌, ◌-◌, ◌%◌, ◌<◌, ◌≤◌, Bool, true, false, Option, Some, None, add-zero, ap, ap₂, arith, length, option_map, refl, slice_index_or, subst, sym, zero-add}
use Rattle.std.specs.Prelude.{if◌then◌else◌}
use Rattle.std.specs.Option.{option_map_or}
use Rattle.std.proofs.lemmas.Bool.{cases_lt}
use Rattle.ga_place.specs.Cell.{index_of, name_at}
use Rattle.ga_place.specs.inner.Index.{index_back}
use Rattle.ga_place.specs.Side.{SIDES}
use Rattle.ga_place.specs.declared.side.Side.{Side}
use Rattle.ga_place.specs.declared.side.Side.TheVariants.{Right}
use Rattle.ga_chip.specs.declared.outcome.Outcome.{Outcome}
use Rattle.ga_chip.specs.declared.outcome.Outcome.TheVariants.{Held, Moved, Stopped, Waits}
use Rattle.ga_chip.specs.Outcome.{moved_by}
use Rattle.ga_chip.specs.Chip.{Chip, part_of, state_of, tried}
use Rattle.ga_chip.specs.Part.{Part}
use Rattle.ga_chip.specs.Run.{moves, ran, side_of_turn, turn_of}
use Rattle.ga_chip.proofs.Lists.{get-set_else}
use Rattle.ga_chip.proofs.Tries.{tried_none, tried_still, tried_there}
use Rattle.ga_chip.proofs.Turns.{moved_once, moves_next, ran_next, turn_end, turn_left, turn_next, turn_whole}
use Rattle.ga_debug.specs.Profile.{tried_in_profile_1, tries_in_profile_1, turn_in_profile_1, turns_in_profile_1, is_extended_fetch, is_left_out}

-- one more turn
pub turns_next : (count turn moved steps : ℕ) (side : Side) (chip next : Chip) (all : ℕ × Chip)
    → turn < count → side ≡ side_of_turn turn
    → ◌≡◌ {A = ℕ × Chip} (steps, next) (turn_in_profile_1 side chip)
    → turns_in_profile_1 (count - turn) turn moved chip ≡ all
    → turns_in_profile_1 (count - (turn + 1)) (turn + 1) (moved + steps) next ≡ all
turns_next count turn moved steps side chip next all within is made so_far =
    let left = count - (turn + 1) in
    let more : count - turn ≡ suc left = omega (arith, within) in
    ap (λ one. turns_in_profile_1 left (turn + 1) (moved + one.0) one.1)
    (made ∙ ap (λ s. turn_in_profile_1 s chip) is)
    ∙ sym (ap (λ n. turns_in_profile_1 n turn moved chip) more)
    ∙ so_far

-- one more try of a turn
pub tries_next : (index moved steps : ℕ) (side : Side) (outcome : Outcome) (chip next : Chip)
    (all : ℕ × Chip) → index < 144
    → ◌≡◌ {A = Outcome × Chip} (outcome, next) (tried_in_profile_1 chip (name_at index) side)
    → steps ≡ moved_by outcome → tries_in_profile_1 (144 - index) index side moved chip ≡ all
    → tries_in_profile_1 (144 - (index + 1)) (index + 1) side (moved + steps) next ≡ all
unfolding tries_in_profile_1
tries_next index moved steps side outcome chip next all below made counted so_far =
    let left = 144 - (index + 1) in
    let more : 144 - index ≡ suc left = omega (arith, below) in
    ap (λ n. tries_in_profile_1 left (index + 1) side (moved + n) next) counted
    ∙ ap (λ one. tries_in_profile_1 left (index + 1) side (moved + moved_by one.0) one.1) made
    ∙ sym (ap (λ n. tries_in_profile_1 n index side moved chip) more)
    ∙ so_far

-- a try leaves the states of other nodes as they are
state_elsewhere : (chip : Chip) (name other : ℕ) (side : Side)
    → (index_of name ≡ index_of other → ⊥)
    → state_of (tried chip name side).1 other ≡ state_of chip other
state_elsewhere chip name other side apart = by (part_of chip name) refl
  where
    by : (o : Option Part) → part_of chip name ≡ o
        → state_of (tried chip name side).1 other ≡ state_of chip other
    by None e = ap (λ r. state_of r.1 other) (tried_none chip name side e)
    by (Some part) e =
        ap (λ r. state_of r.1 other) (tried_there chip name side part e)
        ∙ ap (option_map (λ (p : Part). p.state))
        (get-set_else chip.parts (index_of name) (index_of other) _ apart)

-- profile 1 stops no node from an index on
abbrev pub TakePart : Chip → ℕ → Type 0
TakePart chip from =
    (index : ℕ) → from ≤ index → index < 144 → is_left_out chip (name_at index) ≡ false

later_take_part : (chip : Chip) (index : ℕ) (side : Side) → index < 144 → TakePart chip index
    → TakePart (tried chip (name_at index) side).1 (index + 1)
unfolding is_left_out
later_take_part chip index side below all other from within =
    let apart : index ≡ other → ⊥ = λ e. absurd (omega (arith, from, e)) in
    ap (λ o. option_map_or is_extended_fetch o false)
    (state_elsewhere chip (name_at index) (name_at other) side
    (λ e. apart (sym (index_back index below) ∙ e ∙ index_back other within)))
    ∙ all other (omega (arith, from)) within

counted : (moved steps rest all : ℕ) → all ≡ steps + rest → moved + steps + rest ≡ moved + all
counted moved steps rest all e = omega arith

-- if it stops no node, its tries are those of a turn of the chip
pub whole_turn : (left index moved : ℕ) (side : Side) (chip : Chip) → left + index ≡ 144
    → TakePart chip index → ◌≡◌ {A = ℕ × Chip} (tries_in_profile_1 left index side moved chip)
    (moved + length (moves chip (turn_left side index)), ran chip (turn_left side index))
unfolding tries_in_profile_1
whole_turn zero index moved side chip e all =
    let none = turn_end side index (omega (arith, e)) in
    sym (ap (λ l. (moved + length (moves chip l), ran chip l)) none
    ∙ ap (λ n. (n, chip)) (add-zero moved))
whole_turn (suc left) index moved side chip e all =
    let below : index < 144 = omega (arith, e) in
    let rest : left + (index + 1) ≡ 144 = omega (arith, e) in
    let one : ◌≡◌ {A = Outcome × Chip} (tried_in_profile_1 chip (name_at index) side)
    (tried chip (name_at index) side) =
    ap (λ b. if b then (Stopped, chip) else tried chip (name_at index) side)
    (all index (omega arith) below) in
    let outcome = (tried chip (name_at index) side).0 in
    let next = (tried chip (name_at index) side).1 in
    ap (λ r. tries_in_profile_1 left (index + 1) side (moved + moved_by r.0) r.1) one
    ∙ whole_turn left (index + 1) (moved + moved_by outcome) side next rest
    (later_take_part chip index side below all)
    ∙ ap₂ (λ n c. (n, c))
    (counted moved (moved_by outcome) _ _
    (moves_next chip next (name_at index) side outcome _ _ (turn_next side index below) refl))
    (sym (ran_next chip next (name_at index) side outcome _ _ (turn_next side index below) refl))

-- no node is left
pub tries_end : (index moved : ℕ) (side : Side) (chip : Chip) (all : ℕ × Chip) → 144 ≤ index
    → tries_in_profile_1 (144 - index) index side moved chip ≡ all
    → ◌≡◌ {A = ℕ × Chip} (moved, chip) all
unfolding tries_in_profile_1
tries_end index moved side chip all reached so_far =
    let none : 144 - index ≡ 0 = omega (arith, reached) in
    sym (ap (λ n. tries_in_profile_1 n index side moved chip) none) ∙ so_far

-- a turn in which profile 1 stops no node is one of the chip
pub turn_of_chip : (side : Side) (chip next : Chip) (steps : ℕ) → TakePart chip 0
    → steps ≡ length (moves chip (turn_of side)) → next ≡ ran chip (turn_of side)
    → ◌≡◌ {A = ℕ × Chip} (steps, next) (turn_in_profile_1 side chip)
turn_of_chip side chip next steps all counted made =
    ap₂ (λ n c. (n, c)) (counted ∙ ap (λ l. length (moves chip l)) (sym (turn_whole side))
    ∙ sym (zero-add _)) (made ∙ ap (ran chip) (sym (turn_whole side)))
    ∙ sym (whole_turn 144 0 0 side chip refl all)

-- a try makes one step at most
pub one_step : (steps : ℕ) (outcome : Outcome) → steps ≡ moved_by outcome → steps ≤ 1
one_step steps outcome e = subst (λ n. n ≤ 1) (sym e) (moved_once outcome)

pub at_most : (moved index steps : ℕ) → moved ≤ index → steps ≤ 1 → moved + steps ≤ index + 1
at_most moved index steps e f = omega arith

-- ---- turns that make no step

-- it makes as many steps as those so far, or more
at_least : (left index : ℕ) (side : Side) (moved : ℕ) (chip : Chip)
    → moved ≤ (tries_in_profile_1 left index side moved chip).0
unfolding tries_in_profile_1
at_least zero index side moved chip = omega arith
at_least (suc left) index side moved chip =
    let one = tried_in_profile_1 chip (name_at index) side in
    omega (arith, at_least left (index + 1) side (moved + moved_by one.0) one.1)

no_step : (outcome : Outcome) → moved_by outcome ≡ 0 → outcome ≡ Moved → ⊥
no_step Moved none e = absurd (omega (arith, none))
no_step Waits none e = cc e
no_step Held none e = cc e
no_step Stopped none e = cc e

-- a try that makes no step changes nothing
still_try : (chip : Chip) (name : ℕ) (side : Side)
    → moved_by (tried_in_profile_1 chip name side).0 ≡ 0
    → (tried_in_profile_1 chip name side).1 ≡ chip
still_try chip name side = by (is_left_out chip name)
  where
    by : (b : Bool) → moved_by (if b then (Stopped, chip) else tried chip name side).0 ≡ 0
        → (if b then (Stopped, chip) else tried chip name side).1 ≡ chip
    by true none = refl
    by false none = tried_still chip name side (no_step (tried chip name side).0 none)

-- nor does one that isn't Moved in the chip
pub asleep_still : (chip : Chip) (name : ℕ) (side : Side) → ((tried chip name side).0 ≢ Moved)
    → (chip ≡ (tried_in_profile_1 chip name side).1)
    × (0 ≡ moved_by (tried_in_profile_1 chip name side).0)
asleep_still chip name side still = by (is_left_out chip name)
  where
    none : (outcome : Outcome) → (outcome ≢ Moved) → 0 ≡ moved_by outcome
    none Moved apart = absurd (apart refl)
    none Waits apart = refl
    none Held apart = refl
    none Stopped apart = refl

    by : (b : Bool) → (chip ≡ (if b then (Stopped, chip) else tried chip name side).1)
        × (0 ≡ moved_by (if b then (Stopped, chip) else tried chip name side).0)
    by true = (refl, refl)
    by false = (sym (tried_still chip name side still), none (tried chip name side).0 still)

still_tries : (left index : ℕ) (side : Side) (moved : ℕ) (chip : Chip)
    → (tries_in_profile_1 left index side moved chip).0 ≡ moved
    → (tries_in_profile_1 left index side moved chip).1 ≡ chip
unfolding tries_in_profile_1
still_tries zero index side moved chip e = refl
still_tries (suc left) index side moved chip e =
    let one = tried_in_profile_1 chip (name_at index) side in
    let least = at_least left (index + 1) side (moved + moved_by one.0) one.1 in
    let none : moved_by one.0 ≡ 0 = omega (arith, least, e) in
    still_tries left (index + 1) side (moved + moved_by one.0) one.1 (omega (arith, e, none))
    ∙ still_try chip (name_at index) side none

-- the turn of a number makes no step
abbrev pub IsIdle : Chip → ℕ → Type 0
IsIdle chip turn = ◌≡◌ {A = ℕ × Chip} (turn_in_profile_1 (side_of_turn turn) chip) (0, chip)

-- of the four turns from a number on, the last ones make no step
abbrev pub AreIdle : Chip → ℕ → ℕ → Type 0
AreIdle chip turn idle = (ahead : ℕ) → 4 ≤ ahead + idle → ahead < 4 → IsIdle chip (turn + ahead)

-- the sides come again behind four turns
round : (turn : ℕ) → side_of_turn (turn + 4) ≡ side_of_turn turn
round turn =
    let same : (turn + 4) % 4 ≡ turn % 4 = omega arith in
    ap (λ n. slice_index_or SIDES n Right) same

idle_at : (chip : Chip) (turn at : ℕ) → turn ≡ at → IsIdle chip turn → IsIdle chip at
idle_at chip turn at same is = subst (IsIdle chip) same is

-- one more turn that makes no step
idle_more : (chip : Chip) (turn idle : ℕ) → IsIdle chip turn → AreIdle chip turn idle
    → AreIdle chip (turn + 1) (idle + 1)
idle_more chip turn idle here so_far ahead reaches below = by (cases_lt ahead 3)
  where
    by : (ahead < 3) ⊎ (3 ≤ ahead) → IsIdle chip (turn + 1 + ahead)
    by (inl before) =
        idle_at chip (turn + (ahead + 1)) (turn + 1 + ahead) (omega arith)
        (so_far (ahead + 1) (omega (arith, reaches)) (omega (arith, before)))
    by (inr last) =
        let is : turn + 4 ≡ turn + 1 + ahead = omega (arith, last, below) in
        idle_at chip (turn + 4) (turn + 1 + ahead) is (subst (λ side. ◌≡◌ {A = ℕ
        × Chip} (turn_in_profile_1 side chip) (0, chip)) (sym (round turn)) here)

pub idle_next : (chip next : Chip) (turn idle steps : ℕ) (side : Side) → side ≡ side_of_turn turn
    → ◌≡◌ {A = ℕ × Chip} (steps, next) (turn_in_profile_1 side chip) → steps ≡ 0
    → AreIdle chip turn idle → AreIdle next (turn + 1) (idle + 1)
unfolding turn_in_profile_1
idle_next chip next turn idle steps side is made none so_far =
    let same : next ≡ chip =
    ap (λ r. r.1) made ∙ still_tries 144 0 side 0 chip (ap (λ r. r.0) (sym made) ∙ none) in
    let here : IsIdle chip turn =
    ap (λ s. turn_in_profile_1 s chip) (sym is) ∙ sym made ∙ ap₂ (λ n c. (n, c)) none same in
    subst (λ c. AreIdle c (turn + 1) (idle + 1)) (sym same) (idle_more chip turn idle here so_far)

pub idle_none : (chip : Chip) (turn : ℕ) → AreIdle chip turn 0
idle_none chip turn ahead reaches below = absurd (omega (arith, reaches, below))

-- if none of four turns makes a step, no later one does
idle_turns : (left turn moved : ℕ) (chip : Chip) → AreIdle chip turn 4
    → ◌≡◌ {A = ℕ × Chip} (turns_in_profile_1 left turn moved chip) (moved, chip)
idle_turns zero turn moved chip idle = refl
idle_turns (suc left) turn moved chip idle =
    let here : IsIdle chip turn =
    idle_at chip (turn + 0) turn (omega arith) (idle 0 (omega arith) (omega arith)) in
    ap (λ one. turns_in_profile_1 left (turn + 1) (moved + one.0) one.1) here
    ∙ ap (λ n. turns_in_profile_1 left (turn + 1) n chip) (add-zero moved)
    ∙ idle_turns left (turn + 1) moved chip
    (λ ahead reaches below. idle_more chip turn 4 here idle ahead (omega arith) below)

pub idle_end : (left turn moved : ℕ) (chip : Chip) (all : ℕ × Chip) → AreIdle chip turn 4
    → turns_in_profile_1 left turn moved chip ≡ all → ◌≡◌ {A = ℕ × Chip} (moved, chip) all
idle_end left turn moved chip all idle so_far = sym (idle_turns left turn moved chip idle) ∙ so_far
