-- A watch stops at the first change.
use Rattle.std.proofs.Common.{◌≡◌, ◌∙◌, ℕ, zero, suc, ◌+◌, ◌-◌, ◌<◌, ◌≤◌, ◌==◌, ◌⊎◌, inl, inr, Bool, true, false, List, [], ◌++◌, ap, arith, length, refl, subst, sym}
use Rattle.std.specs.Prelude.{◌&&◌, not, Option, Some, None, if◌then◌else◌}
use Rattle.std.proofs.lemmas.Bool.{cases_eq, eq-eqb, ne_eqb}
use Rattle.ga_pack.proofs.ByCases.{on_test}
use Rattle.ga_asm.specs.Image.{ImageView}
use Rattle.ga_place.specs.declared.side.Side.{Side}
use Rattle.ga_node.specs.declared.need.Stop.{Stop}
use Rattle.ga_node.specs.declared.need.Stop.TheVariants as stop
use Rattle.ga_chip.specs.Chip.{Chip}
use Rattle.ga_chip.specs.Run.{moves, ran, turn_of, turns_of}
use Rattle.ga_chip.proofs.Turning.{one_turn, still_more}
use Rattle.ga_observe.specs.Seen.{steps_seen, turns_numbered}
use Rattle.ga_observe.proofs.Quiet.{Quiet, all_still, quiet_more, quiet_none, still_seen, still_turn}
use Rattle.ga_observe.proofs.Watched.{turn_events, turns_steps}
use Rattle.ga_trace.specs.declared.what.Value.{Value}
use Rattle.ga_trace.specs.declared.what.Value.TheVariants as value
use Rattle.ga_trace.specs.declared.what.What.{What}
use Rattle.ga_trace.specs.declared.what.What.TheVariants as what
use Rattle.ga_trace.specs.Last.{last_by}
use Rattle.ga_trace.specs.Laws.{FirstIsShown, NoneIsShown}
use Rattle.ga_trace.specs.Traced.{behind, moved_in, quiet_after, step_in, turn_line, turned}
use Rattle.ga_trace.specs.Watched.{IsFirst, change_line, change_shown, changes_in, changes_to, no_change_line, value_in_turn, watched, watched_from}
use Rattle.ga_trace.specs.What.{same_stop, same_value, value_of}

-- ---- no change without a step

same_stops : (one : Stop) → same_stop one one ≡ true
same_stops stop.MultiWrite = refl
same_stops stop.IoRead = refl
same_stops stop.Unmapped = refl
same_stops stop.Rom = refl
same_stops stop.Counted = refl

same : (one : Value) → same_value one one ≡ true
same value.Nothing = refl
same (value.Word word) = eq-eqb word word refl
same (value.Address address) = eq-eqb address address refl
same (value.Count count) = eq-eqb count count refl
same (value.Stop one) = same_stops one

-- a value doesn't change to itself
unchanged : (goal : Option Value) (one : Value) → changes_to goal one one ≡ false
unchanged None one = ap not (same one)
unchanged (Some goal) one =
    on_test (same_value goal one) (λ b. (b && not b) ≡ false) (λ is. refl) (λ is. refl)

-- a turn without a step shows the value behind it
shows_end : (one : What) (end : Value) → value_in_turn one None end ≡ end
shows_end (what.Register register) end = refl
shows_end (what.Memory address) end = refl
shows_end (what.Pending side) end = refl
shows_end (what.Written side) end = refl
shows_end (what.Read side) end = refl
shows_end what.At end = refl
shows_end what.Stopped end = refl

-- ---- behind four turns without a step

-- no node makes one any more,
still_steps : (now : Chip) (turn : ℕ) → ((side : Side) → length (moves now (turn_of side)) ≡ 0)
    → steps_seen now (turn_events turn) ≡ []
unfolding turns_of turns_numbered
still_steps now turn still =
    ap (λ l. l ++ steps_seen now (turn_events turn)) (none turn)
    ∙ turns_steps now now turn
    (still_more now now 0 turn refl unmoved ∙ ap (behind now) (from turn))
    ∙ sym (none (turn + 1))
  where
    unmoved : (side : Side) → ran now (turn_of side) ≡ now
    unmoved side = still_turn now side (still side)

    from : (count : ℕ) → 0 + count ≡ count
    from count = omega arith

    none : (count : ℕ) → [] ≡ steps_seen now (turns_numbered count)
    none count =
        still_seen now now 0 count refl still
        ∙ ap (λ n. steps_seen now (turns_numbered n)) (from count)

-- so no turn changes a value
no_change : (name : ℕ) (what : What) (goal : Option Value) (chip now : Chip) (turn later : ℕ)
    → now ≡ behind chip turn → Quiet now turn 4 → turn ≤ later
    → changes_in name what goal chip later ≡ false
no_change name what goal chip now turn later is quiet less =
    ap (λ c. changes_to goal (value_of what name c) (value_in_turn what (step_in name later c)
    (value_of what name (behind chip (suc later))))) (sym (at later less))
    ∙ ap (λ c. changes_to goal (value_of what name now) (value_in_turn what (step_in name later now)
    (value_of what name c))) (sym (at (suc later) (omega (arith, less))))
    ∙ ap (λ s. changes_to goal (value_of what name now) (value_in_turn what s
    (value_of what name now))) none
    ∙ ap (changes_to goal (value_of what name now)) (shows_end what (value_of what name now))
    ∙ unchanged goal (value_of what name now)
  where
    still : (side : Side) → length (moves now (turn_of side)) ≡ 0
    still = all_still now turn quiet

    at : (count : ℕ) → turn ≤ count → now ≡ behind chip count
    at count past =
        let sum : turn + (count - turn) ≡ count = omega (arith, past) in
        still_more chip now turn (count - turn) is (λ side. still_turn now side (still side))
        ∙ ap (behind chip) sum

    none : step_in name later now ≡ None
    none = ap (last_by name None) (still_steps now later still)

-- ---- turn by turn

-- the chip behind one turn more
pub next_is : (chip now : Chip) (turn : ℕ) → now ≡ behind chip turn
    → turned turn now ≡ behind chip (suc turn)
next_is chip now turn is =
    let one : turn + 1 ≡ suc turn = omega arith in
    one_turn chip now (turned turn now) turn is refl ∙ ap (behind chip) one

-- and how many turns had no step
next_quiet : (now : Chip) (turn quiet : ℕ) → Quiet now turn quiet
    → Quiet (turned turn now) (suc turn) (quiet_after quiet (moved_in turn now))
next_quiet now turn quiet so_far =
    let one : turn + 1 ≡ suc turn = omega arith in
    subst (λ n. Quiet (turned turn now) n (quiet_after quiet (moved_in turn now))) one
    (quiet_more now (turned turn now) turn quiet (moved_in turn now)
    (quiet_after quiet (moved_in turn now)) refl refl refl so_far)

-- what a turn shows, by the chip in front of it
abbrev change_at : List (ℕ × ImageView) → ℕ → What → ℕ → Chip → Chip → List ℕ × Chip
change_at images name what turn now next = (
  turn_line images name turn now ++ change_line (value_of what name now)
      (value_in_turn what (step_in name turn now) (value_of what name next)) (suc turn),
  next,
)

abbrev changes_at : ℕ → What → Option Value → ℕ → Chip → Chip → Bool
changes_at name what goal turn now next =
    changes_to goal (value_of what name now)
    (value_in_turn what (step_in name turn now) (value_of what name next))

changes_now : (name : ℕ) (what : What) (goal : Option Value) (chip now : Chip) (turn : ℕ)
    → now ≡ behind chip turn
    → changes_at name what goal turn now (turned turn now) ≡ changes_in name what goal chip turn
changes_now name what goal chip now turn is =
    ap (λ next. changes_at name what goal turn now next) (next_is chip now turn is)
    ∙ ap (λ c. changes_at name what goal turn c (behind chip (suc turn))) is

shown_now : (images : List (ℕ × ImageView)) (name : ℕ) (what : What) (chip now : Chip) (turn : ℕ)
    → now ≡ behind chip turn
    → change_at images name what turn now (turned turn now)
    ≡ change_shown images name what chip turn
shown_now images name what chip now turn is =
    ap (λ next. change_at images name what turn now next) (next_is chip now turn is)
    ∙ ap (λ c. change_at images name what turn c (behind chip (suc turn))) is

-- a turn that shows no change
goes_on : (images : List (ℕ × ImageView)) (name : ℕ) (what : What) (goal : Option Value)
    (now : Chip) (left turn quiet : ℕ) → (quiet == 4) ≡ false
    → changes_at name what goal turn now (turned turn now) ≡ false
    → watched_from images name what goal (suc left) turn quiet now
    ≡ watched_from images name what goal left (suc turn) (quiet_after quiet (moved_in turn now))
    (turned turn now)
unfolding watched_from
goes_on images name what goal now left turn quiet going none = rw (going, none) refl

-- and one that shows one
stops_at : (images : List (ℕ × ImageView)) (name : ℕ) (what : What) (goal : Option Value)
    (now : Chip) (left turn quiet : ℕ) → (quiet == 4) ≡ false
    → changes_at name what goal turn now (turned turn now) ≡ true
    → watched_from images name what goal (suc left) turn quiet now
    ≡ change_at images name what turn now (turned turn now)
unfolding watched_from
stops_at images name what goal now left turn quiet going some = rw (going, some) refl

shown_from : (images : List (ℕ × ImageView)) (name : ℕ) (what : What) (goal : Option Value)
    (chip : Chip) (most first : ℕ) → IsFirst most name what goal chip first
    → (left turn quiet : ℕ) (now : Chip) → now ≡ behind chip turn → Quiet now turn quiet
    → turn ≤ first → turn + left ≡ most
    → watched_from images name what goal left turn quiet now
    ≡ change_shown images name what chip first
shown_from images name what goal chip most first is_first zero turn quiet now is still less all =
    absurd (omega (arith, is_first.within, less, all))
shown_from images name what goal chip most first is_first (suc left) turn quiet now is still less
    all =
    by (cases_eq quiet 4) (cases_eq turn first)
    (λ other. shown_from images name what goal chip most first is_first left (suc turn)
    (quiet_after quiet (moved_in turn now)) (turned turn now) (next_is chip now turn is)
    (next_quiet now turn quiet still) (omega (arith, less, other)) (omega (arith, all)))
  where
    by : (quiet ≡ 4) ⊎ (quiet ≡ 4 → ⊥) → (turn ≡ first) ⊎ (turn ≡ first → ⊥)
        → ((turn ≡ first → ⊥) → watched_from images name what goal left (suc turn)
        (quiet_after quiet (moved_in turn now)) (turned turn now)
        ≡ change_shown images name what chip first)
        → watched_from images name what goal (suc left) turn quiet now
        ≡ change_shown images name what chip first
    by (inl four) at rest =
        let changes = is_first.changes in
        let none =
        no_change name what goal chip now turn first is (subst (Quiet now turn) four still) less in
        absurd (cc)
    by (inr going) (inl here) rest =
        let changes =
        changes_now name what goal chip now turn is
        ∙ ap (changes_in name what goal chip) here ∙ is_first.changes in
        stops_at images name what goal now left turn quiet (ne_eqb quiet 4 going) changes
        ∙ shown_now images name what chip now turn is ∙ ap (change_shown images name what chip) here
    by (inr going) (inr other) rest =
        let none =
        changes_now name what goal chip now turn is
        ∙ is_first.before turn (omega (arith, less, other)) in
        goes_on images name what goal now left turn quiet (ne_eqb quiet 4 going) none ∙ rest other

pub is_shown : FirstIsShown
unfolding watched turns_of
is_shown images name what goal chip first is_first =
    shown_from images name what goal chip 1000000 first is_first 1000000 0 0 chip refl
    (quiet_none chip 0) (omega arith) (omega arith)

none_from : (images : List (ℕ × ImageView)) (name : ℕ) (what : What) (goal : Option Value)
    (chip : Chip) (most : ℕ)
    → ((turn : ℕ) → turn < most → changes_in name what goal chip turn ≡ false)
    → (left turn quiet : ℕ) (now : Chip) → now ≡ behind chip turn → turn + left ≡ most
    → (watched_from images name what goal left turn quiet now).0
    ≡ no_change_line name (watched_from images name what goal left turn quiet now).1
unfolding watched_from
none_from images name what goal chip most none zero turn quiet now is all = refl
none_from images name what goal chip most none (suc left) turn quiet now is all =
    on_test (quiet == 4)
    (λ b. (if b then (no_change_line name now, now) else rest).0
    ≡ no_change_line name (if b then (no_change_line name now, now) else rest).1)
    (λ four. refl)
    (λ going. further (none_from images name what goal chip most none left (suc turn)
    (quiet_after quiet (moved_in turn now)) (turned turn now) (next_is chip now turn is)
    (omega (arith, all))))
  where
    end : List ℕ × Chip
    end =
        watched_from images name what goal left (suc turn) (quiet_after quiet (moved_in turn now))
        (turned turn now)

    rest : List ℕ × Chip
    rest =
        if changes_at name what goal turn now (turned turn now)
        then change_at images name what turn now (turned turn now) else end

    same_end : rest ≡ end
    same_end =
        ap (λ b. if b then change_at images name what turn now (turned turn now) else end)
        (changes_now name what goal chip now turn is ∙ none turn (omega (arith, all)))

    further : end.0 ≡ no_change_line name end.1 → rest.0 ≡ no_change_line name rest.1
    further later =
        subst (λ (both : List ℕ × Chip). both.0 ≡ no_change_line name both.1) (sym same_end) later

pub none_shown : NoneIsShown
unfolding watched turns_of
none_shown images name what goal chip none =
    none_from images name what goal chip 1000000 none 1000000 0 0 chip refl (omega arith)
