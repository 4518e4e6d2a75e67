-- The fewest turns in which a node is twice as fast, and that they are tries.
use Rattle.std.proofs.Common.{◌≡◌, ◌∙◌, ℕ, zero, suc, ◌+◌, ◌-◌, ◌<◌, ◌≤◌, ◌⊎◌, inl, inr, ◌&&◌, Bool, true, false, List, [], ◌∷◌, ◌++◌, ap, arith, map, refl, subst, sym}
use Rattle.std.specs.Prelude.{Option, Some, None, nat_lt, if◌then◌else◌}
use Rattle.std.specs.List.{range_with_len}
use Rattle.std.proofs.lemmas.Bool.{cases_lt, ltb-false, ltb-true}
use Rattle.ga_place.specs.Cell.{name_at}
use Rattle.ga_place.specs.declared.side.Side.{Side}
use Rattle.ga_chip.specs.declared.outcome.Try as asked
use Rattle.ga_chip.specs.Chip.{Chip, tried}
use Rattle.ga_chip.specs.Run.{ran, side_of_turn, tries_of, turn_of}
use Rattle.ga_chip.proofs.Runs.{ran_more}
use Rattle.ga_chip.proofs.Turns.{happened_try}
use Rattle.ga_trace.specs.Traced.{turned}
use Rattle.ga_profile.specs.Faster.{FasterIsTries, NoneIsShorter, IsFewest, ShorterIsFewest, chip_before, faster_run, faster_turned, have_done, is_over, turns_if_faster, works_alone}

-- ---- tries

abbrev try_of : ℕ → Side → asked.Try
try_of name side = record { node = name; side = side }

-- those of a turn
abbrev tries_in : Side → List asked.Try
tries_in side = map (λ index. try_of (name_at index) side) (range_with_len 0 144)

turn_is : (side : Side) → turn_of side ≡ tries_of (tries_in side)
unfolding turn_of
turn_is side = refl

-- and of one in which a node is twice as fast
one_turn : (name number : ℕ) (chip : Chip)
    → (tries : List asked.Try) × (faster_turned name number chip ≡ ran chip (tries_of tries))
one_turn name number chip = by (works_alone chip name && works_alone next name) refl
  where
    side : Side
    side = side_of_turn number

    next : Chip
    next = turned number chip

    whole : next ≡ ran chip (tries_of (tries_in side))
    whole = ap (ran chip) (turn_is side)

    by : (b : Bool) → (works_alone chip name && works_alone next name) ≡ b
        → (tries : List asked.Try) × (faster_turned name number chip ≡ ran chip (tries_of tries))
    by true e = (
      tries_in side ++ try_of name side ∷ [],
      ap (λ (c : Bool). if c then (tried next name side).1 else next) e
          ∙ sym (happened_try next name side)
          ∙ ap (λ c. ran c (tries_of (try_of name side ∷ []))) whole
          ∙ sym (ran_more chip (tries_in side) (try_of name side ∷ [])),
    )
    by false e = (
      tries_in side,
      ap (λ (c : Bool). if c then (tried next name side).1 else next) e ∙ whole,
    )

pub faster_is_tries : FasterIsTries
faster_is_tries name first zero chip = ([], refl)
faster_is_tries name first (suc count) chip =
    let so_far = faster_is_tries name first count chip in
    let next = one_turn name (first + count) (faster_run name first count chip) in (
      so_far.0 ++ next.0,
      next.1 ∙ ap (λ c. ran c (tries_of next.0)) so_far.1 ∙ sym (ran_more chip so_far.0 next.0),
    )

-- ---- the fewest

module _ (first name : ℕ) (goals : List ℕ) (chip : Chip) where
  -- each node has done its work behind some turns
  abbrev over : ℕ → Bool
  over turns = have_done goals (faster_run name first turns chip)

  -- and not behind fewer
  abbrev NotBefore : ℕ → Type 0
  NotBefore turns = (fewer : ℕ) → fewer < turns → over fewer ≡ false

  one_later : (made : ℕ) → over made ≡ false → NotBefore made → NotBefore (suc made)
  one_later made here before fewer below = by (cases_lt fewer made)
    where
      by : (fewer < made) ⊎ (made ≤ fewer) → over fewer ≡ false
      by (inl less) = before fewer less
      by (inr more) =
          let same : fewer ≡ made = omega arith in ap over same ∙ here

  abbrev answer_after : ℕ → ℕ → Option ℕ
  answer_after left made =
      turns_if_faster left made first name goals (faster_run name first made chip)

  -- behind these turns each node has, and not behind fewer; they are at most this many
  abbrev Found : ℕ → ℕ → Type 0
  Found turns most = (over turns ≡ true) × NotBefore turns × (turns ≤ most)

  here_found : (left made turns : ℕ) → NotBefore made → over made ≡ true
      → ◌≡◌ {A = Option ℕ} (Some made) (Some turns) → Found turns (made + left)
  here_found left made turns before is so =
      let same : made ≡ turns = cc in
      (ap over (sym same) ∙ is, subst NotBefore same before, omega arith)

  first_of : (left made turns : ℕ) → NotBefore made → answer_after left made ≡ Some turns
      → Found turns (made + left)
  unfolding turns_if_faster
  first_of zero made turns before e = by (over made) refl e
    where
      by : (b : Bool) → over made ≡ b → (if b then Some made else None) ≡ Some turns
          → Found turns (made + 0)
      by true is so = here_found 0 made turns before is so
      by false is so = absurd (cc)
  first_of (suc left) made turns before e =
      by (first_of left (suc made) turns) (over made) refl e
    where
      by : (NotBefore (suc made) → answer_after left (suc made) ≡ Some turns
          → Found turns (suc made + left)) → (b : Bool) → over made ≡ b
          → (if b then Some made else answer_after left (suc made)) ≡ Some turns
          → Found turns (made + suc left)
      by later true is so = here_found (suc left) made turns before is so
      by later false is so =
          let all : suc made + left ≡ made + suc left = omega arith in
          subst (Found turns) all (later (one_later made is before) so)

  none_of : (left made : ℕ) → NotBefore made → answer_after left made ≡ None
      → NotBefore (suc (made + left))
  unfolding turns_if_faster
  none_of zero made before e = by (over made) refl e
    where
      by : (b : Bool) → over made ≡ b → (if b then Some made else None) ≡ None
          → NotBefore (suc (made + 0))
      by true is so = absurd (cc)
      by false is so =
          let all : made ≡ made + 0 = omega arith in
          subst (λ n. NotBefore (suc n)) all (one_later made is before)
  none_of (suc left) made before e = by (none_of left (suc made)) (over made) refl e
    where
      by : (NotBefore (suc made) → answer_after left (suc made) ≡ None
          → NotBefore (suc (suc made + left))) → (b : Bool) → over made ≡ b
          → (if b then Some made else answer_after left (suc made)) ≡ None
          → NotBefore (suc (made + suc left))
      by later true is so = absurd (cc)
      by later false is so =
          let all : suc made + left ≡ made + suc left = omega arith in
          subst (λ n. NotBefore (suc n)) all (later (one_later made is before) so)

none_yet : (over : ℕ → Bool) (fewer : ℕ) → fewer < 0 → over fewer ≡ false
none_yet over fewer below = absurd (omega arith)

pub shorter_is_fewest : ShorterIsFewest
shorter_is_fewest window name goals chip turns e = by (nat_lt window.first window.end) refl e
  where
    by : (b : Bool) → nat_lt window.first window.end ≡ b
        → (if b then turns_if_faster (window.end - window.first - 1) 0 window.first name goals
        (chip_before window chip) else None) ≡ Some turns → IsFewest window name goals chip turns
    by true is so =
        let within = ltb-true window.first window.end is in
        let found = first_of window.first name goals (chip_before window chip)
        (window.end - window.first - 1) 0 turns (none_yet _) so in
        record { over = found.0; first = found.1; fewer = omega (arith, within, found.2) }
    by false is so = absurd (cc)

pub none_is_shorter : NoneIsShorter
none_is_shorter window name goals chip fewer e below =
    by (nat_lt window.first window.end) refl e
  where
    by : (b : Bool) → nat_lt window.first window.end ≡ b
        → (if b then turns_if_faster (window.end - window.first - 1) 0 window.first name goals
        (chip_before window chip) else None) ≡ None → is_over window name goals chip fewer ≡ false
    by true is so =
        let within : fewer < suc (0 + (window.end - window.first - 1)) = omega arith in
        none_of window.first name goals (chip_before window chip)
        (window.end - window.first - 1) 0 (none_yet _) so fewer within
    by false is so =
        let empty = ltb-false window.first window.end is in absurd (omega (arith, empty))
