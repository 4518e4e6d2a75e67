-- Lists of tries, as a loop goes along them.
use Rattle.std.proofs.Common.{◌≡◌, ◌≢◌, ◌⊎◌, inl, inr, add-zero, zero-add, ℕ, zero, suc, get_or, drop, ◌+◌, ◌-◌, ◌<◌, ◌≤◌, lit≤, List, [], ◌∷◌, ◌++◌, map, length, Option, Some, None, refl, sym, ap, ap₂, ◌∙◌, arith, length-append}
use Rattle.std.specs.List.{range_with_len}
use Rattle.ga_place.specs.Cell.{name_at}
use Rattle.ga_place.specs.declared.side.Side.{Side}
use Rattle.std.proofs.Math.Seq.{drop-cons}
use Rattle.std.proofs.lemmas.Bool.{cases_lt}
use Rattle.ga_chip.specs.declared.outcome.Try as asked
use Rattle.ga_chip.specs.declared.outcome.Outcome.{Outcome}
use Rattle.ga_chip.specs.declared.outcome.Outcome.TheVariants.{Moved, Waits, Held, Stopped}
use Rattle.ga_chip.specs.Part.{Part, asks, after}
use Rattle.ga_chip.specs.Chip.{Chip, part_of, found_by, tried}
use Rattle.ga_chip.specs.Run.{Event, Try, Move, happened, if_moved, move_at, move_in, moves, ran, tries_of, turn_of}
use Rattle.ga_chip.specs.Outcome.{moved_by}
use Rattle.ga_chip.proofs.Tries.{tried_none, tried_still, tried_there}

-- one try of each node from a place on
unfoldable pub turn_left : Side → ℕ → List Event
turn_left side index = map (λ at. Try (name_at at) side) (range_with_len index (144 - index))

pub turn_whole : (side : Side) → turn_left side 0 ≡ turn_of side
unfolding turn_left turn_of
turn_whole side = refl

pub happened_try : (chip : Chip) (name : ℕ) (side : Side)
    → happened chip (Try name side) ≡ (tried chip name side).1
unfolding happened
happened_try chip name side = refl

-- the moves of a try by its outcome
count_if : (outcome : Outcome) (move : Move) → length (if_moved outcome move) ≡ moved_by outcome
count_if Moved move = refl
count_if Waits move = refl
count_if Held move = refl
count_if Stopped move = refl

pub count_moves : (chip : Chip) (name : ℕ) (side : Side)
    → length (move_in chip (Try name side)) ≡ moved_by (tried chip name side).0
unfolding move_in
count_moves chip name side = by (part_of chip name) refl
  where
    by : (o : Option Part) → part_of chip name ≡ o
        → length (move_at (part_of chip name) chip name side) ≡ moved_by (tried chip name side).0
    by None e =
        ap (λ o. length (move_at o chip name side)) e
        ∙ ap (λ r. moved_by r.0) (sym (tried_none chip name side e))
    by (Some part) e =
        ap (λ o. length (move_at o chip name side)) e
        ∙ count_if (after part side (found_by (asks part side) chip.cells)).0 _
        ∙ ap (λ r. moved_by r.0) (sym (tried_there chip name side part e))

-- the next try of a turn
pub turn_next : (side : Side) (index : ℕ) → index < 144
    → turn_left side index ≡ Try (name_at index) side ∷ turn_left side (index + 1)
unfolding turn_left
turn_next side index below =
    let left : 144 - index ≡ suc (144 - (index + 1)) = omega arith in
    ap (λ n. map (λ at. Try (name_at at) side) (range_with_len index n)) left

-- a run after its first event
pub ran_next : (chip next : Chip) (name : ℕ) (side : Side) (outcome : Outcome)
    (events rest : List Event) → events ≡ Try name side ∷ rest
    → ◌≡◌ {A = Outcome × Chip} (outcome, next) (tried chip name side)
    → ran chip events ≡ ran next rest
ran_next chip next name side outcome events rest e is =
    ap (ran chip) e ∙ ap (λ c. ran c rest) (happened_try chip name side ∙ ap (λ r. r.1) (sym is))

pub moves_next : (chip next : Chip) (name : ℕ) (side : Side) (outcome : Outcome)
    (events rest : List Event) → events ≡ Try name side ∷ rest
    → ◌≡◌ {A = Outcome × Chip} (outcome, next) (tried chip name side)
    → length (moves chip events) ≡ moved_by outcome + length (moves next rest)
moves_next chip next name side outcome events rest e is =
    ap (λ l. length (moves chip l)) e
    ∙ length-append (move_in chip (Try name side)) (moves (happened chip (Try name side)) rest)
    ∙ ap₂ (λ n c. n + length (moves c rest)) (count_moves chip name side
    ∙ ap (λ r. moved_by r.0) (sym is)) (happened_try chip name side ∙ ap (λ r. r.1) (sym is))

-- the next of the tries in a list
pub tries_next : (tries : List asked.Try) (index : ℕ) (item : asked.Try) → index < length tries
    → item ≡ get_or tries index item
    → tries_of (drop index tries) ≡ Try item.node item.side ∷ tries_of (drop (index + 1) tries)
tries_next tries index item below read =
    let next : suc index ≡ index + 1 = omega arith in
    ap tries_of (drop-cons tries index item below ∙ ap₂ (λ x k. x ∷ drop k tries) (sym read) next)

one_more : {A : Type 0} (f : ℕ → A) (from n next : ℕ) → next ≡ from + n
    → map f (range_with_len from n) ++ f next ∷ [] ≡ map f (range_with_len from (suc n))
one_more f from zero next e = let same : next ≡ from = omega arith in ap (λ k. f k ∷ []) same
one_more f from (suc n) next e =
    let later : next ≡ from + 1 + n = omega arith in
    ap (λ l. f from ∷ l) (one_more f (from + 1) n next later)

-- one more of what there is for each node
pub places_next : {A : Type 0} (f : ℕ → A) (n : ℕ)
    → map f (range_with_len 0 n) ++ f n ∷ [] ≡ map f (range_with_len 0 (n + 1))
places_next f n =
    let same : n ≡ 0 + n = omega arith in
    let next : suc n ≡ n + 1 = omega arith in
    one_more f 0 n n same ∙ ap (λ k. map f (range_with_len 0 k)) next

-- a turn is at its end
pub turn_end : (side : Side) (index : ℕ) → 144 ≤ index → turn_left side index ≡ []
unfolding turn_left
turn_end side index reached =
    let none : 144 - index ≡ 0 = omega arith in
    ap (λ n. map (λ at. Try (name_at at) side) (range_with_len index n)) none

-- tries that don't move may be left out of a turn
pub record Skips (chip : Chip) (side : Side) (from to : ℕ) : Type 0 where
  pub runs : ran chip (turn_left side from) ≡ ran chip (turn_left side to)
  pub moves : length (moves chip (turn_left side from)) ≡ length (moves chip (turn_left side to))

skips_none : (chip : Chip) (side : Side) (from to : ℕ) → turn_left side from ≡ turn_left side to
    → Skips chip side from to
skips_none chip side from to same =
    record { runs = ap (ran chip) same; moves = ap (λ l. length (moves chip l)) same }

pub no_move : (outcome : Outcome) → outcome ≢ Moved → moved_by outcome ≡ 0
no_move Moved still = absurd (still refl)
no_move Waits still = refl
no_move Held still = refl
no_move Stopped still = refl

skips_one : (chip : Chip) (side : Side) (from : ℕ) → from < 144
    → (tried chip (name_at from) side).0 ≢ Moved → Skips chip side from (from + 1)
skips_one chip side from below still =
    let stays : ◌≡◌ {A = Outcome × Chip} ((tried chip (name_at from) side).0, chip)
    (tried chip (name_at from) side) = ap (λ c. ((tried chip (name_at from) side).0, c))
    (sym (tried_still chip (name_at from) side still)) in
    record {
      runs = ran_next chip chip (name_at from) side _ _ _ (turn_next side from below) stays;
      moves = moves_next chip chip (name_at from) side _ _ _ (turn_next side from below) stays
          ∙ ap (λ n. n + length (moves chip (turn_left side (from + 1)))) (no_move _ still)
          ∙ zero-add _;
    }

skips_by : (chip : Chip) (side : Side) (n from to : ℕ) → to ≡ from + n → ((index : ℕ) → from ≤ index
    → index < to → index < 144 → (tried chip (name_at index) side).0 ≢ Moved)
    → Skips chip side from to
skips_by chip side zero from to e still =
    let same : from ≡ to = omega arith in skips_none chip side from to (ap (turn_left side) same)
skips_by chip side (suc n) from to e still =
    let next : to ≡ from + 1 + n = omega arith in
    first (cases_lt from 144)
    (skips_by chip side n (from + 1) to next (λ index h. still index (omega arith)))
  where
    first : (from < 144) ⊎ (144 ≤ from) → Skips chip side (from + 1) to → Skips chip side from to
    first (inl below) others =
        let here : from < to = omega arith in
        let one = skips_one chip side from below (still from (omega arith) here below) in
        record { runs = one.runs ∙ others.runs; moves = one.moves ∙ others.moves }
    first (inr past) others =
        let later : 144 ≤ to = omega arith in
        skips_none chip side from to (turn_end side from past ∙ sym (turn_end side to later))

pub skips : (chip : Chip) (side : Side) (from to : ℕ) → from ≤ to → ((index : ℕ) (at : Side)
    → from ≤ index → index < to → index < 144 → (tried chip (name_at index) at).0 ≢ Moved)
    → Skips chip side from to
skips chip side from to h still =
    let sum : to ≡ from + (to - from) = omega arith in
    skips_by chip side (to - from) from to sum (λ index. still index side)

pub moved_once : (outcome : Outcome) → moved_by outcome ≤ 1
moved_once Moved = lit≤ tt
moved_once Waits = lit≤ tt
moved_once Held = lit≤ tt
moved_once Stopped = lit≤ tt

-- How far a turn has come: the tries that are left lead to its end, and their moves with those that
-- were counted are all.
abbrev pub InTurn : Chip → Chip → Side → ℕ → ℕ → Type 0
InTurn first chip side index moved =
    (moved ≤ index)
    × (ran chip (turn_left side index) ≡ ran first (turn_of side))
    × (moved + length (moves chip (turn_left side index)) ≡ length (moves first (turn_of side)))

pub turn_begins : (chip : Chip) (side : Side) → InTurn chip chip side 0 0
turn_begins chip side = (
  lit≤ tt,
  ap (ran chip) (turn_whole side),
  zero-add _ ∙ ap (λ l. length (moves chip l)) (turn_whole side),
)

pub turn_goes_on : (first chip next : Chip) (side : Side) (index moved more : ℕ) (outcome : Outcome)
    → InTurn first chip side index moved → index < 144
    → ◌≡◌ {A = Outcome × Chip} (outcome, next) (tried chip (name_at index) side)
    → more ≡ moved_by outcome → InTurn first next side (index + 1) (moved + more)
turn_goes_on first chip next side index moved more outcome before below is counted =
    let once = moved_once outcome in
    let rest =
    moves_next chip next (name_at index) side outcome _ _ (turn_next side index below) is in (
      omega (arith, before.0, counted, once),
      sym (ran_next chip next (name_at index) side outcome _ _ (turn_next side index below) is)
          ∙ before.1,
      omega (arith, before.2, counted, rest),
    )

pub turn_skips : (first chip : Chip) (side : Side) (index next moved : ℕ)
    → InTurn first chip side index moved → index ≤ next → ((at : ℕ) (by : Side) → index ≤ at
    → at < next → at < 144 → (tried chip (name_at at) by).0 ≢ Moved)
    → InTurn first chip side next moved
turn_skips first chip side index next moved before on still =
    let skip = skips chip side index next on still in (
      omega (arith, before.0, on),
      sym skip.runs ∙ before.1,
      ap (λ n. moved + n) (sym skip.moves) ∙ before.2,
    )

pub turn_ends : (first chip : Chip) (side : Side) (index moved : ℕ)
    → InTurn first chip side index moved → 144 ≤ index
    → (chip ≡ ran first (turn_of side)) × (moved ≡ length (moves first (turn_of side)))
turn_ends first chip side index moved before reached =
    let none = sym (turn_end side index reached) in (
      ap (ran chip) none ∙ before.1,
      sym (add-zero _) ∙ ap (λ l. moved + length (moves chip l)) none ∙ before.2,
    )
