-- A watch over the steps of a run, which finds the run's races by clocks.
use Rattle.std.specs.Prelude.{◌≡◌, ◌↔◌, ℕ, ◌+◌, ◌<◌, ◌^◌, ◌==◌, Bool, false, ◌&&◌, ◌||◌, not, nat_lt, List, [], ◌∷◌, All, Option, Some, None, is_some, if◌then◌else◌}
use Rattle.std.specs.List.{list_any}
use Rattle.std.specs.Option.{option_map_or}
use Rattle.ga_place.specs.Cell.{cell_of, read_cell}
use Rattle.ga_place.specs.Side.{SIDES, is_among, neighbour_of, side_bit}
use Rattle.ga_place.specs.declared.side.Side.{Side}
use Rattle.ga_node.specs.State.{State}
use Rattle.ga_chip.specs.Chip.{Chip, pending_in, state_of}
use Rattle.ga_chip.specs.Legal.{IsLegal}
use Rattle.ga_chip.specs.Run.{Event}
use Rattle.ga_observe.specs.Laws.{events_in}
use Rattle.ga_observe.specs.Seen.{steps_seen}
use Rattle.ga_observe.specs.declared.step.Deed.{Deed}
use Rattle.ga_observe.specs.declared.step.Deed.TheVariants as did
use Rattle.ga_observe.specs.declared.step.Step.{Step}
use Rattle.ga_race.specs.Clocks.{Clock, Clocks, joined, no_clock, no_clocks, with_clock}
use Rattle.ga_race.specs.Races.{HasNoRace}

-- What a watch keeps. Its clocks count all steps of a node, those before the run too, so that a
-- step's own count is its number plus 1; 0 means that no step of the run comes before.
pub record Watch : Type 0 where
  pub clocks : Clocks
  -- the word pending in each cell
  pub words : ℕ → Option ℕ
  -- for each cell, the count of the last multiport take that left it out, or 0
  pub left_at : ℕ → ℕ
  -- whether a race was found
  pub race : Bool

-- the watch before the first step, by the words of the cells
abbrev pub first_watch : List (Option ℕ) → Watch
first_watch cells = record {
  clocks = no_clocks;
  words = λ cell. pending_in cells cell;
  left_at = λ cell. 0;
  race = false;
}

-- a step's own count
abbrev pub count_of : Step → ℕ
count_of step = step.number + 1

-- what is kept for a cell, if there is one
abbrev pub kept_for : {A : Type 0} → A → (ℕ → A) → Option ℕ → A
kept_for none kept (Some cell) = kept cell
kept_for none kept None = none

-- what is kept for each cell, with something else for one of them
abbrev pub put_for : {A : Type 0} → Option ℕ → A → (ℕ → A) → ℕ → A
put_for (Some cell) new kept at = if at == cell then new else kept at
put_for None new kept at = kept at

-- what a step waited for: a take for the post of its word, and a check for the take
abbrev pub cause_by : ℕ → Deed → Clocks → Clock
cause_by name (did.Took side sides word) clocks =
    kept_for no_clock clocks.posts (read_cell name side)
cause_by name (did.SawRead side) clocks = kept_for no_clock clocks.takes (cell_of name side)
cause_by name did.Own clocks = no_clock
cause_by name (did.Posted side word) clocks = no_clock
cause_by name (did.TookInput word) clocks = no_clock

-- a clock with this count of one node
abbrev pub with_count : ℕ → ℕ → Clock → Clock
with_count node count clock name = if name == node then count else clock name

-- the clock of a step's node after the step
abbrev pub clock_after : Step → Clocks → Clock
clock_after step clocks =
    with_count step.node (count_of step)
    (joined (clocks.nodes step.node) (cause_by step.node step.deed clocks))

-- the cell into which a step posts, and the one from which it takes
abbrev pub cell_posted : ℕ → Deed → Option ℕ
cell_posted name (did.Posted side word) = cell_of name side
cell_posted name did.Own = None
cell_posted name (did.Took side sides word) = None
cell_posted name (did.SawRead side) = None
cell_posted name (did.TookInput word) = None

abbrev pub cell_taken : ℕ → Deed → Option ℕ
cell_taken name (did.Took side sides word) = read_cell name side
cell_taken name did.Own = None
cell_taken name (did.Posted side word) = None
cell_taken name (did.SawRead side) = None
cell_taken name (did.TookInput word) = None

-- the clocks after a step
abbrev pub clocks_after : Step → Clocks → Clocks
clocks_after step clocks = record {
  nodes = with_clock step.node (clock_after step clocks) clocks.nodes;
  posts = put_for (cell_posted step.node step.deed) (clock_after step clocks) clocks.posts;
  takes = put_for (cell_taken step.node step.deed) (clock_after step clocks) clocks.takes;
}

-- the word that a step posts
abbrev pub word_posted : Deed → Option ℕ
word_posted (did.Posted side word) = Some word
word_posted did.Own = None
word_posted (did.Took side sides word) = None
word_posted (did.SawRead side) = None
word_posted (did.TookInput word) = None

-- a post puts its word into its cell, and a take empties it
abbrev pub words_after : Step → (ℕ → Option ℕ) → ℕ → Option ℕ
words_after step words =
    put_for (cell_posted step.node step.deed) (word_posted step.deed)
    (put_for (cell_taken step.node step.deed) None words)

-- a step takes a word at one of several sides, and leaves out this one
abbrev pub leaves_side : Deed → Side → Bool
leaves_side (did.Took taken sides word) side =
    is_among side sides && not (side_bit side == side_bit taken)
leaves_side did.Own side = false
leaves_side (did.Posted to word) side = false
leaves_side (did.SawRead to) side = false
leaves_side (did.TookInput word) side = false

-- a node reads a cell at a side
abbrev pub reads_cell : ℕ → ℕ → Side → Bool
reads_cell name cell side = option_map_or (λ at. at == cell) (read_cell name side) false

-- a step leaves out a cell, and one of the cells that it leaves out holds a word
abbrev pub leaves_cell : Step → ℕ → Bool
leaves_cell step cell =
    list_any (λ side. leaves_side step.deed side && reads_cell step.node cell side) SIDES

abbrev pub leaves_word : Step → (ℕ → Option ℕ) → Bool
leaves_word step words =
    list_any (λ side. leaves_side step.deed side
    && is_some (kept_for None words (read_cell step.node side))) SIDES

-- a post doesn't come after the last multiport take of its cell's reader that left the cell out, by
-- causes
abbrev pub is_early_by : Option ℕ → Option ℕ → Clock → (ℕ → ℕ) → Bool
is_early_by (Some cell) (Some reader) clock left_at = nat_lt (clock reader) (left_at cell)
is_early_by (Some cell) None clock left_at = false
is_early_by None reader clock left_at = false

abbrev pub is_early : ℕ → Deed → Clock → (ℕ → ℕ) → Bool
is_early name (did.Posted side word) clock left_at =
    is_early_by (cell_of name side) (neighbour_of name side) clock left_at
is_early name did.Own clock left_at = false
is_early name (did.Took side sides word) clock left_at = false
is_early name (did.SawRead side) clock left_at = false
is_early name (did.TookInput word) clock left_at = false

-- The watch after a step. A multiport take that leaves out a cell with a word is a race, and so is
-- a post into a cell that was left out, unless it comes after that take by causes.
abbrev pub watch_step : Watch → Step → Watch
watch_step watch step = record {
  clocks = clocks_after step watch.clocks;
  words = words_after step watch.words;
  left_at = λ cell. if leaves_cell step cell then count_of step else watch.left_at cell;
  race = watch.race || (leaves_word step watch.words
      || is_early step.node step.deed (clock_after step watch.clocks) watch.left_at);
}

-- and after some steps
abbrev pub watch_on : Watch → List Step → Watch
watch_on watch [] = watch
watch_on watch (step ∷ steps) = watch_on (watch_step watch step) steps

-- the watch over the steps of a run finds a race
abbrev pub finds_race : Chip → List (ℕ × Event) → Bool
finds_race chip events = (watch_on (first_watch chip.cells) (steps_seen chip events)).race

-- The watch finds no race in a run exactly if the run has none.
abbrev pub WatchFinds : Type 0
WatchFinds =
    (chip : Chip) (events : List (ℕ × Event)) → IsLegal chip
    → (finds_race chip events ≡ false) ↔ HasNoRace chip (events_in events)

-- the counts of some steps have at most 64 bits
abbrev pub AreCounted : List Step → Type 0
AreCounted steps = All (λ (step : Step). count_of step < 2 ^ 64) steps

-- and so have the counts of the steps that each node of a chip has made
abbrev pub CountsFit : Chip → Type 0
CountsFit chip =
    (name : ℕ) (state : State) → state_of chip name ≡ Some state → state.steps < 2 ^ 64

-- It stays so in each run, since a node stops before a count that has more bits.
abbrev pub StepsAreCounted : Type 0
StepsAreCounted =
    (chip : Chip) (events : List (ℕ × Event)) → IsLegal chip → CountsFit chip
    → AreCounted (steps_seen chip events)
