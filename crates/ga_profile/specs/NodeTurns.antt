-- What a node did in the turns of a window, by its steps.
use Rattle.std.specs.Prelude.{ℕ, zero, suc, ◌+◌, ◌-◌, ◌^◌, ◌==◌, Bool, true, false, ◌&&◌, List, [], ◌∷◌, Option, Some, None, is_some, min, nat_le, nat_lt, if◌then◌else◌}
use Rattle.ga_place.specs.Address.{where_is}
use Rattle.ga_place.specs.declared.address.Where.{Where}
use Rattle.ga_place.specs.declared.address.Where.TheVariants.{Ram}
use Rattle.ga_node.specs.State.{is_fetch}
use Rattle.ga_node.specs.declared.place.Place.{Place}
use Rattle.ga_node.specs.declared.place.Place.TheVariants.{Fetch}
use Rattle.ga_chip.specs.Chip.{Chip}
use Rattle.ga_chip.specs.Run.{side_of_turn, turn_of}
use Rattle.ga_observe.specs.Seen.{numbered, steps_seen}
use Rattle.ga_observe.specs.declared.step.Deed.{Deed}
use Rattle.ga_observe.specs.declared.step.Deed.TheVariants.{Took, Posted, SawRead}
use Rattle.ga_observe.specs.declared.step.Step.{Step}
use Rattle.ga_trace.specs.Rest.{spins}
use Rattle.ga_trace.specs.Traced.{behind}
use Rattle.ga_profile.specs.declared.node_turns.Act.{Act}
use Rattle.ga_profile.specs.declared.node_turns.Act.TheVariants as act
use Rattle.ga_profile.specs.declared.node_turns.NodeTurns.{NodeTurns}
use Rattle.ga_profile.specs.declared.node_turns.TurnCounts.{TurnCounts}
use Rattle.ga_profile.specs.declared.node_turns.Wait.{Wait}
use Rattle.ga_profile.specs.declared.node_turns.Wait.TheVariants as wait

-- a count stays at the largest number of 64 bits
abbrev pub more : ℕ → ℕ → ℕ
more count by = min (count + by) (2 ^ 64 - 1)

abbrev pub NO_COUNTS : TurnCounts
NO_COUNTS = record {
  boots = 0;
  works = 0;
  word_waits = 0;
  reader_waits = 0;
  spins = 0;
  stops = 0;
}

abbrev pub NO_TURNS : NodeTurns
NO_TURNS = record {
  began = None;
  last = None;
  counts = NO_COUNTS;
  taken = 0;
  posted = 0;
}

-- ---- a wait

-- Before a fetch a node waits for code: it is idle. Elsewhere it waits for a word.
abbrev pub wait_to_take : Place → Wait
wait_to_take Fetch = wait.Work
wait_to_take place = wait.Word

-- what a node waits for before a step
abbrev pub wait_before : Place → Deed → Wait
wait_before place (Took side sides word) = wait_to_take place
wait_before place (SawRead side) = wait.Reader
wait_before place deed = wait.Work

-- how many turns from `from` on lie behind the last step and before a turn
abbrev pub turns_between : ℕ → Option ℕ → ℕ → ℕ
turns_between from None turn = turn - from
turns_between from (Some last) turn = min (turn - from) (turn - last - 1)

abbrev pub waited : TurnCounts → Wait → ℕ → TurnCounts
waited counts wait.Word turns = record counts { word_waits = more counts.word_waits turns }
waited counts wait.Reader turns = record counts { reader_waits = more counts.reader_waits turns }
waited counts wait.Never turns = record counts { stops = more counts.stops turns }
waited counts wait.Work turns = counts

-- the counts with the turns in which a node waited for a step; before it began it was idle
abbrev pub waited_if : ℕ → Option ℕ → Option ℕ → TurnCounts → Step → TurnCounts
waited_if from None last counts step = counts
waited_if from (Some turn) last counts step =
    waited counts (wait_before step.place step.deed) (turns_between from last step.turn)

abbrev pub waited_for : ℕ → NodeTurns → Step → TurnCounts
waited_for from old step = waited_if from old.began old.last old.counts step

-- ---- a step

abbrev pub is_ram : Where → Bool
is_ram (Ram index) = true
is_ram at = false

-- a word of memory is at an address
abbrev pub is_memory : ℕ → Bool
is_memory address = is_ram (where_is address)

-- a step fetches a word of memory
abbrev pub fetches_memory : Step → Bool
fetches_memory step = is_fetch step.place && is_memory step.p

-- a node begins by its first fetch of a word of its memory
abbrev pub began_by : Option ℕ → Step → Option ℕ
began_by (Some turn) step = Some turn
began_by None step = if fetches_memory step then Some step.turn else None

-- What a step is: a spin, if the node spins; work, if it has started; or it boots.
abbrev pub act_of : Bool → Bool → Act
act_of begun spinning = if spinning then act.Spin else if begun then act.Work else act.Boot

abbrev pub acted : TurnCounts → Act → TurnCounts
acted counts act.Boot = record counts { boots = more counts.boots 1 }
acted counts act.Work = record counts { works = more counts.works 1 }
acted counts act.Spin = record counts { spins = more counts.spins 1 }

-- the turn of the last step that isn't a spin
abbrev pub last_by : Option ℕ → Bool → ℕ → Option ℕ
last_by last spinning turn = if spinning then last else Some turn

abbrev pub has_taken : Deed → Bool
has_taken (Took side sides word) = true
has_taken deed = false

abbrev pub has_posted : Deed → Bool
has_posted (Posted side word) = true
has_posted deed = false

-- words count in the window, from where their node began
abbrev pub words_after : ℕ → ℕ → Option ℕ → ℕ → Bool → ℕ
words_after count from began turn one =
    if one && is_some began && nat_le from turn then more count 1 else count

abbrev pub acted_if : TurnCounts → Act → ℕ → ℕ → TurnCounts
acted_if counts what from turn = if nat_lt turn from then counts else acted counts what

-- The turns of a node up to a step, in a window from a turn on, by whether the node spins: those in
-- which it waited for the step, and that of the step.
unfoldable pub after_step : ℕ → Bool → NodeTurns → Step → NodeTurns
after_step from spinning old step =
    let began = began_by old.began step in record {
      began = began;
      last = last_by old.last spinning step.turn;
      counts = acted_if (waited_for from old step) (act_of (is_some began) spinning) from step.turn;
      taken = words_after old.taken from began step.turn (has_taken step.deed);
      posted = words_after old.posted from began step.turn (has_posted step.deed);
    }

-- and up to the last of some steps
abbrev pub turns_on : ℕ → ℕ → Bool → NodeTurns → List Step → NodeTurns
turns_on from name spinning old [] = old
turns_on from name spinning old (step ∷ steps) =
    turns_on from name spinning
    (if step.node == name then after_step from spinning old step else old) steps

-- The turns of a node in a number of turns of a chip, in a window from a turn on: by its steps, and
-- by whether it spins in front of the turn of each.
unfoldable pub turns_in : ℕ → ℕ → ℕ → Chip → NodeTurns
turns_in from name zero chip = NO_TURNS
turns_in from name (suc turn) chip =
    turns_on from name (spins (behind chip turn) name) (turns_in from name turn chip)
    (steps_seen (behind chip turn) (numbered turn (turn_of (side_of_turn turn))))
