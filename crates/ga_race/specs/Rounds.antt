-- Runs that go round: a period of turns leads back to the same chip, except for numbers.
use Rattle.std.specs.Prelude.{◌≡◌, ℕ, ◌+◌, ◌*◌, ◌-◌, ◌^◌, ◌≤◌, ◌<◌, ◌&&◌, false, List, [], length, option_map, ◌⊎◌, Some}
use Rattle.std.specs.List.{list_any}
use Rattle.ga_chip.specs.Part.{Part}
use Rattle.ga_chip.specs.Chip.{Chip, no_counts, part_of}
use Rattle.ga_chip.specs.Run.{Event, has_break, ran, turns_of, words_fed}
use Rattle.ga_chip.specs.Legal.{IsLegal}
use Rattle.ga_race.specs.Clocks.{steps_in}
use Rattle.ga_race.specs.Races.{RunsAgree, HasNoRace, IsDeterminateWithin, IsFed}
use Rattle.ga_race.specs.Spins.{IsSpinning}
use Rattle.ga_node.specs.Spins.{uncounted}

-- A node's part without its numbers: of steps, of words written and of words read. A pass counts
-- only where the node has a breakpoint.
abbrev pub unnumbered : Part → Part
unnumbered part = record part {
  state = uncounted part.state;
  pass = part.pass && list_any (λ break. break) part.breaks;
  written = no_counts;
  read = no_counts;
}

-- Two chips are alike: the same words are pending, and each node has the same part at both, except
-- for its numbers, or it spins at both.
pub record IsAlike (one two : Chip) : Type 0 where
  pub cells : one.cells ≡ two.cells
  pub nodes : (name : ℕ)
      → (option_map unnumbered (part_of one name) ≡ option_map unnumbered (part_of two name))
      ⊎ (IsSpinning one name × IsSpinning two name)

-- A chip comes back: after the first turns a period more leads to a chip that is alike. A period is
-- a multiple of four turns, one for each side.
pub record ComesBack (chip : Chip) (first period : ℕ) : Type 0 where
  pub fours : ℕ
  pub divides : period ≡ fours * 4
  pub some : 1 ≤ period
  pub again : IsAlike (ran chip (turns_of first)) (ran chip (turns_of (first + period)))

-- A chip goes round: it comes back, and the run of a second period has no race.
pub record GoesRound (chip : Chip) (first period : ℕ) : Type 0 where
  pub back : ComesBack chip first period
  pub race : HasNoRace chip (turns_of (first + period + period))

-- The counts of steps last for a number of turns: in them no node makes the largest number of steps
-- that is counted, which would stop it.
abbrev pub CountsLast : Chip → ℕ → Type 0
CountsLast chip turns =
    (name : ℕ) (part : Part) → part_of chip name ≡ Some part
    → part.state.steps + turns < 2 ^ 64 - 1

-- If a chip goes round, no number of turns has a race, so that any two runs within their steps
-- agree on their common steps, as long as the counts of steps last.
abbrev pub NoRaceRound : Type 0
NoRaceRound =
    (chip : Chip) (first period turns : ℕ) → IsLegal chip → GoesRound chip first period
    → CountsLast chip (turns + period) → HasNoRace chip (turns_of turns)
    × IsDeterminateWithin chip (steps_in chip (turns_of turns)) (words_fed chip (turns_of turns))

-- no node has a breakpoint
abbrev pub HasNoBreaks : Chip → Type 0
HasNoBreaks chip = (name address : ℕ) → has_break chip name address ≡ false

-- no words for any stream
abbrev pub no_words : ℕ → List ℕ
no_words name = []

-- If a chip without breakpoints goes round, any two runs that are fed no words agree on their
-- common steps, as long as the counts of steps last for four turns for each event of the two runs.
abbrev pub RoundIsDeterminate : Type 0
RoundIsDeterminate =
    (chip : Chip) (first period : ℕ) (one two : List Event) → IsLegal chip → HasNoBreaks chip
    → GoesRound chip first period → CountsLast chip ((length one + length two) * 4 + period)
    → IsFed chip one no_words → IsFed chip two no_words → RunsAgree chip one two
