-- What any two plans leave alike.
use Rattle.std.specs.Prelude.{◌≡◌, ℕ, List, Some}
use Rattle.ga_chip.specs.declared.outcome.Try.{Try}
use Rattle.ga_chip.specs.Part.{Part}
use Rattle.ga_chip.specs.Chip.{Chip, part_of}
use Rattle.ga_chip.specs.Laws.{Agree, AgreesWith}
use Rattle.ga_chip.specs.Legal.{DifferInBreaks, IsLegal}
use Rattle.ga_chip.specs.Run.{ran, sides_of, tries_of, words_left}
use Rattle.ga_group.specs.Plan.{Groups}
use Rattle.ga_group.specs.Workers.{IsWorkersRun}

-- Two runs may be compared: they begin at legal chips that differ at most in breakpoints and
-- passes, and their multiport reads name the same sides on their common steps.
pub record AreAlike (one two : Chip) (tries others : List Try) : Type 0 where
  pub first : IsLegal one
  pub second : IsLegal two
  pub chips : DifferInBreaks one two
  pub sides : (name : ℕ)
      → AgreesWith (sides_of one (tries_of tries) name) (sides_of two (tries_of others) name)

-- a node has the same state at two chips, and the same words left of its stream
pub record IsAlike (here there : Part) : Type 0 where
  pub state : here.state ≡ there.state
  pub stream : words_left here.stream ≡ words_left there.stream

-- two chips have a node alike if it has made equally many steps
abbrev pub LeaveAlike : Chip → Chip → Type 0
LeaveAlike one two =
    (name : ℕ) (here there : Part) → part_of one name ≡ Some here → part_of two name ≡ Some there
    → here.state.steps ≡ there.state.steps → IsAlike here there

-- Two runs of workers that may be compared, by whatever plans and over however many turns, agree on
-- their common steps, and leave each node alike if it has made equally many steps.
abbrev pub PlansAgree : Type 0
PlansAgree =
    (one two next other : Chip) (plan another : Groups) (turns more : ℕ)
    (run : IsWorkersRun one plan turns next) (again : IsWorkersRun two another more other)
    → AreAlike one two run.tries again.tries
    → Agree one two (tries_of run.tries) (tries_of again.tries) × LeaveAlike next other

-- So do a run of workers and a list of tries in one thread.
abbrev pub RunAgrees : Type 0
RunAgrees =
    (one two next : Chip) (plan : Groups) (turns : ℕ) (tries : List Try)
    (run : IsWorkersRun one plan turns next) → AreAlike one two run.tries tries
    → Agree one two (tries_of run.tries) (tries_of tries)
    × LeaveAlike next (ran two (tries_of tries))
