-- What a trace and a watch show, and what is known of spins.
use Rattle.std.specs.Prelude.{◌≡◌, ◌<◌, ℕ, false, List, Option}
use Rattle.ga_asm.specs.Image.{ImageView}
use Rattle.ga_chip.specs.Chip.{Chip}
use Rattle.ga_chip.specs.Legal.{IsLegal}
use Rattle.ga_trace.specs.declared.spin_watch.SpinWatch.{SpinWatch}
use Rattle.ga_trace.specs.declared.what.Value.{Value}
use Rattle.ga_trace.specs.declared.what.What.{What}
use Rattle.ga_trace.specs.Traced.{ShowsFirst, traced, turned}
use Rattle.ga_trace.specs.Watched.{IsFirst, change_shown, changes_in, no_change_line, watched}
use Rattle.ga_trace.specs.Spinning.{Watches}

-- A trace of some steps of a node has lines of its first steps.
abbrev pub FirstStepsAreShown : Type 0
FirstStepsAreShown =
    (images : List (ℕ × ImageView)) (name steps : ℕ) (chip : Chip)
    → ShowsFirst images name steps chip (traced images name steps chip).0
    (traced images name steps chip).1

-- The first of 1,000,000 turns that changes the value is shown, and no turn is made behind it.
abbrev pub FirstIsShown : Type 0
FirstIsShown =
    (images : List (ℕ × ImageView)) (name : ℕ) (what : What) (goal : Option Value) (chip : Chip)
    (turn : ℕ) → IsFirst 1000000 name what goal chip turn
    → watched images name what goal chip ≡ change_shown images name what chip turn

-- If none of them changes it, this is what the text says.
abbrev pub NoneIsShown : Type 0
NoneIsShown =
    (images : List (ℕ × ImageView)) (name : ℕ) (what : What) (goal : Option Value) (chip : Chip)
    → ((turn : ℕ) → turn < 1000000 → changes_in name what goal chip turn ≡ false)
    → (watched images name what goal chip).0
    ≡ no_change_line name (watched images name what goal chip).1

-- What is known of the spins of nodes is so after a turn, too.
abbrev pub SpinsStayKnown : Type 0
SpinsStayKnown =
    (chip : Chip) (turn : ℕ) (watch : SpinWatch) → IsLegal chip → Watches chip watch
    → Watches (turned turn chip) watch
