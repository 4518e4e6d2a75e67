-- Where a profile begins.
use Rattle.std.specs.Prelude.{◌≡◌, ◌≤◌, List, codes, Option, Some, None}
use Rattle.clap.specs.Words.{Row, Text, first_of}
use Rattle.ga_profile.specs.declared.window.WindowStart.{WindowStart}
use Rattle.ga_profile.specs.declared.window.WindowStart.TheVariants.{FirstNode, LastNode, Turn}
use Rattle.ga_command_line.specs.Number.{WritesNumber}

-- a text names where a profile begins
abbrev pub NamesStart : Text → WindowStart → Type 0
NamesStart text LastNode = text ≡ codes "last"
NamesStart text FirstNode = text ≡ codes "first"
NamesStart text (Turn number) = WritesNumber text number

-- the number of a turn is one of a run
abbrev pub IsStartInRange : WindowStart → Type 0
IsStartInRange LastNode = Unit {0}
IsStartInRange FirstNode = Unit {0}
IsStartInRange (Turn number) = number ≤ 1000000

-- the argument names it; without one it is the last node that begins
abbrev pub IsStartBy : Option Text → WindowStart → Type 0
IsStartBy (Some text) start = NamesStart text start
IsStartBy None start = start ≡ LastNode

abbrev pub IsStartAt : List Row → WindowStart → Type 0
IsStartAt rows start = IsStartBy (first_of (codes "WHERE") rows) start
