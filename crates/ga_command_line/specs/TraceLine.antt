-- The nodes and the save file of `trace`.
use Rattle.std.specs.Prelude.{◌≡◌, List, codes, Option}
use Rattle.clap.specs.Words.{Row, Text, first_of}

-- the argument names nodes; without one it is left out
abbrev pub IsListAt : List Row → Option Text → Type 0
IsListAt rows nodes = nodes ≡ first_of (codes "LIST") rows

-- the argument names a save file; without one it is left out
abbrev pub IsSaveAt : List Row → Option Text → Type 0
IsSaveAt rows save = save ≡ first_of (codes "SAVE") rows
