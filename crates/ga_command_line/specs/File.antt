-- The argument FILE, of which a subcommand may have several.
use Rattle.std.specs.Prelude.{◌≡◌, List, [], codes, Option, unwrap_or}
use Rattle.clap.specs.Words.{Row, Text, all_of, first_of}

-- the argument is the name of a file; without one it is left out
abbrev pub IsFileAt : List Row → Option Text → Type 0
IsFileAt rows file = file ≡ first_of (codes "FILE") rows

-- the names of files that the arguments are
abbrev pub files_at : List Row → List Text
files_at rows = unwrap_or (all_of (codes "FILE") rows) []
