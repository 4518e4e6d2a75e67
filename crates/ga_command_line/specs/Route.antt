-- The argument ROUTE as the text that it is.
use Rattle.std.specs.Prelude.{◌≡◌, List, codes, Some}
use Rattle.clap.specs.Words.{Row, Text, first_of}

-- the text of the argument
abbrev pub IsRouteAt : List Row → Text → Type 0
IsRouteAt rows route = first_of (codes "ROUTE") rows ≡ Some route
