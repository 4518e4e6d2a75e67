-- What a listing shows of the lines of its text.
use Rattle.std.specs.Prelude.{ℕ, List}
use Rattle.std.specs.Fmt.{decimal}
use Rattle.ga_pack.specs.Model.Text.{Place}

-- what is shown of the line of each place
abbrev pub LineNames : Type 0
LineNames = Place → List ℕ

-- the line's number
abbrev pub line_number : LineNames
line_number place = decimal place.line
