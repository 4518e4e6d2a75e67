-- The names of sides in texts.
use Rattle.std.specs.Prelude.{ℕ, List, codes}
use Rattle.ga_place.specs.declared.side.Side.{Side}
use Rattle.ga_place.specs.declared.side.Side.TheVariants.{Right, Down, Left, Up}

-- in lower case
abbrev pub side_text : Side → List ℕ
side_text Right = codes "right"
side_text Down = codes "down"
side_text Left = codes "left"
side_text Up = codes "up"
