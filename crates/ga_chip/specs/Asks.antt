-- What a try asks for, as a call returns it.
use Rattle.std.specs.Prelude.{ℕ, List, [], ◌∷◌, get_or, Option, Some, None}
use Rattle.ga_place.specs.declared.side.Side.{Side}
use Rattle.ga_place.specs.declared.side.Side.TheVariants.{Right, Down, Left, Up}
use Rattle.ga_chip.specs.declared.asks.Asks as told
use Rattle.ga_chip.specs.declared.asks.Asks.TheVariants as call
use Rattle.ga_chip.specs.Part.{Part, Asks, Nothing, Own, Feed, Post, Check, Take, asks}

-- a word of the stream counts as the node's own work, since neither touches a cell
abbrev pub told_as : Asks → told.Asks
told_as (Nothing outcome) = call.Nothing outcome
told_as Own = call.Own
told_as (Feed fed) = call.Own
told_as (Post side cell word) = call.Post side cell word
told_as (Check side cell) = call.Check side cell
told_as (Take side cell) = call.Take side cell

-- what a try of a node that names a side asks for
abbrev pub asked_of : Part → Side → told.Asks
asked_of part side = told_as (asks part side)

-- where a try looks that asks for this: at the cell whose word it takes, or at none, since it
-- changes nothing
abbrev pub look_of : told.Asks → Option (Option ℕ)
look_of (call.Take side cell) = Some (Some cell)
look_of (call.Nothing outcome) = Some None
look_of call.Own = None
look_of (call.Post side cell word) = None
look_of (call.Check side cell) = None

abbrev pub looks_by : Option (Option ℕ) → Option (Option ℕ) → Option (Option ℕ) → Option (Option ℕ)
    → Option (List (Option ℕ))
looks_by (Some right) (Some down) (Some left) (Some up) = Some (right ∷ down ∷ left ∷ up ∷ [])
looks_by (Some right) (Some down) (Some left) None = None
looks_by (Some right) (Some down) None up = None
looks_by (Some right) None left up = None
looks_by None down left up = None

-- where the tries of a node look, in the order right, down, left, up, if each of them looks at a
-- cell or at none
unfoldable pub looks_of : Part → Option (List (Option ℕ))
looks_of part =
    looks_by (look_of (asked_of part Right)) (look_of (asked_of part Down))
    (look_of (asked_of part Left)) (look_of (asked_of part Up))

-- where a try looks that names a side
abbrev pub look_at : List (Option ℕ) → Side → Option ℕ
look_at looks Right = get_or looks 0 None
look_at looks Down = get_or looks 1 None
look_at looks Left = get_or looks 2 None
look_at looks Up = get_or looks 3 None
