-- The sides at which a node waits, and what its neighbours there do.
use Rattle.std.specs.Prelude.{ℕ, Bool, true, false, List, [], ◌∷◌, ◌++◌, codes, Option, Some, None, if◌then◌else◌}
use Rattle.std.specs.Option.{option_map_or}
use Rattle.ga_place.specs.Node.{node_text}
use Rattle.ga_place.specs.Side.{SIDES, is_among, neighbour_of}
use Rattle.ga_place.specs.declared.side.Side.{Side}
use Rattle.ga_place.specs.declared.side.Sides.{Sides}
use Rattle.ga_node.specs.Line.{need_text}
use Rattle.ga_node.specs.Need.{need_of}
use Rattle.ga_node.specs.State.{State}
use Rattle.ga_node.specs.declared.need.Need.{Need}
use Rattle.ga_node.specs.declared.need.Need.TheVariants.{Own, Take, Post, Check, Input, Stopped}
use Rattle.ga_chip.specs.Chip.{Chip, state_of}
use Rattle.ga_chip.specs.Run.{stands_held}
use Rattle.ga_dump.specs.Side.{side_text}

-- the texts of those of these sides that are in a set, with one text in front of the first, and
-- another between two
abbrev pub joined : (Side → List ℕ) → List ℕ → List ℕ → Sides → List Side → List ℕ
joined text front between sides [] = []
joined text front between sides (side ∷ rest) =
    if is_among side sides then front ++ text side ++ joined text between between sides rest
    else joined text front between sides rest

-- a side of a node, and its neighbour there, if there is one
abbrev pub end_text : ℕ → Side → List ℕ
end_text name side =
    side_text side ++ codes " of "
    ++ option_map_or node_text (neighbour_of name side) (codes "nobody")

-- what a node does that isn't held, by its need
abbrev pub act_text : ℕ → Need → List ℕ
act_text name Own = codes "works"
act_text name (Take sides) = codes "takes " ++ joined (end_text name) [] (codes "/") sides SIDES
act_text name (Post side word) = codes "posts " ++ end_text name side
act_text name (Check side) = codes "checks " ++ end_text name side
act_text name Input = codes "awaits its stream"
act_text name (Stopped stop) = codes "is stopped"

-- what a node does, by whether it is held
abbrev pub doing_text : Bool → ℕ → Option State → List ℕ
doing_text true name state = codes "is held"
doing_text false name (Some state) = act_text name (need_of state)
doing_text false name None = []

-- a side of a node, its neighbour there, and what that one does
abbrev pub told_end : Chip → ℕ → Side → List ℕ
told_end chip name side =
    side_text side ++ codes " of "
    ++ option_map_or (λ other. node_text other ++ codes " which "
    ++ doing_text (stands_held chip other) other (state_of chip other))
    (neighbour_of name side) (codes "nobody")

-- a need behind a blank, with the sides of what it takes, posts or checks
abbrev pub told_need : Chip → ℕ → Need → List ℕ
told_need chip name (Take sides) =
    codes " take " ++ joined (told_end chip name) [] (codes " and ") sides SIDES
told_need chip name (Post side word) = codes " post " ++ told_end chip name side
told_need chip name (Check side) = codes " check " ++ told_end chip name side
told_need chip name Own = 32 ∷ need_text Own
told_need chip name Input = 32 ∷ need_text Input
told_need chip name (Stopped stop) = 32 ∷ need_text (Stopped stop)

-- why a node that isn't held makes no step, by its need
abbrev pub wait_text : ℕ → Need → List ℕ
wait_text name Own = codes "works"
wait_text name (Take sides) = codes "waits " ++ joined (end_text name) [] (codes "/") sides SIDES
wait_text name (Post side word) = codes "waits " ++ end_text name side
wait_text name (Check side) = codes "waits " ++ end_text name side
wait_text name Input = codes "waits for its stream"
wait_text name (Stopped stop) = need_text (Stopped stop)

-- the same by whether it is held
abbrev pub rest_text : Bool → ℕ → Option State → List ℕ
rest_text true name state = codes "held"
rest_text false name (Some state) = wait_text name (need_of state)
rest_text false name None = []
