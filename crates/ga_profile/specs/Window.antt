-- The turns that a profile is of.
use Rattle.std.specs.Prelude.{ℕ, ◌+◌, ◌-◌, List, [], ◌∷◌, Option, Some, None, max, min, nat_lt, unwrap_or, if◌then◌else◌}
use Rattle.ga_profile.specs.declared.node_turns.NodeTurns.{NodeTurns}
use Rattle.ga_profile.specs.declared.window.Window.{Window}
use Rattle.ga_profile.specs.declared.window.WindowStart.{WindowStart}
use Rattle.ga_profile.specs.declared.window.WindowStart.TheVariants.{FirstNode, LastNode, Turn}

-- the earlier and the later of two turns, if there are two
abbrev pub earlier : Option ℕ → Option ℕ → Option ℕ
earlier (Some a) (Some b) = Some (min a b)
earlier (Some a) None = Some a
earlier None b = b

abbrev pub later : Option ℕ → Option ℕ → Option ℕ
later (Some a) (Some b) = Some (max a b)
later (Some a) None = Some a
later None b = b

-- the turns in which the first node and the last node began, or else what was found before
abbrev pub first_began : Option ℕ → List NodeTurns → Option ℕ
first_began found [] = found
first_began found (turns ∷ nodes) = first_began (earlier found turns.began) nodes

abbrev pub last_began : Option ℕ → List NodeTurns → Option ℕ
last_began found [] = found
last_began found (turns ∷ nodes) = last_began (later found turns.began) nodes

-- the turn of the last step of a node that isn't a spin
abbrev pub last_step : Option ℕ → List NodeTurns → Option ℕ
last_step found [] = found
last_step found (turns ∷ nodes) = last_step (later found turns.last) nodes

-- the turn behind it, if it is among the turns that were made
abbrev pub end_by : Option ℕ → ℕ → ℕ
end_by (Some turn) made = if nat_lt turn made then turn + 1 else made
end_by None made = 0

abbrev pub end_within : List NodeTurns → ℕ → ℕ
end_within nodes made = end_by (last_step None nodes) made

-- the first turn of the window; 0 if no node began
abbrev pub first_of : WindowStart → List NodeTurns → ℕ
first_of FirstNode nodes = unwrap_or (first_began None nodes) 0
first_of LastNode nodes = unwrap_or (last_began None nodes) 0
first_of (Turn number) nodes = number

-- The window: from where it is wanted to the last step that isn't a spin.
unfoldable pub window_of : WindowStart → List NodeTurns → ℕ → Window
window_of start nodes made =
    record { first = first_of start nodes; end = end_within nodes made }

-- how many turns it has
abbrev pub length_of : Window → ℕ
length_of window = window.end - window.first
