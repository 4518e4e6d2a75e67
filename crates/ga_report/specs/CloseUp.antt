-- A part of a window for a close-up.
use Rattle.std.specs.Prelude.{ℕ, ◌+◌, ◌-◌, ◌*◌, ◌/◌, List, [], ◌∷◌, Option, Some, None, nat_le, nat_lt, if◌then◌else◌}
use Rattle.std.specs.Option.{option_and_then}
use Rattle.ga_profile.specs.declared.node_pass.NodePass.{NodePass}
use Rattle.ga_profile.specs.declared.window.Window.{Window}
use Rattle.ga_profile.specs.Window.{length_of}

-- the one of two passes in which its node works more, or else the first
abbrev pub busier : Option NodePass → Option NodePass → Option NodePass
busier (Some one) (Some other) =
    if nat_lt one.works other.works then Some other else Some one
busier (Some one) None = Some one
busier None other = other

-- the pass with the most turns in which its node works, with the one that was found before
abbrev pub busiest : Option NodePass → List (Option NodePass) → Option NodePass
busiest found [] = found
busiest found (pass ∷ passes) = busiest (busier found pass) passes

-- the turns of the passes that are shown: three passes if these have at most 600 turns, or one
abbrev pub passes_shown : ℕ → ℕ
passes_shown turns = if nat_le turns 200 then turns * 3 else turns

-- some turns from one on, and those in the middle of a window, if it has more
abbrev pub turns_from : ℕ → ℕ → Window
turns_from first turns = record { first = first; end = first + turns }

abbrev pub middle_of : Window → ℕ → Option Window
middle_of window turns =
    if nat_lt turns (length_of window)
    then Some (turns_from (window.first + (length_of window - turns) / 2) turns) else None

-- The turns in the middle of a window, as many as are shown of the passes of the busiest node.
abbrev pub close_up_window : Window → List (Option NodePass) → Option Window
close_up_window window passes =
    option_and_then (λ (pass : NodePass). middle_of window (passes_shown pass.turns))
    (busiest None passes)
