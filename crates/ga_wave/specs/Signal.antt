-- The signals of a node.
use Rattle.std.specs.Prelude.{ℕ, Bool, true, List, [], ◌∷◌}
use Rattle.ga_place.specs.Side.{has_side}
use Rattle.ga_place.specs.declared.side.Side.TheVariants.{Right, Down, Left, Up}
use Rattle.ga_wave.specs.declared.signal.Signal.{Signal}
use Rattle.ga_wave.specs.declared.signal.Signal.TheVariants as signal

-- in their order
abbrev pub SIGNALS : List Signal
SIGNALS =
    signal.Did ∷ signal.At ∷ signal.Op ∷ signal.Busy ∷ signal.P ∷ signal.T ∷ signal.S ∷ signal.R
    ∷ signal.A ∷ signal.B ∷ signal.Io ∷ signal.Port Right ∷ signal.Port Down ∷ signal.Port Left
    ∷ signal.Port Up ∷ []

-- the place of a signal in this order
abbrev pub position_of : Signal → ℕ
position_of signal.Did = 0
position_of signal.At = 1
position_of signal.Op = 2
position_of signal.Busy = 3
position_of signal.P = 4
position_of signal.T = 5
position_of signal.S = 6
position_of signal.R = 7
position_of signal.A = 8
position_of signal.B = 9
position_of signal.Io = 10
position_of (signal.Port Right) = 11
position_of (signal.Port Down) = 12
position_of (signal.Port Left) = 13
position_of (signal.Port Up) = 14

-- a node has each of them, but only the ports that it shares with a neighbour
abbrev pub is_signal : ℕ → Signal → Bool
is_signal name (signal.Port side) = has_side name side
is_signal name _ = true
