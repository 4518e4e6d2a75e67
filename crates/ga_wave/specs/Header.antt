-- The declarations of a waveform.
use Rattle.std.specs.Prelude.{ℕ, List, [], ◌∷◌, ◌++◌, codes, Option, Some, None, if◌then◌else◌}
use Rattle.std.specs.List.{concat, flat_map}
use Rattle.ga_place.specs.Node.{node_text}
use Rattle.ga_place.specs.Side.{neighbour_of}
use Rattle.ga_place.specs.declared.side.Side.{Side}
use Rattle.ga_dump.specs.Side.{side_text}
use Rattle.ga_wave.specs.declared.signal.Signal.{Signal}
use Rattle.ga_wave.specs.declared.signal.Signal.TheVariants as signal
use Rattle.ga_wave.specs.Change.{signal_number}
use Rattle.ga_wave.specs.Identifier.{identifier}
use Rattle.ga_wave.specs.Signal.{SIGNALS, is_signal}

-- the type of a signal and its number of bits, with blanks behind
abbrev pub declared_type : Signal → List ℕ
declared_type signal.Did = codes "string 1 "
declared_type signal.At = codes "string 1 "
declared_type signal.Op = codes "string 1 "
declared_type signal.Busy = codes "wire 1 "
declared_type signal.P = codes "reg 10 "
declared_type signal.T = codes "reg 18 "
declared_type signal.S = codes "reg 18 "
declared_type signal.R = codes "reg 18 "
declared_type signal.A = codes "reg 18 "
declared_type signal.B = codes "reg 9 "
declared_type signal.Io = codes "reg 18 "
declared_type (signal.Port side) = codes "wire 18 "

-- the name of a port: its side, and the node that reads there
abbrev pub port_name : Side → Option ℕ → List ℕ
port_name side (Some reader) = side_text side ++ codes "_to_" ++ node_text reader
port_name side None = []

-- the name of a signal of a node
abbrev pub signal_name : ℕ → Signal → List ℕ
signal_name name signal.Did = codes "did"
signal_name name signal.At = codes "at"
signal_name name signal.Op = codes "op"
signal_name name signal.Busy = codes "busy"
signal_name name signal.P = codes "p"
signal_name name signal.T = codes "t"
signal_name name signal.S = codes "s"
signal_name name signal.R = codes "r"
signal_name name signal.A = codes "a"
signal_name name signal.B = codes "b"
signal_name name signal.Io = codes "io"
signal_name name (signal.Port side) = port_name side (neighbour_of name side)

-- the bits of a signal, with this in front of them; texts and a single bit have none
abbrev pub bits : List ℕ → Signal → List ℕ
bits front signal.Did = []
bits front signal.At = []
bits front signal.Op = []
bits front signal.Busy = []
bits front signal.P = front ++ codes "[9:0]"
bits front signal.T = front ++ codes "[17:0]"
bits front signal.S = front ++ codes "[17:0]"
bits front signal.R = front ++ codes "[17:0]"
bits front signal.A = front ++ codes "[17:0]"
bits front signal.B = front ++ codes "[8:0]"
bits front signal.Io = front ++ codes "[17:0]"
bits front (signal.Port side) = front ++ codes "[17:0]"

-- the declaration of a signal, if the node has it
abbrev pub declaration : ℕ → ℕ → Signal → List ℕ
declaration name number signal =
    if is_signal name signal
    then concat (codes "$var " ∷ declared_type signal ∷ identifier (signal_number number signal)
    ∷ codes " " ∷ signal_name name signal ∷ bits (codes " ") signal ∷ codes " $end\n" ∷ [])
    else []

unfoldable pub declarations : ℕ → ℕ → List ℕ
declarations name number = flat_map (declaration name number) SIGNALS

abbrev pub beginning : ℕ → List ℕ
beginning name = codes "$scope module n" ++ node_text name ++ codes " $end\n"

-- the scope of a node, by its number among those that are shown
unfoldable pub scope : ℕ → ℕ → List ℕ
scope name number = beginning name ++ declarations name number ++ codes "$upscope $end\n"
