-- GTKWave's save file for a waveform: which signals it shows, and how.
use Rattle.std.specs.Prelude.{ℕ, List, [], ◌∷◌, ◌++◌, codes, if◌then◌else◌}
use Rattle.std.specs.List.{concat, flat_map}
use Rattle.ga_place.specs.Node.{node_text}
use Rattle.ga_place.specs.declared.side.Side.TheVariants.{Right, Down, Left, Up}
use Rattle.ga_wave.specs.declared.signal.Signal.{Signal}
use Rattle.ga_wave.specs.declared.signal.Signal.TheVariants as signal
use Rattle.ga_wave.specs.Header.{bits, signal_name}
use Rattle.ga_wave.specs.Signal.{is_signal}
use Rattle.ga_wave.specs.Wave.{shown_names}

-- the window, the width of the names, and 33 turns in 1100 pixels
unfoldable pub WINDOW : List ℕ
WINDOW =
    codes "[timestart] 0\n[size] 1500 860\n[pos] 0 0\n"
    ++ codes "*-2.600000 0 -1 -1 -1\n[treeopen] chip.\n"
    ++ codes "[sst_width] 190\n[signals_width] 190\n[sst_expanded] 0\n"

-- the signals that are shown of a node, in order
abbrev pub SAVED : List Signal
SAVED =
    signal.Busy ∷ signal.Did ∷ signal.At ∷ signal.Op ∷ signal.T ∷ signal.Port Right
    ∷ signal.Port Down ∷ signal.Port Left ∷ signal.Port Up ∷ []

-- The colour of a signal, if it isn't the usual one, and its form: 28 is binary, 22 hexadecimal,
-- 820 text.
abbrev pub form : Signal → List ℕ
form signal.Busy = codes "[color] 2\n@28\n"
form signal.Did = codes "[color] 2\n@820\n"
form signal.At = codes "@820\n"
form signal.Op = codes "@820\n"
form (signal.Port side) = codes "[color] 3\n@22\n"
form signal.P = codes "@22\n"
form signal.T = codes "@22\n"
form signal.S = codes "@22\n"
form signal.R = codes "@22\n"
form signal.A = codes "@22\n"
form signal.B = codes "@22\n"
form signal.Io = codes "@22\n"

-- the lines of a signal, if the node has it
abbrev pub saved_signal : ℕ → Signal → List ℕ
saved_signal name signal =
    if is_signal name signal
    then concat (form signal ∷ codes "chip.n" ∷ node_text name ∷ codes "." ∷ signal_name name signal
    ∷ bits [] signal ∷ codes "\n" ∷ []) else []

-- the heading of a node
abbrev pub heading : ℕ → List ℕ
heading name = codes "@200\n-" ++ node_text name ++ codes "\n"

unfoldable pub saved_signals : ℕ → List ℕ
saved_signals name = flat_map (saved_signal name) SAVED

-- the lines of a node
abbrev pub saved_node : ℕ → List ℕ
saved_node name = heading name ++ saved_signals name

-- the file for a waveform of some nodes
unfoldable pub save_text : List ℕ → List ℕ
save_text nodes = WINDOW ++ flat_map saved_node (shown_names nodes)
