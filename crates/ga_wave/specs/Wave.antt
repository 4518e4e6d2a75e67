-- The waveform of a run.
use Rattle.std.specs.Prelude.{ℕ, zero, suc, ◌==◌, List, [], ◌∷◌, ◌++◌, codes, length, Option, Some, None, if◌then◌else◌}
use Rattle.std.specs.Fmt.{decimal}
use Rattle.std.specs.List.{enumerate_from, flat_map, range_with_len}
use Rattle.ga_place.specs.Cell.{name_at}
use Rattle.ga_place.specs.Node.{is_among}
use Rattle.ga_asm.specs.Image.{ImageView}
use Rattle.ga_chip.specs.Chip.{Chip}
use Rattle.ga_chip.specs.Run.{side_of_turn}
use Rattle.ga_trace.specs.Traced.{turned}
use Rattle.ga_wave.specs.declared.sample.Sample.{Sample}
use Rattle.ga_wave.specs.Change.{changes}
use Rattle.ga_wave.specs.Header.{scope}
use Rattle.ga_wave.specs.Sample.{sample_of, stand_in}

-- ---- what it shows

-- the nodes that are shown, in order of name
abbrev pub if_shown : List ℕ → ℕ → List ℕ
if_shown nodes name = if is_among name nodes then name ∷ [] else []

unfoldable pub shown_names : List ℕ → List ℕ
shown_names nodes = flat_map (λ index. if_shown nodes (name_at index)) (range_with_len 0 144)

-- the same with their numbers, counted from 0
abbrev pub numbered : List ℕ → List (ℕ × ℕ)
numbered names = enumerate_from 0 names

-- the chip behind a number of turns
abbrev pub chip_behind : Chip → ℕ → Chip
chip_behind start zero = start
chip_behind start (suc turns) = turned turns (chip_behind start turns)

-- what a turn shows of a node, and the turn before it, if there is one
abbrev pub shown_in : Chip → ℕ → ℕ → Sample
shown_in start turn name =
    sample_of (side_of_turn turn) (stand_in (chip_behind start turn) name)
    (chip_behind start (suc turn)) name

abbrev pub shown_before : Chip → ℕ → ℕ → Option Sample
shown_before start zero name = None
shown_before start (suc turn) name = Some (shown_in start turn name)

-- ---- its text

-- the unit of time, and the scope of the chip
unfoldable pub UNIT : List ℕ
UNIT =
    codes "$comment ga-bench: 1 ns is a turn of the chip $end\n"
    ++ codes "$timescale 1 ns $end\n" ++ codes "$scope module chip $end\n"

-- the declarations
unfoldable pub header : List ℕ → List ℕ
header names =
    UNIT
    ++ flat_map (λ (node : ℕ × ℕ). scope node.1 node.0) (numbered names)
    ++ codes "$upscope $end\n$enddefinitions $end\n"

abbrev pub time_line : ℕ → List ℕ
time_line turn = codes "#" ++ decimal turn ++ codes "\n"

-- a turn with what it changed; nothing if it changed nothing
abbrev pub turn_block : ℕ → List ℕ → List ℕ
turn_block turn lines = if length lines == 0 then [] else time_line turn ++ lines

abbrev pub node_changes : List (ℕ × ImageView) → Chip → ℕ → ℕ × ℕ → List ℕ
node_changes images start turn node =
    changes images node.1 node.0 (shown_before start turn node.1) (shown_in start turn node.1)

unfoldable pub turn_text : List (ℕ × ImageView) → List ℕ → Chip → ℕ → List ℕ
turn_text images names start turn =
    turn_block turn (flat_map (node_changes images start turn) (numbered names))

-- the declarations, and the turns before one in order
abbrev pub text_before : List (ℕ × ImageView) → List ℕ → Chip → ℕ → List ℕ
text_before images names start turn =
    header names ++ flat_map (turn_text images names start) (range_with_len 0 turn)

-- The same for all turns, and the time of the turn behind the last one.
unfoldable pub waveform : List (ℕ × ImageView) → List ℕ → Chip → ℕ → List ℕ
waveform images nodes start turns =
    text_before images (shown_names nodes) start turns ++ time_line turns
