-- Where the path goes: the words of memory with the most turns on it.
use Rattle.std.specs.Prelude.{ℕ, ◌/◌, ◌%◌, ◌==◌, Option, Some, None, List, [], ◌∷◌, get_or, map, nat_lt, if◌then◌else◌}
use Rattle.std.specs.List.{flat_map, range_with_len}
use Rattle.ga_place.specs.Cell.{name_at}
use Rattle.ga_chip.specs.Chip.{Chip}
use Rattle.ga_profile.specs.declared.kinds.Kinds.TheVariants.{Lines}
use Rattle.ga_profile.specs.declared.lines.PathLine.{PathLine}
use Rattle.ga_profile.specs.declared.window.Window.{Window}
use Rattle.ga_profile.specs.Kinds.{kind_of}
use Rattle.ga_profile.specs.Path.{path_in, turns_of}
use Rattle.ga_profile.specs.Rank.{rank_of, ranked}

-- the rank of each node by its turns on the path
unfoldable pub node_ranks : List ℕ → List ℕ
node_ranks paths = map (λ index. rank_of paths index) (range_with_len 0 144)

-- How many turns each line has on the path, of the ten nodes with the most turns on it: 65 for each
-- node, one for each word of its memory and one for all other code.
unfoldable pub line_turns : Window → Chip → List ℕ → List ℕ
line_turns window chip paths =
    map (λ kind. turns_of (kind_of (Lines (node_ranks paths))) kind (path_in window chip))
    (range_with_len 0 650)

-- ---- the lines with the most turns

-- the word of memory that is a line of a node; the last line has none: it is all other code
abbrev pub word_of : ℕ → Option ℕ
word_of line = if nat_lt line 64 then Some line else None

-- a line, if it has turns
abbrev pub line_if : List ℕ → ℕ → ℕ → List PathLine
line_if paths kind turns =
    if turns == 0 then []
    else record {
      node = name_at (ranked paths (kind / 65));
      word = word_of (kind % 65);
      turns = turns;
    } ∷ []

-- the line of a rank
abbrev pub line_at : List ℕ → List ℕ → ℕ → List PathLine
line_at paths lines rank =
    let kind = ranked lines rank in line_if paths kind (get_or lines kind 0)

-- The ten lines with the most turns, the most first.
unfoldable pub path_lines : List ℕ → List ℕ → List PathLine
path_lines paths lines = flat_map (line_at paths lines) (range_with_len 0 10)
