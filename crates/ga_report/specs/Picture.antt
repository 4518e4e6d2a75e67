-- The chip as a picture, north at the top.
use Rattle.std.specs.Prelude.{ℕ, ◌-◌, ◌*◌, List, [], ◌∷◌, ◌++◌, codes, get_or, Option, Some}
use Rattle.std.specs.Fmt.{decimal}
use Rattle.std.specs.List.{concat, flat_map, range_with_len}
use Rattle.ga_word.specs.Hex.{hex_digits}
use Rattle.ga_place.specs.Cell.{name_at}
use Rattle.ga_place.specs.Node.{column_of, node_text, row_of}
use Rattle.ga_place.specs.Side.{Direction, East, West, North, South, SIDES, direction_of, neighbour_of}
use Rattle.ga_place.specs.declared.side.Side.{Side}
use Rattle.ga_chip.specs.Chip.{Chip}
use Rattle.ga_map.specs.Posted.{posted}
use Rattle.ga_profile.specs.declared.node_turns.NodeTurns.{NodeTurns}
use Rattle.ga_profile.specs.NodeTurns.{NO_TURNS}
use Rattle.ga_report.specs.declared.kind.Kind.{Kind}
use Rattle.ga_report.specs.declared.kind.Kind.TheVariants.{Works, AwaitsWord, AwaitsReader, Spins, Stopped, Boots, Idle}
use Rattle.ga_report.specs.Ending.{kind_at_end}
use Rattle.ga_report.specs.Kind.{words_of}
use Rattle.ga_report.specs.Words.{words_part}

-- ---- an arrow for a pending word

-- the line of an arrow: words that go east and north have another one than those that come back
abbrev pub arrow_line : Direction → List ℕ
arrow_line East = codes "M37 11H42M39 8L42 11L39 14"
arrow_line West = codes "M-1 21H-6M-3 18L-6 21L-3 24"
arrow_line North = codes "M12 -1V-6M9 -3L12 -6L15 -3"
arrow_line South = codes "M24 33V38M21 35L24 38L27 35"

-- the arrow of a word of a node, to its reader
unfoldable pub arrow : ℕ → Side → ℕ → ℕ → List ℕ
arrow name side word reader =
    concat (codes "<path class='arrow' d='" ∷ arrow_line (direction_of name side)
    ∷ (codes "'><title>" ++ node_text name ++ codes " to " ++ node_text reader ++ codes ": "
    ++ hex_digits 5 word ++ codes "</title></path>") ∷ [])

abbrev pub arrow_by : ℕ → Side → Option ℕ → Option ℕ → List ℕ
arrow_by name side (Some word) (Some reader) = arrow name side word reader
arrow_by name side word reader = []

-- for the word that a node posted at a side, if it isn't read
abbrev pub side_arrow : Chip → ℕ → Side → List ℕ
side_arrow chip name side = arrow_by name side (posted chip name side) (neighbour_of name side)

-- and for all of its words, in the order right, down, left, up
unfoldable pub node_arrows : Chip → ℕ → List ℕ
node_arrows chip name = flat_map (side_arrow chip name) SIDES

-- ---- a node

-- a mark of what a node does
abbrev pub mark_text : Kind → List ℕ
mark_text Works = codes "<path class='works' d='M0 16H36'/>"
mark_text AwaitsWord = codes "<path class='word' d='M0 30H36'/>"
mark_text AwaitsReader = codes "<path class='reader' d='M0 2H36'/>"
mark_text Spins = codes "<path class='spins' d='M0 26H36'/>"
mark_text Stopped = codes "<path class='stopped' d='M0 0L36 32M36 0L0 32'/>"
mark_text Boots = codes "<path class='boots' d='M0 26H36'/>"
mark_text Idle = []

-- how far from the left and from the top a node is, in boxes that are 44 and 40 apart
abbrev pub left_of : ℕ → ℕ
left_of name = column_of name * 44

abbrev pub top_of : ℕ → ℕ
top_of name = 280 - row_of name * 40

-- the begin of what is drawn at a place
unfoldable pub group : ℕ → ℕ → List ℕ
group left top =
    codes "<g transform='translate(" ++ decimal left ++ codes " " ++ decimal top ++ codes ")'>"

-- a node, and what it does in words
unfoldable pub node_title : ℕ → List ℕ → List ℕ
node_title name words =
    codes "<title>" ++ node_text name ++ codes " " ++ words ++ codes "</title>"

-- its box with a mark, and its name in the box
unfoldable pub marked : List ℕ → List ℕ
marked mark = codes "<rect width='36' height='32'/>" ++ mark

unfoldable pub label : ℕ → List ℕ
label name = codes "<text x='18' y='21'>" ++ node_text name ++ codes "</text>"

-- a node that does this, with its pending words
unfoldable pub node_box : Chip → ℕ → Kind → List ℕ
node_box chip name kind =
    concat (group (left_of name) (top_of name) ∷ node_title name (words_of kind)
    ∷ marked (mark_text kind) ∷ label name ∷ node_arrows chip name ∷ codes "</g>\n" ∷ [])

-- ---- all nodes

-- the node at an index, by what the nodes did
abbrev pub node_at : Chip → List NodeTurns → ℕ → List ℕ
node_at chip nodes index =
    let name = name_at index in
    node_box chip name (kind_at_end (get_or nodes index NO_TURNS) chip name)

unfoldable pub nodes : Chip → List NodeTurns → List ℕ
nodes chip did = flat_map (node_at chip did) (range_with_len 0 144)

-- the heading, and the begin of the picture
unfoldable pub OPENING : List ℕ
OPENING =
    concat (codes "<h2>Chip at the end</h2>\n"
    ∷ codes "<p>An arrow is a word that isn't read yet.</p>\n"
    ∷ codes "<div class='chip' tabindex='0'>\n"
    ∷ codes "<svg viewBox='-1 -1 786 314' role='img' aria-label='The nodes'>\n" ∷ [])

-- the picture of a chip
unfoldable pub drawing : Chip → List NodeTurns → List ℕ
drawing chip did = concat (OPENING ∷ nodes chip did ∷ codes "</svg></div>\n" ∷ [])

-- The picture of a chip at the end of a window, by what its nodes did there, and its pending words.
unfoldable pub picture : Chip → List NodeTurns → List ℕ
picture chip did = drawing chip did ++ words_part chip
