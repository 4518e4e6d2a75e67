-- Words as lines over the rows of a timeline, from their posts to their takes.
use Rattle.std.specs.Prelude.{ℕ, ◌-◌, Bool, ◌&&◌, List, [], ◌∷◌, ◌++◌, codes, count_by, get_or, is_some, length, nat_le, nat_lt, take, if◌then◌else◌}
use Rattle.std.specs.Fmt.{decimal}
use Rattle.std.specs.List.{concat, flat_map}
use Rattle.ga_word.specs.Hex.{hex_digits}
use Rattle.ga_place.specs.Cell.{index_of}
use Rattle.ga_place.specs.Node.{node_text}
use Rattle.ga_profile.specs.declared.node_turns.NodeTurns.{NodeTurns}
use Rattle.ga_profile.specs.declared.window.Window.{Window}
use Rattle.ga_profile.specs.NodeTurns.{NO_TURNS}
use Rattle.ga_report.specs.declared.transfers.Transfer.{Transfer}
use Rattle.ga_report.specs.Columns.{turns_drawn}

-- a node has a row if it began
abbrev pub has_row : List NodeTurns → ℕ → Bool
has_row nodes name = is_some (get_or nodes (index_of name) NO_TURNS).began

-- its number is how many nodes before it have one
abbrev pub rows_before : List NodeTurns → ℕ → ℕ
rows_before nodes index = count_by (λ (did : NodeTurns). is_some did.began) (take index nodes)

abbrev pub row_number : List NodeTurns → ℕ → ℕ
row_number nodes name = rows_before nodes (index_of name)

-- An end of a line: how far a turn is from the first one of the window, which may be behind it, and
-- the middle of a row.
unfoldable pub offset : ℕ → ℕ → List ℕ
offset first turn =
    if nat_lt turn first then codes "-" ++ decimal (first - turn) else decimal (turn - first)

unfoldable pub middle : ℕ → List ℕ
middle row = codes " " ++ decimal row ++ codes ".5"

unfoldable pub line_end : ℕ → ℕ → ℕ → List ℕ
line_end first turn row = offset first turn ++ middle row

-- the line of a word, from the row of its poster to the one of its reader, with the word in words
unfoldable pub LINE : List ℕ
LINE = codes "<path class='transfer' d='M"

unfoldable pub word_text : ℕ → ℕ → ℕ → List ℕ
word_text poster reader word =
    codes "'><title>" ++ node_text poster ++ codes " to " ++ node_text reader ++ codes ": "
    ++ hex_digits 5 word

unfoldable pub turns_text : ℕ → ℕ → List ℕ
turns_text posted taken =
    codes ", turn " ++ decimal posted ++ codes " to turn " ++ decimal taken

unfoldable pub title : Transfer → List ℕ
title transfer =
    concat (word_text transfer.poster transfer.reader transfer.word
    ∷ turns_text transfer.posted transfer.taken ∷ codes "</title></path>\n" ∷ [])

unfoldable pub line : List NodeTurns → ℕ → Transfer → List ℕ
line nodes first transfer =
    concat (LINE ∷ line_end first transfer.posted (row_number nodes transfer.poster) ∷ codes "L"
    ∷ line_end first transfer.taken (row_number nodes transfer.reader) ∷ title transfer ∷ [])

-- if both nodes have a row
abbrev pub line_if : List NodeTurns → ℕ → Transfer → List ℕ
line_if nodes first transfer =
    if has_row nodes transfer.poster && has_row nodes transfer.reader
    then line nodes first transfer else []

-- the lines of some words
unfoldable pub lines : List NodeTurns → ℕ → List Transfer → List ℕ
lines nodes first transfers = flat_map (line_if nodes first) transfers

-- a drawing of some turns over some rows; a turn is as wide as 1, and a row is as high
unfoldable pub DRAWING : List ℕ
DRAWING = codes "<svg class='transfers' viewBox='-.5 0 "

unfoldable pub size : ℕ → ℕ → List ℕ
size turns rows = decimal turns ++ codes " " ++ decimal rows

unfoldable pub opening : ℕ → ℕ → List ℕ
opening turns rows =
    concat (DRAWING ∷ size turns rows ∷ codes "' preserveAspectRatio='none'>\n" ∷ [])

unfoldable pub drawing : List NodeTurns → Window → List Transfer → List ℕ
drawing nodes window transfers =
    concat (opening (turns_drawn window) (rows_before nodes 144)
    ∷ lines nodes window.first transfers ∷ codes "</svg>\n" ∷ [])

-- The lines of the words that nodes take in a window, if these are at most 400.
abbrev pub drawing_if : List NodeTurns → Window → List Transfer → List ℕ
drawing_if nodes window transfers =
    if nat_le (length transfers) 400 then drawing nodes window transfers else []

-- what a line means, or that there are none
abbrev pub words_note : List Transfer → List ℕ
words_note transfers =
    if nat_le (length transfers) 400
    then codes "<p>A thin line is a word, from its post to its take.</p>\n"
    else codes "<p>Nodes take more than 400 words, so none is drawn.</p>\n"
