-- The timeline as rows, one for each node that began.
use Rattle.std.specs.Prelude.{ℕ, ◌==◌, List, [], ◌∷◌, ◌++◌, codes, get_or, length, Option, Some, None, if◌then◌else◌}
use Rattle.std.specs.Fmt.{decimal}
use Rattle.std.specs.List.{concat, flat_map, range_with_len}
use Rattle.ga_place.specs.Cell.{name_at}
use Rattle.ga_place.specs.Node.{node_text}
use Rattle.ga_profile.specs.declared.node_turns.NodeTurns.{NodeTurns}
use Rattle.ga_profile.specs.declared.node_turns.TurnCounts.{TurnCounts}
use Rattle.ga_profile.specs.declared.window.Window.{Window}
use Rattle.ga_profile.specs.NodeTurns.{NO_COUNTS, NO_TURNS}
use Rattle.ga_report.specs.declared.kind.Kind.{Kind}
use Rattle.ga_report.specs.declared.timeline.Timeline.{Timeline}
use Rattle.ga_report.specs.Columns.{stride_of}
use Rattle.ga_report.specs.Kind.{KINDS, class_of, words_of}
use Rattle.ga_report.specs.Line.{level_of, lines}
use Rattle.ga_report.specs.PathLine.{path_line}
use Rattle.ga_report.specs.Scale.{scale}
use Rattle.ga_report.specs.Timeline.{row_of}

-- the begin of a line of the key, and a line of a class at a height
unfoldable pub SAMPLE : List ℕ
SAMPLE = codes "<li><svg viewBox='0 0 26 24' aria-hidden='true'>"

unfoldable pub classed : List ℕ → List ℕ
classed class = codes "<path class='" ++ class ++ codes "' "

unfoldable pub levelled : ℕ → List ℕ
levelled level = codes "d='M0 " ++ decimal level ++ codes "H26'/></svg>"

-- what the line of a kind means, and of all kinds
unfoldable pub key_item : Kind → List ℕ
key_item kind =
    concat (SAMPLE ∷ classed (class_of kind) ∷ levelled (level_of kind) ∷ words_of kind
    ∷ codes "</li>\n" ∷ [])

unfoldable pub KEY_ITEMS : List ℕ
KEY_ITEMS = flat_map key_item KINDS

-- the heading, and the begin of the key
unfoldable pub OPENING : List ℕ
OPENING = codes "<h2>Timeline</h2>\n<ul class='key'>\n"

-- what the line at the foot means, and a cross
unfoldable pub PATH : List ℕ
PATH =
    concat (codes "<li><svg viewBox='0 0 26 24' aria-hidden='true'>"
    ∷ codes "<path class='path' d='M0 23H26'/></svg>"
    ∷ codes "the path: what the run waits for</li>\n" ∷ [])

unfoldable pub CROSS : List ℕ
CROSS = codes "<li>&#215; at a name: the node has stopped</li>\n"

unfoldable pub KEY : List ℕ
KEY = concat (OPENING ∷ KEY_ITEMS ∷ PATH ∷ CROSS ∷ codes "</ul>\n" ∷ [])

-- in how many turns a node works, and in how many it waits
unfoldable pub works_text : ℕ → ℕ → List ℕ
works_text name turns = node_text name ++ codes " works in " ++ decimal turns ++ codes " turns"

unfoldable pub word_waits_text : ℕ → List ℕ
word_waits_text turns = codes ", waits for a word in " ++ decimal turns

unfoldable pub reader_waits_text : ℕ → List ℕ
reader_waits_text turns = codes ", and for a reader in " ++ decimal turns

unfoldable pub summary : ℕ → TurnCounts → List ℕ
summary name counts =
    works_text name counts.works ++ word_waits_text counts.word_waits
    ++ reader_waits_text counts.reader_waits

-- its name at the begin of its row, with a cross if it is stopped in some turns
unfoldable pub row_name : ℕ → List ℕ
row_name name = codes "<div class='row'><b>" ++ node_text name

abbrev pub stop_mark : ℕ → List ℕ
stop_mark turns = if turns == 0 then [] else codes " &#215;"

-- the begin of a row of this many columns
unfoldable pub row_head : ℕ → List ℕ
row_head columns =
    codes "</b><svg viewBox='0 0 " ++ decimal columns
    ++ codes " 24' preserveAspectRatio='none' role='img'><title>"

-- its lines: what it does in each column, and where it has the path
unfoldable pub drawn : ℕ → List Kind → List (Option ℕ) → List ℕ
drawn name shown path = lines shown ++ path_line path name

-- the row of a node, by what it does in how many turns and in each column, and by who has the path
unfoldable pub row : ℕ → TurnCounts → List Kind → List (Option ℕ) → List ℕ
row name counts shown path =
    concat (row_name name ∷ stop_mark counts.stops ∷ row_head (length shown) ∷ summary name counts
    ∷ codes "</title>" ∷ drawn name shown path
    ∷ codes "</svg></div>\n" ∷ [])

-- if the node began
abbrev pub row_if : Option ℕ → ℕ → TurnCounts → List Kind → List (Option ℕ) → List ℕ
row_if (Some turn) name counts shown path = row name counts shown path
row_if None name counts shown path = []

abbrev pub row_at : List NodeTurns → Timeline → ℕ → List ℕ
row_at nodes timeline index =
    row_if (get_or nodes index NO_TURNS).began (name_at index)
    (get_or timeline.counts.items index NO_COUNTS)
    (row_of timeline.columns timeline.kinds.items index) timeline.path.items

-- the rows of all nodes that began, in order of name
unfoldable pub rows : List NodeTurns → Timeline → List ℕ
rows nodes timeline = flat_map (row_at nodes timeline) (range_with_len 0 144)

-- what a column of some turns stands for
unfoldable pub note : ℕ → List ℕ
note turns =
    if turns == 1 then codes "<p>A column is a turn.</p>\n"
    else codes "<p>A column of " ++ decimal turns
    ++ codes " turns shows what the node did in most of them.</p>\n"

-- the scale of a window, and what a column stands for
unfoldable pub axis : Window → List ℕ
axis window = scale window ++ note (stride_of window)

-- The timeline of a window, by what the nodes did.
unfoldable pub timeline_part : List NodeTurns → Timeline → List ℕ
timeline_part nodes timeline =
    concat (KEY ∷ rows nodes timeline ∷ axis timeline.window ∷ [])
