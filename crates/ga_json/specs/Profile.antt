-- A profile as JSON.
use Rattle.std.specs.Prelude.{◌%◌, ℕ, List, [], ◌∷◌, codes, get_or, map, Option, Some, None}
use Rattle.std.specs.List.{flat_map, range_with_len}
use Rattle.serde_json.specs.Data.{Data, Members, array, member, no_members, null, number, object, string, unsigned}
use Rattle.serde_json.specs.View.{items_of}
use Rattle.ga_word.specs.Hex.{hex_digits}
use Rattle.ga_place.specs.Cell.{name_at}
use Rattle.ga_place.specs.Node.{node_text}
use Rattle.ga_trace.specs.Depth.{BOTH_EMPTY}
use Rattle.ga_trace.specs.declared.depth.StackDepths.{StackDepths}
use Rattle.ga_profile.specs.declared.lines.PathLine.{PathLine}
use Rattle.ga_profile.specs.declared.node_pass.NodePass.{NodePass}
use Rattle.ga_profile.specs.declared.node_turns.NodeTurns.{NodeTurns}
use Rattle.ga_profile.specs.declared.node_turns.TurnCounts.{TurnCounts}
use Rattle.ga_profile.specs.declared.profile.Profile.{Profile}
use Rattle.ga_profile.specs.declared.window.Window.{Window}
use Rattle.ga_profile.specs.Bottleneck.{bottleneck_text}
use Rattle.ga_profile.specs.Lines.{path_lines}
use Rattle.ga_profile.specs.NodeTurns.{NO_TURNS}
use Rattle.ga_profile.specs.Unread.{unread_nodes}
use Rattle.ga_profile.specs.Window.{length_of}

-- a member of an object whose value is a number
abbrev pub counted : List ℕ → ℕ → Members → Members
counted key count members = member key (number (unsigned count)) members

-- in how many turns a node did what
unfoldable pub turns_data : TurnCounts → Data
turns_data counts =
    object (counted (codes "boots") counts.boots
    (counted (codes "reader_waits") counts.reader_waits (counted (codes "spins") counts.spins
    (counted (codes "stops") counts.stops (counted (codes "word_waits") counts.word_waits
    (counted (codes "works") counts.works no_members))))))

-- how many words a node took and posted
unfoldable pub words_data : NodeTurns → Data
words_data turns =
    object (counted (codes "in") turns.taken (counted (codes "out") turns.posted no_members))

-- how long a pass takes, and in how many of its turns the node works
unfoldable pub pass_data : Option NodePass → Data
pass_data (Some pass) =
    object (counted (codes "turns") pass.turns (counted (codes "works") pass.works no_members))
pass_data None = null

-- the address of a push for which a stack had no room, in ten bits and hex; or there was room
abbrev pub passed_data : Option ℕ → Data
passed_data (Some address) = string (hex_digits 3 (address % 0x400))
passed_data None = null

-- the most words of each stack, and the address of the first push for which it had no room
unfoldable pub stacks_data : StackDepths → Data
stacks_data depths =
    object (counted (codes "data") depths.data_stack.most
    (member (codes "data_passed") (passed_data depths.data_stack.passed)
    (counted (codes "return") depths.return_stack.most
    (member (codes "return_passed") (passed_data depths.return_stack.passed) no_members))))

-- a node, by what it did, its pass, its turns on the path, and how deep its stacks were
unfoldable pub node_data : ℕ → NodeTurns → Option NodePass → ℕ → StackDepths → Data
node_data name turns pass path depths =
    object (member (codes "name") (string (node_text name))
    (member (codes "pass") (pass_data pass) (counted (codes "path") path
    (member (codes "stacks") (stacks_data depths)
    (member (codes "turns") (turns_data turns.counts)
    (member (codes "words") (words_data turns) no_members))))))

-- if it began
abbrev pub node_if : Option ℕ → Data → List Data
node_if (Some turn) node = node ∷ []
node_if None node = []

abbrev pub node_at : Profile → ℕ → List Data
node_at profile index =
    let turns = get_or profile.nodes.items index NO_TURNS in
    node_if turns.began
    (node_data (name_at index) turns (get_or profile.passes.items index None)
    (get_or profile.path.items index 0) (get_or profile.depths.items index BOTH_EMPTY))

-- the nodes that began, in order of name
unfoldable pub nodes_data : Profile → Data
nodes_data profile = array (items_of (flat_map (node_at profile) (range_with_len 0 144)))

-- the address of a word of memory, in hex; all other code has none
abbrev pub word_data : Option ℕ → Data
word_data (Some word) = string (hex_digits 3 word)
word_data None = null

-- a word of memory of a node, or all its other code, and its turns on the path
unfoldable pub line_data : PathLine → Data
line_data line =
    object (member (codes "name") (string (node_text line.node)) (counted (codes "path") line.turns
    (member (codes "word") (word_data line.word) no_members)))

-- where the path goes
unfoldable pub lines_data : Profile → Data
lines_data profile =
    array (items_of (map line_data (path_lines profile.path.items profile.lines.items)))

-- the nodes whose words are never read
abbrev pub name_data : ℕ → Data
name_data name = string (node_text name)

unfoldable pub stuck_data : Profile → Data
stuck_data profile = array (items_of (map name_data (unread_nodes profile.chip)))

-- the first turn of a window, and the one behind its last
unfoldable pub window_data : Window → Data
window_data window =
    object (counted (codes "end") window.end (counted (codes "first") window.first no_members))

-- what a profile says of the bottleneck
abbrev pub bottleneck_of : Profile → List ℕ
bottleneck_of profile =
    bottleneck_text profile.chip profile.nodes.items profile.path.items profile.shorter
    (length_of profile.window)

-- A profile: the bottleneck, where the path goes, the nodes that began, those that are stuck, and
-- the window.
unfoldable pub profile_data : Profile → Data
profile_data profile =
    object (member (codes "bottleneck") (string (bottleneck_of profile))
    (member (codes "lines") (lines_data profile) (member (codes "nodes") (nodes_data profile)
    (member (codes "stuck") (stuck_data profile)
    (member (codes "window") (window_data profile.window) no_members)))))
