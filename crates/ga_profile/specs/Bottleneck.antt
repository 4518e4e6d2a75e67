-- What a run waits for, and how long it would be if that were faster.
use Rattle.std.specs.Prelude.{ℕ, zero, suc, ◌+◌, ◌-◌, ◌*◌, ◌/◌, ◌==◌, ◌||◌, List, ◌++◌, codes, get_or, length, nat_lt, Option, Some, None, if◌then◌else◌}
use Rattle.std.specs.Fmt.{decimal}
use Rattle.ga_place.specs.Cell.{name_at}
use Rattle.ga_place.specs.Node.{node_text}
use Rattle.ga_chip.specs.Chip.{Chip}
use Rattle.ga_waits.specs.Waits.{all_ring_lines, text_of}
use Rattle.ga_profile.specs.declared.node_turns.NodeTurns.{NodeTurns}
use Rattle.ga_profile.specs.NodeTurns.{NO_TURNS}
use Rattle.ga_profile.specs.Unread.{unread_nodes, unread_text}

-- the index of the first node with the most turns on the path
abbrev pub more_on_path : List ℕ → ℕ → ℕ → ℕ
more_on_path paths most index =
    if nat_lt (get_or paths most 0) (get_or paths index 0) then index else most

abbrev pub most_on_path : List ℕ → ℕ → ℕ
most_on_path paths zero = 0
most_on_path paths (suc index) = more_on_path paths (most_on_path paths index) index

-- and its name
abbrev pub node_on_path : List ℕ → ℕ
node_on_path paths = name_at (most_on_path paths 144)

-- in how many turns of the window a node works
abbrev pub works_at : List NodeTurns → ℕ → ℕ
works_at nodes index = (get_or nodes index NO_TURNS).counts.works

-- a part in percent, rounded down
abbrev pub whole_percent : ℕ → ℕ → ℕ
whole_percent part all = part * 100 / all

-- and rounded up
abbrev pub percent_up : ℕ → ℕ → ℕ
percent_up part all = (part * 100 + all - 1) / all

-- a node, and in how many percent of the turns the run waits for it and it works
unfoldable pub waited_text : ℕ → ℕ → List ℕ
waited_text name waited =
    codes "Bottleneck: " ++ node_text name ++ codes ". The run waits for it in " ++ decimal waited
    ++ codes " % of the turns, "

unfoldable pub works_text : ℕ → List ℕ
works_text works = codes "and it works in " ++ decimal works ++ codes " %.\n"

-- how many percent of the turns the run would take if the node were twice as fast
unfoldable pub faster_text : Option ℕ → ℕ → List ℕ
faster_text (Some shorter) turns =
    codes "If it worked twice as fast, the run would take " ++ decimal (percent_up shorter turns)
    ++ codes " % of them.\n"
faster_text None turns = codes "If it worked twice as fast, the run would be no shorter.\n"

-- The node of an index, by its turns on the path and those in which it works. There is no
-- bottleneck if it has no turn on the path, or the window has none.
unfoldable pub sentence_at : List NodeTurns → List ℕ → Option ℕ → ℕ → ℕ → List ℕ
sentence_at nodes paths shorter turns index =
    if get_or paths index 0 == 0 || turns == 0
    then codes "Bottleneck: none. No node works in these turns.\n"
    else waited_text (name_at index) (whole_percent (get_or paths index 0) turns)
    ++ works_text (whole_percent (works_at nodes index) turns) ++ faster_text shorter turns

-- The bottleneck of a run without rings: the first node with the most turns on the path.
unfoldable pub sentence : List NodeTurns → List ℕ → Option ℕ → ℕ → List ℕ
sentence nodes paths shorter turns =
    sentence_at nodes paths shorter turns (most_on_path paths 144)

-- ---- with what waits for good

unfoldable pub DEADLOCK : List ℕ
DEADLOCK = codes "Bottleneck: the deadlock. The nodes of a ring wait for one another for good.\n"

-- the rings make a deadlock; without them the words that are never read come first
abbrev pub with_rings : List ℕ → List ℕ → List ℕ → List ℕ
with_rings rings unread bottleneck =
    if length rings == 0 then unread ++ bottleneck else DEADLOCK ++ rings

-- and the chip at its end
unfoldable pub bottleneck_text : Chip → List NodeTurns → List ℕ → Option ℕ → ℕ → List ℕ
bottleneck_text chip nodes paths shorter turns =
    with_rings (text_of (all_ring_lines chip)) (unread_text (unread_nodes chip))
    (sentence nodes paths shorter turns)
