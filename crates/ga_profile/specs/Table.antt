-- A line for each node that began.
use Rattle.std.specs.Prelude.{ℕ, ◌-◌, List, [], ◌∷◌, ◌++◌, codes, get_or, Option, Some, None}
use Rattle.std.specs.List.{concat, flat_map, range_with_len}
use Rattle.ga_place.specs.Cell.{name_at}
use Rattle.ga_place.specs.Node.{node_text}
use Rattle.ga_profile.specs.declared.node_pass.NodePass.{NodePass}
use Rattle.ga_profile.specs.declared.node_turns.NodeTurns.{NodeTurns}
use Rattle.ga_profile.specs.Bar.{bar}
use Rattle.ga_profile.specs.NodeTurns.{NO_TURNS}
use Rattle.ga_profile.specs.Share.{cell, number_cell, share_of, share_text}

-- the heads of the columns
unfoldable pub HEAD : List ℕ
HEAD =
    codes "    share of the turns, % 0                    100         words       a pass\n"
    ++ codes "node work take read rest |-----+-----+-----+------| path   in   out  turns works\n"

-- what the signs mean
unfoldable pub LEGEND : List ℕ
LEGEND =
    codes "# works  ? waits for a word  ! waits for its word to be read\n"
    ++ codes "rest: b boots  ~ spins  x stopped  blank idle\n"
    ++ codes "path: the run waits for this node\n"

-- in how many turns a node did neither work nor wait
abbrev pub rest_of : NodeTurns → ℕ → ℕ
rest_of did turns =
    turns - did.counts.works - did.counts.word_waits - did.counts.reader_waits

-- the shares of the turns in which a node worked, waited for a word, waited for its word to be
-- read, and did neither
unfoldable pub shares : NodeTurns → ℕ → List ℕ
shares did turns =
    concat (cell 6 (share_text (share_of did.counts.works turns))
    ∷ cell 5 (share_text (share_of did.counts.word_waits turns))
    ∷ cell 5 (share_text (share_of did.counts.reader_waits turns))
    ∷ cell 5 (share_text (share_of (rest_of did turns) turns)) ∷ [])

-- the share of the turns that it has on the path, and how many words it took and posted
unfoldable pub words : NodeTurns → ℕ → ℕ → List ℕ
words did path turns =
    concat (cell 5 (share_text (share_of path turns)) ∷ number_cell 5 did.taken
    ∷ number_cell 6 did.posted ∷ [])

-- how many turns a pass takes, and in how many of them the node works; and the end of the line
unfoldable pub means : NodePass → List ℕ
means pass = number_cell 7 pass.turns ++ number_cell 6 pass.works ++ codes "\n"

abbrev pub pass_text : Option NodePass → List ℕ
pass_text (Some pass) = means pass
pass_text None = codes "      .     .\n"

-- the line of a node, by what it did, its pass, and its turns on the path
unfoldable pub row : ℕ → NodeTurns → Option NodePass → ℕ → ℕ → List ℕ
row name did pass path turns =
    concat (node_text name ∷ shares did turns ∷ codes " |" ∷ bar did.counts turns
    ∷ codes "|" ∷ words did path turns ∷ pass_text pass ∷ [])

-- if the node began
abbrev pub row_if : Option ℕ → ℕ → NodeTurns → Option NodePass → ℕ → ℕ → List ℕ
row_if (Some turn) name did pass path turns = row name did pass path turns
row_if None name did pass path turns = []

-- and of all nodes, in order of name
abbrev pub row_at : List NodeTurns → List (Option NodePass) → List ℕ → ℕ → ℕ → List ℕ
row_at nodes passes path turns index =
    let did = get_or nodes index NO_TURNS in
    row_if did.began (name_at index) did (get_or passes index None) (get_or path index 0) turns

unfoldable pub rows : List NodeTurns → List (Option NodePass) → List ℕ → ℕ → List ℕ
rows nodes passes path turns = flat_map (row_at nodes passes path turns) (range_with_len 0 144)
