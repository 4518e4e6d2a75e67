-- The commands: the row of each, what it does and what it shows.
use Rattle.std.specs.Prelude.{ℕ, List, [], ◌∷◌, ◌++◌, codes, find, length, Option, Some, None, option_map, Result, Ok, Err, if◌then◌else◌}
use Rattle.std.specs.Fmt.{decimal}
use Rattle.std.specs.Option.{option_and_then, option_map_or, option_or}
use Rattle.std.specs.Str.{bytes_eq}
use Rattle.ga_place.specs.declared.side.Side.TheVariants.{Right}
use Rattle.ga_node.specs.Line.{line_of}
use Rattle.ga_chip.specs.Chip.{Chip, state_of, tried, unless_held}
use Rattle.ga_chip.specs.Run.{ClearBreak, PassBreak, SetBreak, happened, moves, ran, turns_of}
use Rattle.ga_dump.specs.Ledger.{ledger_dump}
use Rattle.ga_dump.specs.Node.{node_dump}
use Rattle.ga_path.specs.Stream.{Images}
use Rattle.ga_map.specs.Map.{map_text}
use Rattle.ga_waits.specs.Folded.{nodes_text}
use Rattle.ga_waits.specs.Waits.{waits_text}
use Rattle.ga_trace.specs.Depth.{depth_text}
use Rattle.ga_trace.specs.Rest.{ran_from}
use Rattle.ga_trace.specs.Stepped.{stepped}
use Rattle.ga_trace.specs.Traced.{traced}
use Rattle.ga_trace.specs.Watched.{watched}
use Rattle.ga_debug.specs.declared.beginning.Program.{Program}
use Rattle.ga_debug.specs.declared.command.Arguments.{Arguments}
use Rattle.ga_debug.specs.declared.commands.Action.{Action}
use Rattle.ga_debug.specs.declared.commands.Action.TheVariants.{Break, Clear, Pass, Try, Turn, Until, Run}
use Rattle.ga_debug.specs.declared.commands.Follow.{Follow}
use Rattle.ga_debug.specs.declared.commands.Follow.TheVariants.{Step, Trace, Watch}
use Rattle.ga_debug.specs.declared.commands.Answer.{Answer}
use Rattle.ga_debug.specs.declared.commands.Answer.TheVariants.{Done, Tried, Moved, Reached, Ran}
use Rattle.ga_debug.specs.declared.commands.Verb.{Verb}
use Rattle.ga_debug.specs.declared.commands.Verb.TheVariants.{Act, Show, Tell}
use Rattle.ga_debug.specs.declared.commands.View.{View}
use Rattle.ga_debug.specs.declared.commands.View.TheVariants.{Regs, Mem, Ports, Node, Code, Sides, Depth, Expect, Breaks, Where, Nodes, Map}
use Rattle.ga_debug.specs.declared.error.DebugError.{DebugError}
use Rattle.ga_debug.specs.declared.error.DebugError.TheVariants.{NotHeld}
use Rattle.ga_debug.specs.declared.row.Scope.{Scope}
use Rattle.ga_debug.specs.declared.row.Scope.TheVariants.{Replays, Sessions, Transcripts}
use Rattle.ga_debug.specs.declared.row.Shape.TheVariants as shape
use Rattle.ga_debug.specs.declared.row.States.TheVariants.{Nothing, Outcome, Steps}
use Rattle.ga_debug.specs.Breaks.{break_note, breaks_text}
use Rattle.ga_debug.specs.Code.{code_shown}
use Rattle.ga_debug.specs.Expect.{expected_text, goal_of}
use Rattle.ga_debug.specs.Mem.{memory_shown}
use Rattle.ga_debug.specs.Row.{Row, is_seen_by, row}
use Rattle.ga_debug.specs.Sides.{sides_text}
use Rattle.ga_debug.specs.declared.row.Shape.{Shape}
use Rattle.ga_debug.specs.Until.{until_done}
use Rattle.ga_debug.specs.Word.{outcome_text}

-- ---- the rows

-- the commands that do something
abbrev pub action_row : Action → Row
action_row Break = row (codes "break") (shape.Node ∷ shape.Address ∷ []) Replays Nothing
action_row Clear = row (codes "clear") (shape.Node ∷ shape.Address ∷ []) Replays Nothing
action_row Pass = row (codes "pass") (shape.Node ∷ []) Replays Nothing
action_row Try = row (codes "try") (shape.Node ∷ shape.Side ∷ []) Replays Outcome
action_row Turn = row (codes "turn") (shape.Count ∷ []) Replays Steps
action_row Until =
    row (codes "until") (shape.Node ∷ shape.Address ∷ shape.PassesIf ∷ shape.CountIf ∷ [])
    Transcripts Nothing
action_row Run = row (codes "run") (shape.CountIf ∷ []) Transcripts Nothing

-- the commands that make steps and tell them
abbrev pub follow_row : Follow → Row
follow_row Step = row (codes "step") (shape.Node ∷ shape.OneIf ∷ []) Transcripts Nothing
follow_row Trace = row (codes "trace") (shape.Node ∷ shape.Count ∷ []) Transcripts Nothing
follow_row Watch =
    row (codes "watch") (shape.Node ∷ shape.What ∷ shape.GoalIf ∷ []) Transcripts Nothing

-- the commands that show something
abbrev pub view_row : View → Row
view_row Regs = row (codes "regs") (shape.Node ∷ []) Sessions Nothing
view_row Mem = row (codes "mem") (shape.Node ∷ []) Sessions Nothing
view_row Ports = row (codes "ports") (shape.Node ∷ []) Sessions Nothing
view_row Node = row (codes "node") (shape.Node ∷ []) Transcripts Nothing
view_row Code = row (codes "code") (shape.Node ∷ shape.AddressIf ∷ []) Transcripts Nothing
view_row Sides = row (codes "sides") (shape.Node ∷ []) Transcripts Nothing
view_row Depth = row (codes "depth") (shape.Node ∷ []) Transcripts Nothing
view_row Expect =
    row (codes "expect") (shape.Node ∷ shape.What ∷ shape.Values ∷ []) Transcripts Nothing
view_row Breaks = row (codes "breaks") [] Transcripts Nothing
view_row Where = row (codes "where") [] Transcripts Nothing
view_row Nodes = row (codes "nodes") [] Transcripts Nothing
view_row Map = row (codes "map") [] Transcripts Nothing

abbrev pub verb_row : Verb → Row
verb_row (Act action) = action_row action
verb_row (Tell follow) = follow_row follow
verb_row (Show view) = view_row view

-- the words that follow a command's name; in transcripts `mem` may have an address
abbrev pub shapes_in : Scope → Verb → List Shape
shapes_in Transcripts (Show Mem) = shape.Node ∷ shape.RangeIf ∷ []
shapes_in scope verb = (verb_row verb).shapes

abbrev pub action_named : List ℕ → Option Action
action_named word =
    find (λ action. bytes_eq (action_row action).name word)
    (Break ∷ Clear ∷ Pass ∷ Try ∷ Turn ∷ Until ∷ Run ∷ [])

abbrev pub follow_named : List ℕ → Option Follow
follow_named word =
    find (λ follow. bytes_eq (follow_row follow).name word) (Step ∷ Trace ∷ Watch ∷ [])

abbrev pub view_named : List ℕ → Option View
view_named word =
    find (λ view. bytes_eq (view_row view).name word)
    (Regs ∷ Mem ∷ Ports ∷ Node ∷ Code ∷ Sides ∷ Depth ∷ Expect ∷ Breaks ∷ Where ∷ Nodes ∷ Map
    ∷ [])

-- the command of this name,
abbrev pub any_verb : List ℕ → Option Verb
any_verb word =
    option_or (option_map Act (action_named word))
    (option_or (option_map Tell (follow_named word)) (option_map Show (view_named word)))

-- if texts of a scope have it
abbrev pub verb_named : Scope → List ℕ → Option Verb
verb_named scope word =
    option_and_then (λ verb. if is_seen_by scope (verb_row verb).scope then Some verb else None)
    (any_verb word)

-- ---- what they do

-- what an action answers, and the chip afterwards; one that is refused changes nothing
abbrev pub did : Action → Arguments → Chip → Result Answer DebugError × Chip
did Break given chip = (Ok Done, happened chip (SetBreak given.node given.address))
did Clear given chip = (Ok Done, happened chip (ClearBreak given.node given.address))
did Pass given chip =
    -- it is refused if a try wouldn't be held
    (
      option_map_or (λ fault. Err NotHeld) (unless_held (tried chip given.node Right).0) (Ok Done),
      happened chip (PassBreak given.node),
    )
did Try given chip =
    (Ok (Tried (tried chip given.node given.side).0), (tried chip given.node given.side).1)
did Turn given chip =
    (Ok (Moved (length (moves chip (turns_of given.count)))), ran chip (turns_of given.count))
did Until given chip =
    let end = until_done given.node given.address given.passes given.count chip in
    (Ok (Reached end.0), end.1)
did Run given chip = let end = ran_from given.count 0 0 0 chip in (Ok (Ran end.0), end.1)

-- an answer as text
abbrev pub answer_text : Answer → List ℕ
answer_text Done = codes "ok"
answer_text (Tried outcome) = outcome_text outcome
answer_text (Moved steps) = codes "moved " ++ decimal steps
answer_text (Reached (Some reached)) =
    codes "turns " ++ decimal reached.turns ++ codes " moved " ++ decimal reached.moved
answer_text (Reached None) = codes "not reached"
answer_text (Ran made) =
    codes "turns " ++ decimal made.turns ++ codes " moved " ++ decimal made.moved
    ++ (if made.rests then codes ", at rest" else [])

-- the note behind the answer of an action
abbrev pub note_of : Images → Action → Arguments → List ℕ
note_of images Break given = break_note images given.node given.address
note_of images action given = []

-- the text of the steps that a command makes, and the chip afterwards
abbrev pub followed : Images → Follow → Arguments → Chip → List ℕ × Chip
followed images Step given chip = stepped images given.node given.count chip
followed images Trace given chip = traced images given.node given.count chip
followed images Watch given chip = watched images given.node given.what (goal_of given.values) chip

-- ---- what they show

-- the images of a transcript; a session has none
abbrev pub images_of : Option Program → Images
images_of None = []
images_of (Some program) = program.images

-- how deep the stacks of a node were since the head of a transcript
abbrev pub depth_shown : Option Program → ℕ → Chip → List ℕ
depth_shown None node chip = []
depth_shown (Some program) node chip = depth_text program.images node program.start chip

-- of a chip that began with this program
abbrev pub shown : Option Program → View → Arguments → Chip → List ℕ
shown of Regs given chip = option_map_or line_of (state_of chip given.node) []
shown of Mem given chip =
    option_map_or (memory_shown given.address given.count) (state_of chip given.node) []
shown of Ports given chip = ledger_dump chip given.node
shown of Node given chip = option_map_or node_dump (state_of chip given.node) []
shown of Code given chip =
    option_map_or (code_shown (images_of of) given.from) (state_of chip given.node) []
shown of Sides given chip = sides_text chip given.node
shown of Depth given chip = depth_shown of given.node chip
shown of Expect given chip = expected_text given.node given.what given.values chip
shown of Breaks given chip = breaks_text (images_of of) chip
shown of Where given chip = waits_text (images_of of) chip
shown of Nodes given chip = nodes_text (images_of of) chip
shown of Map given chip = map_text (images_of of) chip
