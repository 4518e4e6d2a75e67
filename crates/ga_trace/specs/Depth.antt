-- How deep the stacks of a node were.
use Rattle.std.specs.Prelude.{ℕ, zero, suc, ◌+◌, ◌-◌, ◌%◌, ◌^◌, ◌==◌, ◌||◌, Bool, false, true, List, [], ◌∷◌, ◌++◌, codes, map, max, min, nat_le, nat_lt, Option, Some, None, if◌then◌else◌}
use Rattle.std.specs.Fmt.{decimal}
use Rattle.std.specs.List.{range_with_len}
use Rattle.std.specs.Option.{option_or}
use Rattle.std.specs.Str.{bytes_eq}
use Rattle.ga_word.specs.Hex.{hex_digits}
use Rattle.ga_word.specs.declared.op.Op.{Op}
use Rattle.ga_word.specs.declared.op.Op.TheVariants as op
use Rattle.ga_place.specs.Address.{where_is}
use Rattle.ga_place.specs.Cell.{name_at}
use Rattle.ga_asm.specs.Image.{ImageView, image_of}
use Rattle.ga_node.specs.Line.{line_of}
use Rattle.ga_node.specs.State.{State}
use Rattle.ga_chip.specs.Chip.{Chip, state_of}
use Rattle.ga_observe.specs.Step.{op_run}
use Rattle.ga_observe.specs.declared.step.Deed.{Deed}
use Rattle.ga_observe.specs.declared.step.Deed.TheVariants.{SawRead}
use Rattle.ga_observe.specs.declared.step.Step.{Step}
use Rattle.ga_waits.specs.Label.{label_in}
use Rattle.ga_trace.specs.declared.depth.Change.{Change}
use Rattle.ga_trace.specs.declared.depth.Change.TheVariants.{Push, Pop, Keep}
use Rattle.ga_trace.specs.declared.depth.StackDepth.{StackDepth}
use Rattle.ga_trace.specs.declared.depth.StackDepths.{StackDepths}
use Rattle.ga_trace.specs.At.{at_word}
use Rattle.ga_trace.specs.Traced.{moved_in, quiet_after, step_in, turned}

-- ---- one step

-- what an opcode does to the data stack
abbrev pub data_change : Op → Change
data_change op.FetchP = Push
data_change op.FetchPlus = Push
data_change op.FetchB = Push
data_change op.Fetch = Push
data_change op.Dup = Push
data_change op.Pop = Push
data_change op.Over = Push
data_change op.A = Push
data_change op.StoreP = Pop
data_change op.StorePlus = Pop
data_change op.StoreB = Pop
data_change op.Store = Pop
data_change op.Plus = Pop
data_change op.And = Pop
data_change op.Or = Pop
data_change op.Drop = Pop
data_change op.Push = Pop
data_change op.BStore = Pop
data_change op.AStore = Pop
data_change other = Keep

-- the end of a loop, which is where R is 0, pops its counter
abbrev pub loop_change : ℕ → Change
loop_change r = if r == 0 then Pop else Keep

-- what an opcode does to the return stack, by R
abbrev pub return_change : Op → ℕ → Change
return_change op.Call r = Push
return_change op.Push r = Push
return_change op.Return r = Pop
return_change op.Pop r = Pop
return_change op.Micronext r = loop_change r
return_change op.Next r = loop_change r
return_change other r = Keep

-- the opcode whose work a step does; the check of a post does none
abbrev pub worked_by : Step → Deed → Option Op
worked_by step (SawRead side) = None
worked_by step deed = op_run step.place step.word

-- How many words a stack holds that were pushed and not yet popped. One that is empty stays so, and
-- the number stays at the largest one of 64 bits.
abbrev pub changed : Change → ℕ → ℕ
changed Push words = min (words + 1) (2 ^ 64 - 1)
changed Pop words = words - 1
changed Keep words = words

-- A stack after a change: the largest number of words that it held, and the address of the first
-- push that it had no room for.
abbrev pub deeper : ℕ → ℕ → Change → StackDepth → StackDepth
deeper room address change depth =
    let words = changed change depth.words in record {
      words = words;
      most = max depth.most words;
      passed = option_or depth.passed (if nat_lt room words then Some address else None);
    }

-- the data stack has room for ten words, T and S among them, and the return stack for nine, with R
abbrev pub DATA_ROOM : ℕ
DATA_ROOM = 10

abbrev pub RETURN_ROOM : ℕ
RETURN_ROOM = 9

-- both stacks after the work of an opcode
abbrev pub both_deeper : ℕ → ℕ → Option Op → StackDepths → StackDepths
both_deeper address r None depths = depths
both_deeper address r (Some op) depths = record {
  data_stack = deeper DATA_ROOM address (data_change op) depths.data_stack;
  return_stack = deeper RETURN_ROOM address (return_change op r) depths.return_stack;
}

-- both stacks after a step, if there is one, by R before it
abbrev pub after_step : Option Step → ℕ → StackDepths → StackDepths
after_step None r depths = depths
after_step (Some step) r depths =
    both_deeper (at_word step.place (step.p % 2 ^ 10) step.word) r (worked_by step step.deed) depths

-- ---- turns

abbrev pub EMPTY : StackDepth
EMPTY = record { words = 0; most = 0; passed = None }

abbrev pub BOTH_EMPTY : StackDepths
BOTH_EMPTY = record { data_stack = EMPTY; return_stack = EMPTY }

abbrev pub r_of : Option State → ℕ
r_of None = 0
r_of (Some state) = state.r

-- a node has made a number of steps
abbrev pub has_made : ℕ → Option State → Bool
has_made goal None = true
has_made goal (Some state) = nat_le goal state.steps

-- Both stacks of a node behind at most `left` turns, after a number of turns, the last of which
-- were quiet: until it is done, by its state, or no node can move. The chip afterwards.
unfoldable pub deep_from : ℕ → ℕ → ℕ → (Option State → Bool) → ℕ → StackDepths → Chip
    → StackDepths × Chip
deep_from zero turn quiet done name depths chip = (depths, chip)
deep_from (suc left) turn quiet done name depths chip =
    if done (state_of chip name) || (quiet == 4) then (depths, chip)
    else
    deep_from left (suc turn) (quiet_after quiet (moved_in turn chip)) done name
    (after_step (step_in name turn chip) (r_of (state_of chip name)) depths) (turned turn chip)

-- a node is never done
abbrev pub never : Option State → Bool
never state = false

-- How deep both stacks of each node were in a number of turns of a chip, in order of name.
unfoldable pub all_depths : ℕ → Chip → List StackDepths
all_depths turns chip =
    map (λ index. (deep_from turns 0 0 never (name_at index) BOTH_EMPTY chip).0)
    (range_with_len 0 144)

-- ---- the text

-- `passed at`, the address in ten bits and its label
abbrev pub passed_text : List (ℕ × ImageView) → ℕ → Option ℕ → List ℕ
passed_text images name None = []
passed_text images name (Some address) =
    codes ", passed at " ++ hex_digits 3 (address % 0x400)
    ++ label_in (image_of images name) (where_is address)

-- a stack: its name, the most words that it held, and how many it has room for
abbrev pub depth_line : List (ℕ × ImageView) → ℕ → List ℕ → ℕ → StackDepth → List ℕ
depth_line images name stack room depth =
    stack ++ 32 ∷ decimal depth.most ++ codes " of " ++ decimal room
    ++ passed_text images name depth.passed ++ codes "\n"

abbrev pub fewer_text : ℕ → ℕ → List ℕ
fewer_text steps all =
    codes "in the first " ++ decimal steps ++ (codes " of " ++ decimal all ++ codes " steps\n")

-- what is behind both lines if the node has made more steps here than in these turns, or has come
-- to another state
abbrev pub remark : State → State → List ℕ
remark made here =
    if nat_lt made.steps here.steps then fewer_text made.steps here.steps
    else if bytes_eq (line_of made) (line_of here) then [] else codes "in another schedule\n"

abbrev pub remark_of : Option State → Option State → List ℕ
remark_of (Some made) (Some here) = remark made here
remark_of made here = []

abbrev pub depths_text : List (ℕ × ImageView) → ℕ → StackDepths → List ℕ
depths_text images name depths =
    depth_line images name (codes "data") DATA_ROOM depths.data_stack
    ++ depth_line images name (codes "return") RETURN_ROOM depths.return_stack

abbrev pub depth_behind : List (ℕ × ImageView) → ℕ → Chip → StackDepths × Chip → List ℕ
depth_behind images name here made =
    depths_text images name made.0 ++ remark_of (state_of made.1 name) (state_of here name)

abbrev pub steps_made : Option State → ℕ
steps_made None = 0
steps_made (Some state) = state.steps

-- How deep the stacks of a node were in the steps that it has made, by the chip from which it
-- started and the one that it has come to: at most 1,000,000 turns of the first are made.
unfoldable pub depth_text : List (ℕ × ImageView) → ℕ → Chip → Chip → List ℕ
depth_text images name start here =
    depth_behind images name here
    (deep_from 1000000 0 0 (has_made (steps_made (state_of here name))) name BOTH_EMPTY start)
