-- Which `;` surely goes back to the `call` of its routine: one at the end of a straight routine
-- that calls nothing, and has popped what it pushed.
use Rattle.std.specs.Prelude.{◌==◌, ◌&&◌, ◌||◌, ℕ, suc, ◌+◌, ◌-◌, Bool, true, false, not, List, [], ◌∷◌, Option, Some, None, nat_lt, if◌then◌else◌}
use Rattle.std.specs.List.{list_any}
use Rattle.std.specs.Option.{option_map_or}
use Rattle.ga_disasm.specs.Disassembling.{ItemView, Code, Follower, Data}
use Rattle.ga_lint.specs.NodeView.{NodeView, dest_in, lands}
use Rattle.ga_lint.specs.Reaching.{comes_on, goes_on, is_start, is_word, sets_b_in}
use Rattle.ga_lint.specs.StraightRun.{is_return}
use Rattle.ga_lint.specs.UnextRepeats.{has_unext}
use Rattle.ga_word.specs.declared.op.Op.{Op}
use Rattle.ga_word.specs.declared.op.Op.TheVariants.{Call, Micronext, Pop, Push}
use Rattle.ga_word.specs.Op.{ends_word}

-- ---- where routines begin

abbrev pub is_call : Op → Bool
is_call Call = true
is_call o = false

abbrev pub calls : ItemView → Bool
calls (Code reading) = list_any is_call reading.ops
calls item = false

-- a word goes to its destination by a `call`, or else by another opcode
abbrev pub goes_by : Bool → ItemView → Bool
goes_by true item = calls item
goes_by false item = not (calls item)

-- one of these words, the first of which has an address, goes to an address so
abbrev pub is_led_to_by : Bool → ℕ → ℕ → List ItemView → Bool
is_led_to_by by_call address at [] = false
is_led_to_by by_call address at (item ∷ items) =
    goes_by by_call item
    && option_map_or (λ dest. is_word address (lands dest)) (dest_in at item) false
    || is_led_to_by by_call address (suc at) items

-- execution comes to an address by a `call` alone
abbrev pub is_head : NodeView → ℕ → Bool
is_head node address =
    is_led_to_by true address 0 node.words && not (is_led_to_by false address 0 node.words)
    && not (node.image.entry == address) && not (comes_on node address)

-- ---- how many words a routine has pushed on the word that its `call` put into R

-- behind an opcode, if that is known: R has eight words below it
abbrev pub depth_of : ℕ → Op → Option ℕ
depth_of depth Push = if nat_lt depth 8 then Some (depth + 1) else None
depth_of depth Pop = if depth == 0 then None else Some (depth - 1)
depth_of depth Micronext = if depth == 0 then None else Some (depth - 1)
depth_of depth o = Some depth

abbrev pub depth_behind : Option ℕ → Op → Option ℕ
depth_behind None o = None
depth_behind (Some depth) o = depth_of depth o

-- behind a word with these opcodes, if the next word is run then
abbrev pub depth_after : Option ℕ → List Op → Option ℕ
depth_after depth [] = depth
depth_after depth (o ∷ ops) =
    if ends_word o then None else depth_after (depth_behind depth o) ops

abbrev pub moves_r : Op → Bool
moves_r Push = true
moves_r Pop = true
moves_r o = false

-- As a word at an address begins: none is pushed in a routine's first word. It isn't known if
-- execution comes to the word from elsewhere, or the rounds of an `unext` may push and pop.
abbrev pub depth_at : NodeView → ℕ → Option ℕ → List Op → Option ℕ
depth_at node address depth ops =
    if has_unext ops && list_any moves_r ops then None
    else if is_head node address then Some 0
    else if is_start node address then None else depth

-- ---- returns

abbrev pub is_none_left : Option ℕ → Bool
is_none_left None = false
is_none_left (Some depth) = depth == 0

-- one of these opcodes is a `;` behind which execution may go elsewhere than behind the `call`
abbrev pub strays_in : Option ℕ → List Op → Bool
strays_in depth [] = false
strays_in depth (o ∷ ops) =
    is_return o && not (is_none_left depth)
    || (if ends_word o then false else strays_in (depth_behind depth o) ops)

-- One of these words has such a `;`, and execution comes to it. The first one has an address, and
-- execution comes to it from before or doesn't.
abbrev pub strays_from : NodeView → Bool → Bool → Option ℕ → ℕ → List ItemView → Bool
strays_from node has_b comes depth address [] = false
strays_from node has_b comes depth address (Code reading ∷ items) =
    (comes || is_start node address)
    && strays_in (depth_at node address depth reading.ops) reading.ops
    || strays_from node has_b ((comes || is_start node address) && goes_on has_b reading.ops)
    (depth_after (depth_at node address depth reading.ops) reading.ops) (suc address) items
strays_from node has_b comes depth address (Follower word ∷ items) =
    strays_from node has_b comes depth (suc address) items
strays_from node has_b comes depth address (Data word ∷ items) = false

abbrev pub strays : NodeView → Bool
strays node = strays_from node (list_any sets_b_in node.words) false None 0 node.words
