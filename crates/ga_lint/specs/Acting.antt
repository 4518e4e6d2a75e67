-- What the words do to which execution comes.
use Rattle.std.specs.Prelude.{◌&&◌, ◌||◌, ℕ, suc, Bool, true, false, not, List, [], ◌∷◌}
use Rattle.std.specs.List.{list_any}
use Rattle.std.specs.Option.{option_map_or}
use Rattle.ga_disasm.specs.Disassembling.{ItemView, Code, Follower, Data}
use Rattle.ga_lint.specs.NodeView.{NodeView, dest_in, is_warm, lands}
use Rattle.ga_lint.specs.Reaching.{goes_on, is_code_at, is_start, sets_b_in}
use Rattle.ga_lint.specs.PortWrites.{writes}
use Rattle.ga_lint.specs.UnextRepeats.{repeats}
use Rattle.ga_lint.specs.declared.acting.Act.{Act}
use Rattle.ga_lint.specs.declared.acting.Act.TheVariants.{TakesWords, LeavesCode, SetsR, WritesByA, WritesByB}
use Rattle.ga_place.specs.declared.address.Where.{Where}
use Rattle.ga_place.specs.declared.address.Where.TheVariants.{Ram, Rom, Ports}
use Rattle.ga_word.specs.declared.op.Op.{Op}
use Rattle.ga_word.specs.declared.op.Op.TheVariants.{Execute, StoreP, Next, Push}

-- `ex` goes anywhere, and `!p` writes over the word behind its own
abbrev pub is_free : Op → Bool
is_free Execute = true
is_free StoreP = true
is_free o = false

-- R gets a word that no `call` put there: `push` puts T there, and `next` counts R down
abbrev pub sets_r : Op → Bool
sets_r Push = true
sets_r Next = true
sets_r o = false

-- an opcode does this
abbrev pub is_act : Act → Op → Bool
is_act TakesWords o = is_free o
is_act LeavesCode o = false
is_act SetsR o = sets_r o
is_act WritesByA o = writes false o
is_act WritesByB o = writes true o

-- A destination does this. At ports neighbours give the words that are run, and the word of ROM at
-- 0A9 leads there. In RAM a word that isn't code is a number, data, or what is behind the node's
-- words. A fetch anywhere else stops the node.
abbrev pub is_act_at : Act → NodeView → Where → Bool
is_act_at TakesWords node (Rom at) = is_warm at
is_act_at TakesWords node (Ports sides) = true
is_act_at LeavesCode node (Ram at) = not (is_code_at node at)
is_act_at act node reached = false

-- the rounds of an `unext` take words of the code as numbers, and go on behind them
abbrev pub repeats_act : Act → List Op → Bool
repeats_act LeavesCode ops = repeats true ops
repeats_act act ops = false

-- the word at an address does this, by an opcode, an `unext` or its destination
abbrev pub acts : NodeView → Act → ℕ → ItemView → Bool
acts node act at (Code reading) =
    list_any (is_act act) reading.ops || repeats_act act reading.ops
    || option_map_or (λ dest. is_act_at act node (lands dest)) (dest_in at (Code reading)) false
acts node act at item = false

-- One of these words does this, and execution comes to it. The first one has an address, and
-- execution comes to it from before or doesn't.
abbrev pub does_from : NodeView → Act → Bool → Bool → ℕ → List ItemView → Bool
does_from node act has_b comes address [] = false
does_from node act has_b comes address (Code reading ∷ items) =
    (comes || is_start node address) && acts node act address (Code reading)
    || does_from node act has_b ((comes || is_start node address) && goes_on has_b reading.ops)
    (suc address) items
does_from node act has_b comes address (Follower word ∷ items) =
    does_from node act has_b comes (suc address) items
does_from node act has_b comes address (Data word ∷ items) =
    does_from node act has_b false (suc address) items

-- a word of the node to which execution comes does this
abbrev pub does : NodeView → Act → Bool
does node act = does_from node act (list_any sets_b_in node.words) false 0 node.words
