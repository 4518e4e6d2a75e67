-- Whether a node may write over its own code, by A or by B.
use Rattle.std.specs.Prelude.{◌&&◌, ◌||◌, ℕ, suc, ◌+◌, Bool, true, false, not, List, [], ◌∷◌, Option, Some, None, drop, if◌then◌else◌}
use Rattle.std.specs.List.{slice_get}
use Rattle.ga_disasm.specs.Disassembling.{ItemView, Code, Follower, Data}
use Rattle.ga_lint.specs.Acting.{does}
use Rattle.ga_lint.specs.NodeView.{NodeView, lands}
use Rattle.ga_lint.specs.Reaching.{is_start}
use Rattle.ga_lint.specs.PortWrites.{sets, writes}
use Rattle.ga_lint.specs.UnextRepeats.{has_unext}
use Rattle.ga_lint.specs.declared.acting.Act.TheVariants.{WritesByA, WritesByB}
use Rattle.ga_pack.specs.Followers.{is_followed}
use Rattle.ga_place.specs.declared.address.Where.{Where}
use Rattle.ga_place.specs.declared.address.Where.TheVariants.{Ram}
use Rattle.ga_word.specs.declared.op.Op.{Op}
use Rattle.ga_word.specs.declared.op.Op.TheVariants.{FetchP, MultiplyStep, Nop}
use Rattle.ga_word.specs.Op.{ends_word}

-- ---- T, as far as it is a number of the text

abbrev pub is_ram : Where → Bool
is_ram (Ram at) = true
is_ram reached = false

-- T may be an address in RAM: it is one, or isn't known
abbrev pub may_be_ram : Option ℕ → Bool
may_be_ram None = true
may_be_ram (Some number) = is_ram (lands number)

-- T behind an opcode: the number that `@p` takes at an address, or what it was behind a filler
abbrev pub top_behind : List ℕ → ℕ → Option ℕ → Op → Option ℕ
top_behind numbers p top FetchP = slice_get numbers p
top_behind numbers p top Nop = top
top_behind numbers p top o = None

-- T behind a word with these opcodes, if the next word is run then
abbrev pub top_after : List ℕ → ℕ → Option ℕ → List Op → Option ℕ
top_after numbers p top [] = top
top_after numbers p top (o ∷ ops) =
    if ends_word o then None
    else top_after numbers (if is_followed o then p + 1 else p) (top_behind numbers p top o) ops

-- T as a word at an address begins, if it is that behind the word before: not if execution comes
-- there from elsewhere, too, or comes again in the rounds of an `unext`
abbrev pub top_at : NodeView → ℕ → Option ℕ → List Op → Option ℕ
top_at node address top ops = if is_start node address || has_unext ops then None else top

-- ---- what sets A or B to an address in RAM

-- a multiply step changes A
abbrev pub multiplies : Bool → Op → Bool
multiplies false MultiplyStep = true
multiplies is_b o = false

abbrev pub sets_ram : Bool → Option ℕ → Op → Bool
sets_ram is_b top o = sets is_b o && may_be_ram top || multiplies is_b o

-- one of a word's opcodes may set B, or else A, to an address in RAM
abbrev pub sets_ram_in : Bool → List ℕ → ℕ → Option ℕ → List Op → Bool
sets_ram_in is_b numbers p top [] = false
sets_ram_in is_b numbers p top (o ∷ ops) =
    sets_ram is_b top o
    || (if ends_word o then false
    else sets_ram_in is_b numbers (if is_followed o then p + 1 else p)
    (top_behind numbers p top o) ops)

-- one of these words may, of which the first has an address; T is known before it or isn't
abbrev pub sets_ram_from : NodeView → Bool → ℕ → Option ℕ → List ItemView → Bool
sets_ram_from node is_b address top [] = false
sets_ram_from node is_b address top (Code reading ∷ items) =
    sets_ram_in is_b node.image.words (address + 1) (top_at node address top reading.ops)
    reading.ops
    || sets_ram_from node is_b (suc address)
    (top_after node.image.words (address + 1) (top_at node address top reading.ops) reading.ops)
    items
sets_ram_from node is_b address top (Follower word ∷ items) =
    sets_ram_from node is_b (suc address) top items
sets_ram_from node is_b address top (Data word ∷ items) = false

-- ---- A after reset

-- opcodes set A before they write by it (`true`), write by it or go elsewhere before that
-- (`false`), or do neither
abbrev pub set_in : List Op → Option Bool
set_in [] = None
set_in (o ∷ ops) =
    if sets false o then Some true
    else if writes false o || ends_word o then Some false else set_in ops

-- so of words, if it isn't known before
abbrev pub is_set_first : Option Bool → List ItemView → Bool
is_set_first (Some set) items = set
is_set_first None [] = false
is_set_first None (Code reading ∷ items) = is_set_first (set_in reading.ops) items
is_set_first None (Follower word ∷ items) = is_set_first None items
is_set_first None (Data word ∷ items) = false

-- ---- both

-- A is 0 after reset, the address of the first word, and B is that of io. Each is set from numbers
-- that aren't addresses in RAM, or else the node may write over its code.
abbrev pub writes_code : NodeView → Bool
writes_code node =
    does node WritesByA
    && (not (is_set_first None (drop node.image.entry node.words))
    || sets_ram_from node false 0 None node.words)
    || does node WritesByB && sets_ram_from node true 0 None node.words
