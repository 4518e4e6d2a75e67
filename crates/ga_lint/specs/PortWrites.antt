-- A word is written to ports at which no node can take it: to those of several sides, which stops
-- the node, or to that of a side without a neighbour, where it waits for ever.
use Rattle.std.specs.Prelude.{◌&&◌, ◌||◌, ℕ, ◌+◌, Bool, true, false, not, List, [], ◌∷◌, Option, Some, None, drop, is_none, if◌then◌else◌}
use Rattle.std.specs.List.{slice_get}
use Rattle.std.specs.Option.{option_map_or}
use Rattle.ga_disasm.specs.Disassembling.{ItemView, Code, Follower, Data}
use Rattle.ga_lint.specs.NodeView.{NodeView, lands}
use Rattle.ga_lint.specs.declared.port_writes.Refused.{Refused}
use Rattle.ga_lint.specs.declared.port_writes.Refused.TheVariants.{Several, Edge}
use Rattle.ga_pack.specs.Followers.{is_followed}
use Rattle.ga_place.specs.Side.{has_side, one_side}
use Rattle.ga_place.specs.declared.address.Where.{Where}
use Rattle.ga_place.specs.declared.address.Where.TheVariants.{Ports}
use Rattle.ga_word.specs.declared.op.Op.{Op}
use Rattle.ga_word.specs.declared.op.Op.TheVariants.{FetchP, StorePlus, StoreB, Store, Nop, BStore, AStore}
use Rattle.ga_word.specs.Op.{ends_word}

-- the ports of several sides; or the port of one side, at which a node has no neighbour
abbrev pub is_refused : Refused → Where → Bool
is_refused Several (Ports sides) = is_none (one_side sides)
is_refused (Edge name) (Ports sides) =
    option_map_or (λ side. not (has_side name side)) (one_side sides) false
is_refused refused reached = false

-- ---- the registers that hold addresses: B, or else A

abbrev pub sets : Bool → Op → Bool
sets true BStore = true
sets false AStore = true
sets is_b o = false

-- an opcode writes to the address that a register has
abbrev pub writes : Bool → Op → Bool
writes true StoreB = true
writes false Store = true
writes false StorePlus = true
writes is_b o = false

-- The opcodes behind the one that sets a register write by it (`true`) or set it anew or go
-- elsewhere (`false`), whichever is first; or neither.
abbrev pub use_in : Bool → List Op → Option Bool
use_in is_b [] = None
use_in is_b (o ∷ ops) =
    if writes is_b o then Some true else if sets is_b o || ends_word o then Some false
    else use_in is_b ops

-- the same of words
abbrev pub is_written_in : Bool → Option Bool → List ItemView → Bool
is_written_in is_b (Some written) items = written
is_written_in is_b None [] = false
is_written_in is_b None (Code reading ∷ items) = is_written_in is_b (use_in is_b reading.ops) items
is_written_in is_b None (Follower word ∷ items) = is_written_in is_b None items
is_written_in is_b None (Data word ∷ items) = false

-- ---- the word that sets it

-- an opcode sets a register, by which these opcodes and words behind it write
abbrev pub is_written : Op → List Op → List ItemView → Bool
is_written BStore ops items = is_written_in true (use_in true ops) items
is_written AStore ops items = is_written_in false (use_in false ops) items
is_written o ops items = false

-- so does the first one of these opcodes that is no filler (`true`), or it doesn't (`false`); or
-- all are fillers
abbrev pub first_in : List Op → List ItemView → Option Bool
first_in [] items = None
first_in (Nop ∷ ops) items = first_in ops items
first_in (o ∷ ops) items = Some (is_written o ops items)

-- the same of the next words of code, if it isn't known from the opcodes before them
abbrev pub is_written_next : Option Bool → List ItemView → Bool
is_written_next (Some written) items = written
is_written_next None [] = false
is_written_next None (Code reading ∷ items) = is_written_next (first_in reading.ops items) items
is_written_next None (Follower word ∷ items) = is_written_next None items
is_written_next None (Data word ∷ items) = false

-- ---- the address that it takes

-- Behind an opcode T is such an address: `@p` takes it, at an address of this word of the node, or
-- it was T before, and a filler changes nothing.
abbrev pub holds_refused : Refused → NodeView → ℕ → Bool → Op → Bool
holds_refused refused node p held FetchP =
    option_map_or (λ word. is_refused refused (lands word)) (slice_get node.image.words p) false
holds_refused refused node p held Nop = held
holds_refused refused node p held o = false

-- One of the opcodes of a word, an `@p`, takes such an address, the next opcode that is no filler
-- sets a register to it, and the node writes by that. The word's next follower has this address,
-- and behind the opcodes before these T is such an address or not.
abbrev pub writes_refused : Refused → NodeView → ℕ → Bool → List Op → List ItemView → Bool
writes_refused refused node p held [] items = held && is_written_next None items
writes_refused refused node p held (o ∷ ops) items =
    held && is_written o ops items
    || (if ends_word o then false
    else writes_refused refused node (if is_followed o then p + 1 else p)
    (holds_refused refused node p held o) ops items)

abbrev pub writes_refused_in : Refused → NodeView → ℕ → ItemView → Bool
writes_refused_in refused node address (Code reading) =
    writes_refused refused node (address + 1) false reading.ops (drop (address + 1) node.words)
writes_refused_in refused node address item = false

-- so of the word at an address
abbrev pub writes_refused_at : Refused → NodeView → ℕ → Bool
writes_refused_at refused node address =
    option_map_or (writes_refused_in refused node address) (slice_get node.words address) false
