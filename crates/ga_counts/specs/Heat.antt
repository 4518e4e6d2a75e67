-- The hottest lines of a node.
use Rattle.std.specs.Prelude.{ℕ, suc, ◌*◌, ◌==◌, Bool, false, ◌&&◌, List, [], ◌∷◌, Option, Some, None, max, nat_le, nat_lt, if◌then◌else◌}
use Rattle.std.specs.Option.{option_and_then, option_map_or}
use Rattle.ga_word.specs.declared.op.Op.{Op}
use Rattle.ga_word.specs.declared.op.Op.TheVariants.{Jump, Nop}
use Rattle.ga_place.specs.Address.{advance_of}
use Rattle.ga_node.specs.Slot.{target_of}
use Rattle.ga_node.specs.declared.place.Place.TheVariants.{Slot0, Slot1, Slot2}
use Rattle.ga_disasm.specs.Disassembling.{ItemView, Code}
use Rattle.ga_counts.specs.declared.word_counts.WordCounts.{WordCounts}

-- the highest count of a word
abbrev pub highest_count : WordCounts → ℕ
highest_count counts =
    max counts.fetches (max (max counts.slot0 counts.slot1) (max counts.slot2 counts.slot3))

-- Where a word goes that has nothing but a jump, and `.` before it. In slots 1 and 2 the
-- destination is only the low bits of the address, and the bits above are those of P behind the
-- word's fetch.
abbrev pub target_by : List Op → ℕ → ℕ → Option ℕ
target_by (Jump ∷ []) p dest = Some (target_of Slot0 p dest)
target_by (Nop ∷ Jump ∷ []) p dest = Some (target_of Slot1 p dest)
target_by (Nop ∷ Nop ∷ Jump ∷ []) p dest = Some (target_of Slot2 p dest)
target_by ops p dest = None

-- where such a word at an address goes, from which its fetch has advanced P
abbrev pub jump_target : ℕ → List Op → Option ℕ → Option ℕ
jump_target address ops dest = option_and_then (target_by ops (advance_of address)) dest

-- a word at an address does nothing but jump there
abbrev pub spins : ℕ → ItemView → Bool
spins address (Code reading) =
    option_map_or (λ target. target == address) (jump_target address reading.ops reading.dest) false
spins address item = false

-- The heat of a line: its highest count. A line that spins has none, since its node is done there.
abbrev pub heat : ℕ → ItemView → WordCounts → ℕ
heat address item counts = if spins address item then 0 else highest_count counts

-- the most heat of the words from an address on
abbrev pub most_from : (ℕ → WordCounts) → ℕ → List ItemView → ℕ
most_from counts address [] = 0
most_from counts address (item ∷ items) =
    max (heat address item (counts address)) (most_from counts (suc address) items)

-- the most heat of the words of a node
unfoldable pub most_heat : (ℕ → WordCounts) → List ItemView → ℕ
most_heat counts items = most_from counts 0 items

-- A line is hot if it has at least half of the most heat of its node, and some.
abbrev pub is_hot : ℕ → ℕ → Bool
is_hot heat most = nat_lt 0 heat && nat_le most (heat * 2)
