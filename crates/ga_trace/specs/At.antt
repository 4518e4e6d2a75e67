-- Where a node is in its program.
use Rattle.std.specs.Prelude.{ℕ, ◌+◌, ◌-◌, ◌*◌, ◌/◌, ◌%◌, ◌==◌, take, if◌then◌else◌}
use Rattle.ga_pack.specs.Decoded.{reading_of}
use Rattle.ga_pack.specs.Model.Layout.{p_behind}
use Rattle.ga_node.specs.declared.place.Place.{Place}
use Rattle.ga_node.specs.declared.place.Place.TheVariants.{Fetch, Slot0, Slot1, Slot2, Slot3, Completion, Transfer, Count, Body}

-- the address that advances to an address in some steps
abbrev pub retreat : ℕ → ℕ → ℕ
retreat steps address =
    if address / 0x100 % 2 == 1 then address
    else address / 0x80 * 0x80 + (address % 0x80 + 0x100 - steps) % 0x80

-- how often P has advanced since the fetch of a word, before a slot: by the fetch, and by each `@p`
-- and `!p` in the slots before
abbrev pub advanced_by : ℕ → ℕ → ℕ
advanced_by slot word = p_behind 0 (take slot (reading_of word).ops)

-- The address of the word in execution, by the place, P and the word; before a fetch it is P. (Of a
-- word that `unext` repeats with an `@p` or `!p` in it, it is that of a word behind it.)
unfoldable pub at_word : Place → ℕ → ℕ → ℕ
at_word Slot0 p word = retreat (advanced_by 0 word) p
at_word Slot1 p word = retreat (advanced_by 1 word) p
at_word Slot2 p word = retreat (advanced_by 2 word) p
at_word Slot3 p word = retreat (advanced_by 3 word) p
at_word Fetch p word = p
at_word Completion p word = p
at_word Transfer p word = p
at_word Count p word = p
at_word Body p word = p
