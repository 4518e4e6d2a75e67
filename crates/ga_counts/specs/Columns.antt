-- The columns of counts.
use Rattle.std.specs.Prelude.{ℕ, ◌-◌, ◌==◌, Bool, List, [], ◌∷◌, ◌++◌, codes, length, max, nat_lt, replicate, if◌then◌else◌}
use Rattle.std.specs.Fmt.{decimal}
use Rattle.std.specs.List.{concat}
use Rattle.ga_counts.specs.declared.word_counts.WordCounts.{WordCounts}

-- the heads of the columns
unfoldable pub HEAD : List ℕ
HEAD = codes "  fetches  slot0  slot1  slot2  slot3  at   word    line  kind      reading\n"

-- a text at the right of a column of this width, behind at least one blank
unfoldable pub cell : ℕ → List ℕ → List ℕ
cell width text = replicate (max (width - length text) 1) 32 ++ text

-- a count, or a dot for none
abbrev pub count_text : ℕ → List ℕ
count_text count = if count == 0 then codes "." else decimal count

-- how often the opcode of a slot ran, if its word has one there and was fetched more or less often
abbrev pub slot_text : ℕ → ℕ → Bool → List ℕ
slot_text fetches ran has_opcode =
    if has_opcode then (if ran == fetches then [] else count_text ran) else []

-- a star for a hot line
abbrev pub mark_text : Bool → List ℕ
mark_text hot = if hot then codes "*" else codes " "

-- The counts of the slots of a word with this many opcodes.
unfoldable pub slots_text : WordCounts → ℕ → List ℕ
slots_text counts opcodes =
    concat (cell 7 (slot_text counts.fetches counts.slot0 (nat_lt 0 opcodes))
    ∷ cell 7 (slot_text counts.fetches counts.slot1 (nat_lt 1 opcodes))
    ∷ cell 7 (slot_text counts.fetches counts.slot2 (nat_lt 2 opcodes))
    ∷ cell 7 (slot_text counts.fetches counts.slot3 (nat_lt 3 opcodes)) ∷ [])

-- The columns of a word: whether it is hot, how often it was fetched, and its slots.
unfoldable pub counts_text : WordCounts → ℕ → Bool → List ℕ
counts_text counts opcodes hot =
    concat (mark_text hot ∷ cell 8 (count_text counts.fetches) ∷ slots_text counts opcodes ∷ [])
