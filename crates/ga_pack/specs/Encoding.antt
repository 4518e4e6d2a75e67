-- Which opcodes, destination and spare bits make no word, and why.
use Rattle.std.specs.Prelude.{◌==◌, ◌&&◌, ℕ, Bool, true, false, not, List, [], ◌∷◌, length, nat_lt, nat_le, Option, Some, None, if◌then◌else◌}
use Rattle.std.specs.List.{list_all}
use Rattle.ga_word.specs.declared.op.Op.{Op}
use Rattle.ga_word.specs.Op.{fits_slot3, takes_dest}
use Rattle.ga_pack.specs.Slots.{dest_bound, spare_bound}
use Rattle.ga_pack.specs.declared.encoding.PackError.{PackError}
use Rattle.ga_pack.specs.declared.encoding.PackError.TheVariants.{Shape, Slot3, Dest, Spare}

-- the last opcode, and no other, takes a destination
abbrev pub ends_at_dest : List Op → Bool
ends_at_dest [] = false
ends_at_dest (op ∷ []) = takes_dest op
ends_at_dest (op ∷ next ∷ ops) = not (takes_dest op) && ends_at_dest (next ∷ ops)

-- A word has a destination and one to three opcodes, of which the last and no other takes it, or it
-- has no destination and four opcodes, none of which takes one.
abbrev pub has_shape : List Op → Option ℕ → Bool
has_shape ops (Some dest) = nat_le (length ops) 3 && ends_at_dest ops
has_shape ops None = (length ops == 4) && list_all (λ op. not (takes_dest op)) ops

-- the opcode in slot 3, if there is one, has its place there
abbrev pub slot3_fits : List Op → Bool
slot3_fits (a ∷ b ∷ c ∷ op ∷ ops) = fits_slot3 op
slot3_fits _ = true

-- the destination has room behind the slot of its opcode, which is the last one
abbrev pub dest_fits : List Op → Option ℕ → Bool
dest_fits (op ∷ ops) (Some dest) = nat_lt dest (dest_bound (length ops))
dest_fits _ _ = true

-- so have the spare bits
abbrev pub spare_fits : List Op → ℕ → Bool
spare_fits [] spare = true
spare_fits (op ∷ ops) spare = nat_lt spare (spare_bound (length ops))

-- Why opcodes, a destination and spare bits make no word: the first of these that applies. `None`:
-- they make one.
unfoldable pub pack_fault : List Op → Option ℕ → ℕ → Option PackError
pack_fault ops dest spare =
    if not (has_shape ops dest) then Some Shape
    else if not (slot3_fits ops) then Some Slot3
    else if not (dest_fits ops dest) then Some Dest
    else if not (spare_fits ops spare) then Some Spare
    else None
