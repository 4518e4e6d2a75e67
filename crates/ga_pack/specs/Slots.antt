-- What has room in the slots of a word.
use Rattle.std.specs.Prelude.{◌==◌, ◌&&◌, ◌||◌, ℕ, ◌^◌, Bool, nat_lt, if◌then◌else◌}
use Rattle.ga_word.specs.declared.op.Op.{Op}
use Rattle.ga_word.specs.Op.{fits_slot3}

-- an opcode without destination fits slots 0 to 2, and slot 3 if the lower two bits of its code are
-- 0
abbrev pub op_fits : ℕ → Op → Bool
op_fits slot o = nat_lt slot 3 || ((slot == 3) && fits_slot3 o)

-- a destination has ten bits behind slot 0, eight behind slot 1, and three behind slot 2
abbrev pub dest_bound : ℕ → ℕ
dest_bound slot = if slot == 0 then 2 ^ 10 else if slot == 1 then 2 ^ 8 else 2 ^ 3

-- three bits are spare if slot 0 takes the destination, else none
abbrev pub spare_bound : ℕ → ℕ
spare_bound slot = if slot == 0 then 2 ^ 3 else 1
