-- The address of several ports at once, by the names of their sides.
use Rattle.std.specs.Prelude.{◌==◌, ◌&&◌, ◌+◌, ℕ, Bool, List, bit_xor, codes, Option, Some, None, if◌then◌else◌}
use Rattle.std.specs.Int.Bits.{bit_or}
use Rattle.std.specs.List.{list_all, list_any, slice_split}
use Rattle.std.specs.Str.{bytes_eq}
use Rattle.ga_place.specs.Side.{SIDES, side_bit}
use Rattle.ga_place.specs.declared.side.Side.{Side}
use Rattle.ga_place.specs.declared.side.Side.TheVariants.{Right, Down, Left, Up}

abbrev pub side_name : Side → List ℕ
side_name Right = codes "right"
side_name Down = codes "down"
side_name Left = codes "left"
side_name Up = codes "up"

abbrev pub is_side : List ℕ → Bool
is_side text = list_any (λ side. bytes_eq text (side_name side)) SIDES

-- the bit of a side that is among these names, and else nothing
abbrev pub bit_among : List (List ℕ) → Side → ℕ
bit_among names side =
    if list_any (λ name. bytes_eq name (side_name side)) names then side_bit side else 0

-- the address of the ports of the sides with these names
abbrev pub ports_named : List (List ℕ) → ℕ
ports_named names =
    bit_xor 0x155 (bit_among names Right + bit_among names Down + bit_among names Left
    + bit_among names Up)

-- the address of the ports that one or the other of two addresses has
abbrev pub ports_of_both : ℕ → ℕ → ℕ
ports_of_both one other = bit_xor 0x155 (bit_or (bit_xor 0x155 one) (bit_xor 0x155 other))

-- two or more names of sides, with `|` between them
abbrev pub as_sides : List ℕ → Option ℕ
as_sides text =
    let names = slice_split (λ c. c == 124) text in
    if list_any (λ c. c == 124) text && list_all is_side names then Some (ports_named names)
    else None
