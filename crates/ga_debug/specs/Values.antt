-- The words for what a node shows, and for its values.
use Rattle.std.specs.Prelude.{ℕ, ◌+◌, ◌*◌, ◌&&◌, nat_le, nat_lt, List, [], ◌∷◌, codes, find, length, Option, Some, None, option_map, if◌then◌else◌}
use Rattle.std.specs.Char.{digit_value, is_digit}
use Rattle.std.specs.List.{list_all}
use Rattle.std.specs.Option.{option_and_then, option_or}
use Rattle.std.specs.Str.{bytes_eq}
use Rattle.ga_dump.specs.Side.{side_text}
use Rattle.ga_node.specs.Line.{stop_text}
use Rattle.ga_node.specs.declared.need.Stop.{Stop}
use Rattle.ga_node.specs.declared.need.Stop.TheVariants.{MultiWrite, IoRead, Unmapped, Rom, Counted}
use Rattle.ga_path.specs.Stream.{Images}
use Rattle.ga_place.specs.Side.{SIDES}
use Rattle.ga_place.specs.declared.side.Side.{Side}
use Rattle.ga_trace.specs.declared.what.Register.{Register}
use Rattle.ga_trace.specs.declared.what.Register.TheVariants.{P, A, B, R, S, T, Carry, Io, Steps}
use Rattle.ga_trace.specs.declared.what.Value.{Value}
use Rattle.ga_trace.specs.declared.what.Value.TheVariants as value
use Rattle.ga_trace.specs.declared.what.What.{What}
use Rattle.ga_trace.specs.declared.what.What.TheVariants as what
use Rattle.ga_debug.specs.Label.{address_in, memory_in}
use Rattle.ga_debug.specs.Word.{decimal_of}

-- a side, by its whole name
abbrev pub side_named : List ℕ → Option Side
side_named word = find (λ side. bytes_eq (side_text side) word) SIDES

-- a register, by its name in `regs`
abbrev pub register_name : Register → List ℕ
register_name P = codes "P"
register_name A = codes "A"
register_name B = codes "B"
register_name R = codes "R"
register_name S = codes "S"
register_name T = codes "T"
register_name Carry = codes "C"
register_name Io = codes "io"
register_name Steps = codes "steps"

abbrev pub register_named : List ℕ → Option Register
register_named word =
    find (λ register. bytes_eq (register_name register) word)
    (P ∷ A ∷ B ∷ R ∷ S ∷ T ∷ Carry ∷ Io ∷ Steps ∷ [])

-- why a node stops, by its name
abbrev pub stop_named : List ℕ → Option Stop
stop_named word =
    find (λ stop. bytes_eq (stop_text stop) word)
    (MultiWrite ∷ IoRead ∷ Unmapped ∷ Rom ∷ Counted ∷ [])

-- what a node shows, by a word that is no side
abbrev pub plain_what : Images → ℕ → List ℕ → Option What
plain_what images node word =
    option_or (option_map what.Register (register_named word))
    (if bytes_eq word (codes "at") then Some what.At
    else if bytes_eq word (codes "stopped") then Some what.Stopped
    else option_map what.Memory (memory_in images node word))

-- the number that hex digits write behind those of another number
abbrev pub hex_from : ℕ → List ℕ → ℕ
hex_from number [] = number
hex_from number (c ∷ digits) = hex_from (number * 16 + digit_value c) digits

-- a number of one to five hex digits of either case, below a bound
unfoldable pub hex_below : ℕ → List ℕ → Option ℕ
hex_below bound word =
    if (nat_lt 0 (length word) && nat_le (length word) 5) && list_all (λ c. is_digit c 16) word
    then if nat_lt (hex_from 0 word) bound then Some (hex_from 0 word) else None
    else None

abbrev pub word_value : List ℕ → Option Value
word_value word = option_map value.Word (hex_below 0x40000 word)

abbrev pub address_value : ℕ → List ℕ → Option Value
address_value bound word = option_map value.Address (hex_below bound word)

abbrev pub count_value : List ℕ → Option Value
count_value word = option_map value.Count (decimal_of 9 word)

-- `none`, or another value
abbrev pub none_or : Option Value → List ℕ → Option Value
none_or other word = if bytes_eq word (codes "none") then Some value.Nothing else other

abbrev pub register_value_in : Register → List ℕ → Option Value
register_value_in P word = address_value 0x400 word
register_value_in B word = address_value 0x200 word
register_value_in Carry word = count_value word
register_value_in Steps word = count_value word
register_value_in register word = word_value word

-- A value of what a node shows.
abbrev pub value_in : Images → ℕ → What → List ℕ → Option Value
value_in images node (what.Register register) word = register_value_in register word
value_in images node (what.Memory address) word = word_value word
value_in images node (what.Pending side) word = none_or (word_value word) word
value_in images node (what.Written side) word = count_value word
value_in images node (what.Read side) word = count_value word
value_in images node what.At word = option_map value.Address (address_in images node word)
value_in images node what.Stopped word = none_or (option_map value.Stop (stop_named word)) word
