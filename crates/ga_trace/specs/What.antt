-- What a node shows that has a value: a register, a word of memory, a port, or where it is.
use Rattle.std.specs.Prelude.{ℕ, ◌==◌, ◌%◌, Bool, true, false, List, codes, get_or, Option, Some, None, if◌then◌else◌}
use Rattle.std.specs.Fmt.{decimal}
use Rattle.std.specs.Option.{option_and_then, option_map_or}
use Rattle.ga_word.specs.Hex.{hex_digits}
use Rattle.ga_place.specs.Address.{where_is}
use Rattle.ga_place.specs.Cell.{cell_of}
use Rattle.ga_place.specs.declared.address.Where.{Where}
use Rattle.ga_place.specs.declared.address.Where.TheVariants.{Ram}
use Rattle.ga_node.specs.Line.{stop_text}
use Rattle.ga_node.specs.Need.{need_of, stop_of}
use Rattle.ga_node.specs.State.{State}
use Rattle.ga_node.specs.declared.need.Stop.{Stop}
use Rattle.ga_node.specs.declared.need.Stop.TheVariants.{MultiWrite, IoRead, Unmapped, Rom, Counted}
use Rattle.ga_chip.specs.Chip.{Chip, pending, state_of}
use Rattle.ga_chip.specs.Ledger.{ledger_of}
use Rattle.ga_trace.specs.At.{at_word}
use Rattle.ga_trace.specs.declared.what.Register.{Register}
use Rattle.ga_trace.specs.declared.what.Register.TheVariants.{P, A, B, R, S, T, Carry, Io, Steps}
use Rattle.ga_trace.specs.declared.what.What.{What}
use Rattle.ga_trace.specs.declared.what.What.TheVariants as what
use Rattle.ga_trace.specs.declared.what.Value.{Value}
use Rattle.ga_trace.specs.declared.what.Value.TheVariants as value

-- ---- values

abbrev pub value_text : Value → List ℕ
value_text value.Nothing = codes "none"
value_text (value.Word word) = hex_digits 5 word
value_text (value.Address address) = hex_digits 3 address
value_text (value.Count count) = decimal count
value_text (value.Stop stop) = stop_text stop

abbrev pub same_stop : Stop → Stop → Bool
same_stop MultiWrite MultiWrite = true
same_stop IoRead IoRead = true
same_stop Unmapped Unmapped = true
same_stop Rom Rom = true
same_stop Counted Counted = true
same_stop one other = false

abbrev pub same_value : Value → Value → Bool
same_value value.Nothing value.Nothing = true
same_value (value.Word one) (value.Word other) = one == other
same_value (value.Address one) (value.Address other) = one == other
same_value (value.Count one) (value.Count other) = one == other
same_value (value.Stop one) (value.Stop other) = same_stop one other
same_value one other = false

-- ---- what has them

abbrev pub carry_count : Bool → ℕ
carry_count carry = if carry then 1 else 0

abbrev pub register_value : Register → State → Value
register_value P state = value.Address state.p
register_value A state = value.Word state.a
register_value B state = value.Address state.b
register_value R state = value.Word state.r
register_value S state = value.Word state.s
register_value T state = value.Word state.t
register_value Carry state = value.Count (carry_count state.carry)
register_value Io state = value.Word state.io
register_value Steps state = value.Count state.steps

-- only an address of memory has a word
abbrev pub memory_value : Where → State → Value
memory_value (Ram index) state = value.Word (get_or state.ram index 0)
memory_value at state = value.Nothing

abbrev pub word_or : Option ℕ → Value
word_or (Some word) = value.Word word
word_or None = value.Nothing

abbrev pub stop_or : Option Stop → Value
stop_or (Some stop) = value.Stop stop
stop_or None = value.Nothing

-- the address of the word in execution, or of the next fetch, in nine bits
abbrev pub at_value : State → Value
at_value state = value.Address (at_word state.place state.p state.word % 0x200)

-- What a node shows: of its own state, or of the cells that it writes.
unfoldable pub value_of : What → ℕ → Chip → Value
value_of (what.Register register) name chip =
    option_map_or (register_value register) (state_of chip name) value.Nothing
value_of (what.Memory address) name chip =
    option_map_or (memory_value (where_is address)) (state_of chip name) value.Nothing
value_of (what.Pending side) name chip =
    word_or (option_and_then (λ cell. pending chip cell) (cell_of name side))
value_of (what.Written side) name chip = value.Count (ledger_of chip name side).written
value_of (what.Read side) name chip = value.Count (ledger_of chip name side).read
value_of what.At name chip = option_map_or at_value (state_of chip name) value.Nothing
value_of what.Stopped name chip =
    option_map_or (λ state. stop_or (stop_of (need_of state))) (state_of chip name) value.Nothing
