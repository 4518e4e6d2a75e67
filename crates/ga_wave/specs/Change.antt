-- What changed at a node from one turn to the next.
use Rattle.std.specs.Prelude.{ℕ, ◌+◌, ◌*◌, Bool, true, ◌&&◌, not, List, [], ◌++◌, codes, Option, Some, None, if◌then◌else◌}
use Rattle.std.specs.List.{flat_map}
use Rattle.ga_asm.specs.Image.{ImageView}
use Rattle.ga_wave.specs.declared.sample.Sample.{Sample}
use Rattle.ga_wave.specs.declared.signal.Signal.{Signal}
use Rattle.ga_wave.specs.declared.value.Value.{Value}
use Rattle.ga_wave.specs.Identifier.{identifier}
use Rattle.ga_wave.specs.Signal.{SIGNALS, is_signal, position_of}
use Rattle.ga_wave.specs.Value.{same_value, value_of, value_text}

-- the number of a signal, by the number of its node: there are 15 for each node
abbrev pub signal_number : ℕ → Signal → ℕ
signal_number number signal = number * 15 + position_of signal

-- a value isn't that of the turn before; in the first turn each is new
abbrev pub is_new : Option Sample → Signal → Value → Bool
is_new None signal value = true
is_new (Some old) signal value = not (same_value (value_of signal old) value)

-- a value change: the value and the identifier of its signal
abbrev pub value_line : List (ℕ × ImageView) → ℕ → ℕ → Value → List ℕ
value_line images name number value =
    value_text images name value ++ identifier number ++ codes "\n"

-- that of a signal, if the node has it and its value is new
abbrev pub change : List (ℕ × ImageView) → ℕ → ℕ → Option Sample → Sample → Signal → List ℕ
change images name number old new signal =
    if is_signal name signal && is_new old signal (value_of signal new)
    then value_line images name (signal_number number signal) (value_of signal new) else []

-- and those of all signals of a node, by what the turn before and this one show of it
unfoldable pub changes : List (ℕ × ImageView) → ℕ → ℕ → Option Sample → Sample → List ℕ
changes images name number old new = flat_map (change images name number old new) SIGNALS
