-- The value of a signal, and its text.
use Rattle.std.specs.Prelude.{ℕ, ◌==◌, Bool, true, false, List, ◌++◌, codes, drop, Option, Some, None, if◌then◌else◌, nat_eq}
use Rattle.std.specs.Fmt.{digits}
use Rattle.std.specs.List.{starts_with}
use Rattle.std.specs.Str.{bytes_eq}
use Rattle.ga_word.specs.Hex.{hex_digits}
use Rattle.ga_place.specs.declared.address.Where.{Where}
use Rattle.ga_place.specs.declared.side.Side.TheVariants.{Right, Down, Left, Up}
use Rattle.ga_asm.specs.Image.{ImageView, image_of}
use Rattle.ga_waits.specs.Label.{label_in}
use Rattle.ga_wave.specs.declared.sample.Sample.{Sample}
use Rattle.ga_wave.specs.declared.signal.Signal.{Signal}
use Rattle.ga_wave.specs.declared.signal.Signal.TheVariants as signal
use Rattle.ga_wave.specs.declared.value.Value.{Value}
use Rattle.ga_wave.specs.declared.value.Value.TheVariants as value
use Rattle.ga_wave.specs.Deed.{did_text}
use Rattle.ga_wave.specs.Work.{work_text}

abbrev pub busy_value : Bool → Value
busy_value true = value.High
busy_value false = value.Low

abbrev pub word_value : Option ℕ → Value
word_value (Some word) = value.Bits word
word_value None = value.Nothing

-- the value of a signal, by what a turn shows of its node
abbrev pub value_of : Signal → Sample → Value
value_of signal.Did sample = value.Did sample.did
value_of signal.At sample = value.At sample.stand.address sample.stand.reaches
value_of signal.Op sample = value.Runs sample.stand.work
value_of signal.Busy sample = busy_value sample.busy
value_of signal.P sample = value.Bits sample.registers.p
value_of signal.T sample = value.Bits sample.registers.t
value_of signal.S sample = value.Bits sample.registers.s
value_of signal.R sample = value.Bits sample.registers.r
value_of signal.A sample = value.Bits sample.registers.a
value_of signal.B sample = value.Bits sample.registers.b
value_of signal.Io sample = value.Bits sample.registers.io
value_of (signal.Port Right) sample = word_value sample.ports.right
value_of (signal.Port Down) sample = word_value sample.ports.down
value_of (signal.Port Left) sample = word_value sample.ports.left
value_of (signal.Port Up) sample = word_value sample.ports.up

-- two values of a signal are the same
abbrev pub same_value : Value → Value → Bool
same_value (value.Did one) (value.Did other) = bytes_eq (did_text one) (did_text other)
same_value (value.At one reaches) (value.At other _) = one == other
same_value (value.Runs one) (value.Runs other) = bytes_eq (work_text one) (work_text other)
same_value (value.Bits one) (value.Bits other) = one == other
same_value value.Low value.Low = true
same_value value.High value.High = true
same_value value.Nothing value.Nothing = true
same_value one other = false

-- a name, and bits without leading zeros
abbrev pub name_value : List ℕ → List ℕ
name_value name = codes "s" ++ name ++ codes " "

abbrev pub bits_value : ℕ → List ℕ
bits_value number = codes "b" ++ digits 2 false number ++ codes " "

-- a label, which is behind a blank, or an address in hex digits if there is none
abbrev pub label_or : List ℕ → ℕ → List ℕ
label_or label address =
    if starts_with nat_eq label (codes " ") then name_value (drop 1 label)
    else name_value (hex_digits 3 address)

abbrev pub at_text : List (ℕ × ImageView) → ℕ → ℕ → Where → List ℕ
at_text images name address reaches = label_or (label_in (image_of images name) reaches) address

-- the text of a value, up to the identifier of its signal
abbrev pub value_text : List (ℕ × ImageView) → ℕ → Value → List ℕ
value_text images name (value.Did did) = name_value (did_text did)
value_text images name (value.At address reaches) = at_text images name address reaches
value_text images name (value.Runs work) = name_value (work_text work)
value_text images name value.Low = codes "0"
value_text images name value.High = codes "1"
value_text images name (value.Bits number) = bits_value number
value_text images name value.Nothing = codes "bz "
