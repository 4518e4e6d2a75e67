-- The last value that was written is the one that is shown.
use Rattle.std.proofs.Common.{◌≡◌, ◌∙◌, ℕ, zero, suc, Bool, true, false, not, List, Option, Some, None, ap, option_map, refl, sym, if◌then◌else◌}
use Rattle.std.proofs.lemmas.Bool.{eqb-true, false≢true}
use Rattle.std.proofs.lemmas.Slice.Eq.{bytes_eq-Decides}
use Rattle.std.specs.Option.{option_or}
use Rattle.ga_place.specs.Address.{where_is}
use Rattle.ga_place.specs.declared.side.Side.TheVariants.{Right, Down, Left, Up}
use Rattle.ga_asm.specs.Image.{ImageView}
use Rattle.ga_chip.specs.Chip.{Chip}
use Rattle.ga_wave.specs.declared.sample.Sample.{Sample}
use Rattle.ga_wave.specs.declared.signal.Signal.{Signal}
use Rattle.ga_wave.specs.declared.signal.Signal.TheVariants as signal
use Rattle.ga_wave.specs.declared.value.Value.{Value}
use Rattle.ga_wave.specs.Deed.{did_text}
use Rattle.ga_wave.specs.Laws.{last_written}
use Rattle.ga_wave.specs.Sample.{sample_of}
use Rattle.ga_wave.specs.Value.{at_text, bits_value, busy_value, name_value, same_value, value_of, value_text, word_value}
use Rattle.ga_wave.specs.Wave.{shown_in}
use Rattle.ga_wave.specs.Work.{work_text}

-- an address comes with what it reaches
abbrev Reaches : Sample → Type 0
Reaches sample = sample.stand.reaches ≡ where_is sample.stand.address

reaches : (start : Chip) (turn name : ℕ) → Reaches (shown_in start turn name)
unfolding sample_of
reaches start turn name = refl

same_busy : (images : List (ℕ × ImageView)) (name : ℕ) (one other : Bool)
    → same_value (busy_value one) (busy_value other) ≡ true
    → value_text images name (busy_value one) ≡ value_text images name (busy_value other)
same_busy images name true true e = refl
same_busy images name true false e = absurd (false≢true e)
same_busy images name false true e = absurd (false≢true e)
same_busy images name false false e = refl

same_word : (images : List (ℕ × ImageView)) (name : ℕ) (one other : Option ℕ)
    → same_value (word_value one) (word_value other) ≡ true
    → value_text images name (word_value one) ≡ value_text images name (word_value other)
same_word images name (Some one) (Some other) e = ap bits_value (eqb-true one other e)
same_word images name (Some one) None e = absurd (false≢true e)
same_word images name None (Some other) e = absurd (false≢true e)
same_word images name None None e = refl

-- two values of a signal that are the same have one text
same_text : (images : List (ℕ × ImageView)) (name : ℕ) (one other : Sample)
    → Reaches one → Reaches other
    → (signal : Signal) → same_value (value_of signal one) (value_of signal other) ≡ true
    → value_text images name (value_of signal one) ≡ value_text images name (value_of signal other)
same_text images name one other r q signal.Did e =
    ap name_value ((bytes_eq-Decides (did_text one.did) (did_text other.did)).0 e)
same_text images name one other r q signal.At e =
    ap (at_text images name one.stand.address) r
    ∙ ap (λ address. at_text images name address (where_is address))
    (eqb-true one.stand.address other.stand.address e)
    ∙ ap (at_text images name other.stand.address) (sym q)
same_text images name one other r q signal.Op e =
    ap name_value ((bytes_eq-Decides (work_text one.stand.work) (work_text other.stand.work)).0 e)
same_text images name one other r q signal.Busy e =
    same_busy images name one.busy other.busy e
same_text images name one other r q signal.P e =
    ap bits_value (eqb-true one.registers.p other.registers.p e)
same_text images name one other r q signal.T e =
    ap bits_value (eqb-true one.registers.t other.registers.t e)
same_text images name one other r q signal.S e =
    ap bits_value (eqb-true one.registers.s other.registers.s e)
same_text images name one other r q signal.R e =
    ap bits_value (eqb-true one.registers.r other.registers.r e)
same_text images name one other r q signal.A e =
    ap bits_value (eqb-true one.registers.a other.registers.a e)
same_text images name one other r q signal.B e =
    ap bits_value (eqb-true one.registers.b other.registers.b e)
same_text images name one other r q signal.Io e =
    ap bits_value (eqb-true one.registers.io other.registers.io e)
same_text images name one other r q (signal.Port Right) e =
    same_word images name one.ports.right other.ports.right e
same_text images name one other r q (signal.Port Down) e =
    same_word images name one.ports.down other.ports.down e
same_text images name one other r q (signal.Port Left) e =
    same_word images name one.ports.left other.ports.left e
same_text images name one other r q (signal.Port Up) e =
    same_word images name one.ports.up other.ports.up e

-- one turn more, by whether its value is that of the turn before
one_more : (images : List (ℕ × ImageView)) (name : ℕ) (old new : Value) (last : Option Value)
    → (same : Bool) → (same ≡ true → value_text images name old ≡ value_text images name new)
    → option_map (value_text images name) last ≡ Some (value_text images name old)
    → option_map (value_text images name) (option_or (if not same then Some new else None) last)
    ≡ Some (value_text images name new)
one_more images name old new last true text so_far = so_far ∙ ap Some (text refl)
one_more images name old new last false text so_far = refl

pub last_values : (images : List (ℕ × ImageView)) (start : Chip) (name : ℕ) (signal : Signal)
    (turn : ℕ)
    → option_map (value_text images name) (last_written start name signal turn)
    ≡ Some (value_text images name (value_of signal (shown_in start turn name)))
last_values images start name signal zero = refl
last_values images start name signal (suc turn) =
    let old = shown_in start turn name in
    let new = shown_in start (suc turn) name in
    one_more images name (value_of signal old) (value_of signal new)
    (last_written start name signal turn) (same_value (value_of signal old) (value_of signal new))
    (same_text images name old new (reaches start turn name) (reaches start (suc turn) name) signal)
    (last_values images start name signal turn)
