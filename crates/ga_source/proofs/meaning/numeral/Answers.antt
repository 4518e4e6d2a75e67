use Rattle.std.proofs.Common.{◌≡◌, ◌∙◌, ◌*◌, ◌≤◌, arith, sym, length}
use Rattle.std.proofs.Math.Nat.{mul-le-mul_left}
use Rattle.std.specs.Char.{digit_value, is_digit}
use Rattle.std.proofs.lemmas.Bool.{eqb-false, false_from_ne_true, lt-ltb, ltb-true}
use Rattle.ga_source.proofs.Numerals.{all_digits, more_digits, no_digit, small_number}
use Rattle.ga_source.proofs.meaning.numeral.Goals as goal

pub overflow_mul-number : goal.overflow_mul-number
overflow_mul-number c =
    let small = small_number c.args.radix c.args.digits.now c.loop-byte.byte-index
    c.loop-byte.number c.loop-byte.invariant (omega arith) in
    let product : c.loop-byte.number * c.args.radix ≤ c.loop-byte.number * 16 =
    mul-le-mul_left c.loop-byte.number c.requires.1 in
    omega arith

pub overflow_add-number : goal.overflow_add-number
overflow_add-number c =
    let small = small_number c.args.radix c.args.digits.now c.loop-byte.byte-index
    c.loop-byte.number c.loop-byte.invariant (omega arith) in
    let product : c.loop-byte.number * c.args.radix ≤ c.loop-byte.number * 16 =
    mul-le-mul_left c.loop-byte.number c.requires.1 in
    omega (arith, c.in_ok-digit.ensures.value)

pub loop-byte-preserved : goal.loop-byte-preserved
loop-byte-preserved c =
    more_digits c.args.radix c.args.digits.now c.loop-byte.byte-index c.loop-byte.number
    c.from.result c.in_ok-digit.digit c.loop-byte.invariant c.loop-byte-test.true c.requires.1
    c.from.ensures (lt-ltb (digit_value c.from.result) c.args.radix c.in_ok-digit.ensures.value.0)
    c.in_ok-digit.ensures.value.1

pub returns : goal.returns
returns c =
    let digits = c.args.digits.now in
    let some : length digits ≡ 0 → ⊥ = eqb-false (length digits) 0 (sym c.if-is_empty.ensures) in
    sym (all_digits c.args.radix digits c.loop-byte.byte-index c.loop-byte.number
    c.loop-byte.invariant c.loop-byte-test.false (omega arith) (omega arith))

pub returns-in_err-digit : goal.returns-in_err-digit
returns-in_err-digit c =
    c.from_residual.ensures
    ∙ sym (no_digit c.args.radix c.args.digits.now c.loop-byte.byte-index c.loop-byte.number
    c.from.result c.loop-byte.invariant c.loop-byte-test.true c.from.ensures
    (false_from_ne_true (is_digit c.from.result c.args.radix)
    (λ e. c.in_err-digit.ensures.value (ltb-true (digit_value c.from.result) c.args.radix e))))
