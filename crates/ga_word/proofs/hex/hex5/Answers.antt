use Rattle.std.proofs.Common.{◌≡◌, ◌/◌, ◌^◌, refl, ◌∙◌, ap, arith}
use Rattle.std.proofs.lemmas.Nat.{and_mask}
use Rattle.ga_word.specs.Hex.{word_of}
use Rattle.ga_word.proofs.HexDigits.{word_of-hex_digits, hex_digits-5}
use Rattle.ga_word.proofs.hex.hex5.Goals as goal

pub returns-clause-text : goal.returns-clause-text
returns-clause-text c =
    let word = c.args.word in
    let is : c.get-number.result ≡ word = c.get-number.ensures.value in
    let digits = hex_digits-5 word (omega arith) in
    rw (
      digits,
      c.hex_digit.ensures,
      c.hex_digit-2.ensures,
      c.hex_digit-3.ensures,
      c.hex_digit-4.ensures,
      c.hex_digit-5.ensures,
      is,
      and_mask (word / 2 ^ 12) 4,
      and_mask (word / 2 ^ 8) 4,
      and_mask (word / 2 ^ 4) 4,
      and_mask word 4,
    ) refl

pub returns-clause-read_again : goal.returns-clause-read_again
returns-clause-read_again c =
    ap word_of (returns-clause-text c) ∙ word_of-hex_digits c.args.word (omega arith)
