use Rattle.std.proofs.Common.{◌≡◌, ◌∙◌, ◌+◌, ◌-◌, ◌*◌, ◌++◌, take, drop, rules, arith, ap}
use Rattle.ga_word.specs.Hex.{hex_digits}
use Rattle.ga_dump.specs.Row.{row_of}
use Rattle.ga_dump.proofs.Lines.{parts}
use Rattle.ga_dump.proofs.memory.push_memory_row.Goals as goal

pub returns : goal.returns
unfolding hex_digits
returns c =
    let at = 8 * c.args.row in
    let text = c.args.text.now.items in
    let is : c.unwrap-address.result ≡ at = search rules in
    let digits : drop 2 c.hex5.result ≡ hex_digits 3 at =
    ap (drop 2) c.hex5.ensures.text ∙ ap (hex_digits 3) is in
    let wrote : c.extend_from_slice.new.self.items ≡ text ++ drop 2 c.hex5.result = search rules in
    let eight : at + 8 - at ≡ 8 = omega arith in
    parts text _ _ (hex_digits 3 at) (row_of (take 8 (drop at c.args.ram.now)))
    (wrote ∙ ap (λ digits. text ++ digits) digits) (c.in_ok-push_row.ensures ∙ ap (λ count.
    c.extend_from_slice.new.self.items ++ row_of (take count (drop at c.args.ram.now))) eight)
