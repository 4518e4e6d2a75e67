use Rattle.std.proofs.Common.{◌∙◌, ap, refl, arith}
use Rattle.std.proofs.Output.{has_written_of_eq}
use Rattle.ga_word.specs.Hex.{hex_digits}
use Rattle.ga_word.proofs.HexFormat.{padded_hex}
use Rattle.ga_word.proofs.hex.Hex3Display.fmt.Goals as goal

pub returns-clause-writes : goal.returns-clause-writes
returns-clause-writes g c = λ plain ok.
    let wrote = rw (c.in_radix.ensures, c.laid_out.ensures) at c.write.ensures.writes in
    let text = padded_hex 2 c.self.inside.number 63 refl (omega arith) (omega arith) in
    has_written_of_eq _ _ _ _ _ (text ∙ ap (hex_digits 3) c.self.view_is) (wrote plain ok)
