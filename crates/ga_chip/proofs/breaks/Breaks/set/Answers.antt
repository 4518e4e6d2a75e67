use Rattle.std.proofs.Common.{ap, ◌∙◌, ◌/◌, ◌%◌, true, arith, get_or, rules, set}
use Rattle.std.specs.Int.{w64}
use Rattle.std.proofs.lemmas.Nat.Bits.{bit_at_set_other, bit_at_set_same}
use Rattle.ga_chip.proofs.Bits.{bits_changed}
use Rattle.ga_chip.proofs.breaks.Breaks.set.Goals as goal

pub returns : goal.returns
returns c = rw c.from.ensures (
    bits_changed 512 c.self.inside.words c.args.address _ 1 c.requires (search rules)
    (bit_at_set_same w64 (get_or c.self.inside.words (c.args.address / 64) 0)
    (c.args.address % 64) (omega arith))
    (λ i below apart. bit_at_set_other w64 (get_or c.self.inside.words (c.args.address / 64) 0)
    (c.args.address % 64) (omega arith) i apart)
    ∙ ap (λ breaks. set breaks c.args.address true) c.self.view_is)
