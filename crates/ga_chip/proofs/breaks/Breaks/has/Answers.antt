use Rattle.std.proofs.Common.{ap, ◌∙◌, ◌%◌, ◌==◌, false, get_or, sym}
use Rattle.std.specs.Int.{bit_at}
use Rattle.std.proofs.lemmas.Nat.Bits.{shr_and_one}
use Rattle.ga_chip.proofs.Bits.{bit_of}
use Rattle.ga_chip.proofs.breaks.Breaks.has.Goals as goal

pub returns : goal.returns
returns c =
    ap (λ n. n == 1) (shr_and_one (get_or c.self.inside.words c.from.result 0) (c.args.address % 64)
    ∙ ap (λ at. bit_at (get_or c.self.inside.words at 0) (c.args.address % 64)) c.from.ensures)
    ∙ sym (bit_of 512 c.args.address c.self.inside.words c.requires)
    ∙ ap (λ breaks. get_or breaks c.args.address false) c.self.view_is
