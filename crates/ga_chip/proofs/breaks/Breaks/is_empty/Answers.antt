use Rattle.std.proofs.Common.{ap, ◌∙◌, sym}
use Rattle.std.specs.Cmp.Lexicographic.{same_text}
use Rattle.ga_chip.specs.inner.Bits.{bits_of}
use Rattle.ga_chip.proofs.Bits.{no_bits}
use Rattle.ga_chip.proofs.breaks.Breaks.is_empty.Goals as goal

pub returns : goal.returns
returns c =
    λ yes. sym c.self.view_is ∙ ap (bits_of 512) (same_text _ _ (sym yes ∙ c.eq.ensures)) ∙ no_bits
