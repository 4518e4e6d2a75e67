use Rattle.ga_wave.specs.Wave.{UNIT}
use Rattle.ga_wave.proofs.Parts.{three}
use Rattle.ga_wave.proofs.wave.push_unit.Goals as goal

pub returns : goal.returns
unfolding UNIT
returns c =
    three _ _ _ _ _ _ _ c.in_ok-push_str.ensures.bytes c.in_ok-push_str-2.ensures.bytes
    c.in_ok-push_str-3.ensures.bytes
