use Rattle.ga_wave.specs.Save.{WINDOW}
use Rattle.ga_wave.proofs.Parts.{three}
use Rattle.ga_wave.proofs.save.push_window.Goals as goal

pub returns : goal.returns
unfolding WINDOW
returns c =
    three _ _ _ _ _ _ _ c.in_ok-push_str.ensures.bytes c.in_ok-push_str-2.ensures.bytes
    c.in_ok-push_str-3.ensures.bytes
