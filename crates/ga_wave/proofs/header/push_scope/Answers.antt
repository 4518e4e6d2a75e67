use Rattle.ga_wave.specs.Header.{scope}
use Rattle.ga_wave.proofs.Parts.{three}
use Rattle.ga_wave.proofs.header.push_scope.Goals as goal

pub returns : goal.returns
unfolding scope
returns c =
    three _ _ _ _ _ _ _ c.in_ok-push_beginning.ensures c.in_ok-push_declarations.ensures
    c.in_ok-push_str.ensures.bytes
