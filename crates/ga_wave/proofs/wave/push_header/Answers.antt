use Rattle.ga_wave.specs.inner.Traced.{header_of}
use Rattle.ga_wave.proofs.Parts.{three}
use Rattle.ga_wave.proofs.wave.push_header.Goals as goal

pub returns : goal.returns
unfolding header_of
returns c =
    three _ _ _ _ _ _ _ c.in_ok-push_unit.ensures c.in_ok-push_scopes.ensures
    c.in_ok-push_str.ensures.bytes
