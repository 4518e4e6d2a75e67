use Rattle.std.proofs.Common.{◌∙◌, string_bytes, subst}
use Rattle.ga_input.proofs.Faults.{answers}
use Rattle.ga_views.specs.Witness.{IsRecording, IsWitness}
use Rattle.ga_views.proofs.witness.witness_text.Goals as goal

pub returns : goal.returns
returns c =
    λ shown. let (way, leads, is) = c.in_ok-session.ensures shown in
    answers string_bytes (IsRecording c.as_str.result.now)
    (IsWitness c.args.loading.now c.args.input.now c.args.chip c.args.race.now)
    c.recording.result
    (λ answer right. (
      way,
      leads,
      subst (λ session. IsRecording session answer)
          (c.as_str.ensures.value ∙ is) right,
    )) c.recording.ensures
