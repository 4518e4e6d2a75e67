use Rattle.std.proofs.Common.{◌∙◌, ◌++◌, ◌∷◌, [], ap, string_bytes, subst}
use Rattle.ga_transcript.specs.Check.{Answers}
use Rattle.ga_transcript.specs.Live.{LiveView}
use Rattle.ga_transcript.specs.Record.{IsRecorded}
use Rattle.ga_transcript.proofs.live.Live.transcript.Goals as goal

pub returns-clause-recorded : goal.returns-clause-recorded
returns-clause-recorded c =
    subst (λ text. Answers string_bytes (IsRecorded text) c.record.result)
    (c.as_str-2.ensures.value ∙ c.in_ok-text.ensures
    ∙ ap (λ text. text ++ 10 ∷ []) c.as_str.ensures.value
    ∙ ap (λ (view : LiveView). view.text ++ 10 ∷ []) c.self.view_is) c.record.ensures.recorded
