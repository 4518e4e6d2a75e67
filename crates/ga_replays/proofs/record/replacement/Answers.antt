use Rattle.std.proofs.Common.{rules, inr, refl, string_bytes}
use Rattle.ga_transcript.proofs.Recordings.{recording_holds}
use Rattle.ga_replays.proofs.record.replacement.Goals as goal

pub returns-then-len-gt-INPUT_LIMIT-clause-replacement :
    goal.returns-then-len-gt-INPUT_LIMIT-clause-replacement
returns-then-len-gt-INPUT_LIMIT-clause-replacement c =
    inr (
      string_bytes c.in_ok-recording.recording,
      c.in_ok-recording.ensures.output,
      refl,
      search rules,
    )

pub returns-clause-holds : goal.returns-clause-holds
returns-clause-holds c =
    let (text, is_text, recorded) = c.in_ok-recording.ensures.output in
    recording_holds text (string_bytes c.in_ok-recording.recording) recorded
