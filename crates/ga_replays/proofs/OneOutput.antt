-- Two outputs of one job for one input are equal.
use Rattle.std.proofs.Common.{◌≡◌, ◌∙◌, ℕ, List, Result, Ok, Err, ap, sym}
use Rattle.ga_asm.specs.Text.{AtMostOne}
use Rattle.ga_debug.specs.Beginning.{Start}
use Rattle.ga_debug.specs.Replaying.{IsReplayed}
use Rattle.ga_debug.proofs.OneReplay.{one_loaded, one_replayed}
use Rattle.ga_transcript.specs.Check.{IsPassed}
use Rattle.ga_transcript.specs.Record.{IsRecorded}
use Rattle.ga_transcript.proofs.OneTranscript.{one_passed, one_recorded}
use Rattle.ga_input.proofs.OneInput.{one_in}
use Rattle.ga_input.specs.Fault.{fault_of_replay}
use Rattle.ga_input.specs.TranscriptFault.{shown_transcript_fault}
use Rattle.ga_replays.specs.Debug.{IsDebugOutput, IsReplies, replies_to}
use Rattle.ga_replays.specs.Replay.{IsReplayOutput, IsSame}
use Rattle.ga_replays.specs.Transcript.{IsCheckOutput, IsRecordOutput}

one_replies : (text : List ℕ) → AtMostOne (IsReplies text)
one_replies text (Ok one) (Ok other) (start, p, is) (start', q, is') =
    let same : start ≡ start' = cc (one_loaded text (Ok start) (Ok start') p q) in
    ap Ok (is ∙ ap (λ (s : Start). replies_to s.chip s.commands) same ∙ sym is')
one_replies text (Ok one) (Err other) (start, p, is) q =
    absurd (cc (one_loaded text (Ok start) (Err other) p q))
one_replies text (Err one) (Ok other) p (start, q, is) =
    absurd (cc (one_loaded text (Err one) (Ok start) p q))
one_replies text (Err one) (Err other) p q = cc (one_loaded text (Err one) (Err other) p q)

pub one_debug_output : (input : List ℕ) → AtMostOne (IsDebugOutput input)
one_debug_output input = one_in (λ text. fault_of_replay) IsReplies one_replies input

one_same : {E : Type 0} → (Is : Result ℕ E → Type 0) → AtMostOne Is → AtMostOne (IsSame Is)
one_same Is one_of (Ok one) (Ok other) (count, p, is) (count', q, is') =
    cc (one_of (Ok count) (Ok count') p q)
one_same Is one_of (Ok one) (Err other) (count, p, is) q =
    absurd (cc (one_of (Ok count) (Err other) p q))
one_same Is one_of (Err one) (Ok other) p (count, q, is) =
    absurd (cc (one_of (Err one) (Ok count) p q))
one_same Is one_of (Err one) (Err other) p q = cc (one_of (Err one) (Err other) p q)

pub one_replay_output : (input : List ℕ) → AtMostOne (IsReplayOutput input)
one_replay_output input =
    one_in (λ text. fault_of_replay) (λ text. IsSame (IsReplayed text))
    (λ text. one_same (IsReplayed text) (one_replayed text)) input

pub one_check_output : (input : List ℕ) → AtMostOne (IsCheckOutput input)
one_check_output input =
    one_in shown_transcript_fault (λ text. IsSame (IsPassed text))
    (λ text. one_same (IsPassed text) (one_passed text)) input

pub one_record_output : (input : List ℕ) → AtMostOne (IsRecordOutput input)
one_record_output input = one_in shown_transcript_fault IsRecorded one_recorded input
