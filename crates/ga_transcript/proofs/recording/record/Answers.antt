use Rattle.std.proofs.Common.{rules, ◌≡◌, ◌∙◌, ◌+◌, None, Ok, Some, ap, inr, string_bytes, sym}
use Rattle.ga_debug.specs.Beginning.{start_view}
use Rattle.ga_transcript.specs.Following.{early_reply}
use Rattle.ga_transcript.proofs.Recordings.{recording_again, recording_holds}
use Rattle.ga_transcript.proofs.Starting.{early_recorded, go_line, recorded_fails, recorded_whole}
use Rattle.ga_transcript.proofs.recording.record.Goals as goal

pub returns-in-Some-clause-recorded : goal.returns-in-Some-clause-recorded
returns-in-Some-clause-recorded c =
    let start = start_view c.in_ok-loaded.loaded in
    let early : early_reply (start.line + 1) start.commands ≡ Some c.in-Some.line =
    ap (early_reply (start.line + 1)) (sym c.again.ensures) ∙ sym c.in-Some.ensures in
    inr (
      start,
      c.in_ok-loaded.ensures.loaded,
      early_recorded c.args.text.now start c.in-Some.line early,
    )

pub front-requires : goal.front-requires
front-requires c =
    go_line c.args.text.now (start_view c.in_ok-loaded.loaded) c.in_ok-loaded.ensures.loaded

pub returns-clause-recorded : goal.returns-clause-recorded
returns-clause-recorded c =
    let start = start_view c.in_ok-loaded.loaded in
    let front = string_bytes c.in_ok-recording.recording in
    let new = string_bytes c.push_recorded.new.text in
    let found : early_reply (start.line + 1) c.again.result ≡ None = search rules in
    let none : early_reply (start.line + 1) start.commands ≡ None =
    ap (early_reply (start.line + 1)) (sym c.again.ensures) ∙ found in
    recorded_whole c.args.text.now start front (Ok new) c.in_ok-loaded.ensures.loaded none
    c.in_ok-recording.ensures c.in_ok-push_recorded.ensures

pub returns-in_err-push_recorded-clause-recorded : goal.returns-in_err-push_recorded-clause-recorded
returns-in_err-push_recorded-clause-recorded c =
    let start = start_view c.in_ok-loaded.loaded in
    let front = string_bytes c.in_ok-recording.recording in
    let found : early_reply (start.line + 1) c.again.result ≡ None = search rules in
    let none : early_reply (start.line + 1) start.commands ≡ None =
    ap (early_reply (start.line + 1)) (sym c.again.ensures) ∙ found in
    recorded_fails string_bytes c.args.text.now start front
    c.from_residual-in_err-push_recorded.result c.in_err-push_recorded.field-0.0
    c.from_residual-in_err-push_recorded.ensures.1 c.in_ok-loaded.ensures.loaded none
    c.in_ok-recording.ensures c.in_err-push_recorded.ensures

pub returns-clause-holds : goal.returns-clause-holds
returns-clause-holds c =
    recording_holds c.args.text.now (string_bytes c.push_recorded.new.text)
    (returns-clause-recorded c)

pub returns-clause-again : goal.returns-clause-again
returns-clause-again c =
    recording_again c.args.text.now (string_bytes c.push_recorded.new.text)
    (returns-clause-recorded c)
