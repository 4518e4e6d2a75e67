use Rattle.std.proofs.Common.{◌≡◌, ◌∙◌, ◌-◌, ◌++◌, ap, sym, take}
use Rattle.ga_pack.specs.Model.Text.{lines_of}
use Rattle.ga_debug.specs.Beginning.{start_view}
use Rattle.ga_transcript.specs.Live.{before_command, command_count}
use Rattle.ga_transcript.specs.Record.{behind_ends, lines_text}
use Rattle.ga_transcript.proofs.Lives.{front_more, head_fault}
use Rattle.ga_transcript.proofs.Starting.{go_line}
use Rattle.ga_transcript.proofs.live.text_before.Goals as goal

pub front-requires : goal.front-requires
front-requires c =
    go_line c.args.text.now (start_view c.in-Ok.loaded) c.in-Ok.ensures.loaded

pub unreachable-requires : goal.unreachable-requires
unreachable-requires c =
    head_fault c.args.text.now c.requires.0 c.in-Err.error c.in_default.not-Memory c.requires.1
    c.in-Err.ensures.loaded

pub returns-in_ok-push_before-in-Ok : goal.returns-in_ok-push_before-in-Ok
returns-in_ok-push_before-in-Ok c =
    let start = start_view c.in-Ok.loaded in
    let left : c.saturating_sub.result ≡ command_count start.commands - c.args.count =
    c.saturating_sub.ensures ∙ ap (λ n. n - c.args.count)
    (c.command_count-commands.ensures ∙ ap command_count c.again.ensures) in (
      start,
      c.in-Ok.ensures.loaded,
      c.in_ok-push_before-in-Ok.ensures
          ∙ ap (λ t. t ++ behind_ends (before_command c.saturating_sub.result start.commands))
          c.in_ok-before-in-Ok.ensures
          ∙ ap (λ n. lines_text (take start.line (lines_of c.args.text.now))
          ++ behind_ends (before_command n start.commands)) left
          ∙ sym (front_more c.args.text.now start (before_command
          (command_count start.commands - c.args.count) start.commands) c.in-Ok.ensures.loaded),
    )
