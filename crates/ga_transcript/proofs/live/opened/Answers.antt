use Rattle.std.proofs.Common.{rules, ◌≡◌, ◌∙◌, ◌+◌, None, Some, ap, sym}
use Rattle.ga_debug.specs.Beginning.{start_view}
use Rattle.ga_transcript.specs.Following.{early_reply}
use Rattle.ga_transcript.specs.Live.{LiveView}
use Rattle.ga_transcript.specs.Reply.{program_of}
use Rattle.ga_transcript.proofs.Lives.{early_opened, opened_by}
use Rattle.ga_transcript.proofs.live.opened.Goals as goal

pub returns-in-Some : goal.returns-in-Some
returns-in-Some c =
    let start = start_view c.in_ok-loaded.loaded in
    let early : early_reply (start.line + 1) start.commands ≡ Some c.in-Some.line =
    ap (early_reply (start.line + 1)) (sym c.again.ensures) ∙ sym c.in-Some.ensures in
    early_opened c.args.text.now start c.in-Some.line c.in_ok-loaded.ensures.loaded early

pub returns : goal.returns
returns c =
    let start = start_view c.in_ok-loaded.loaded in
    let found : early_reply (start.line + 1) c.again.result ≡ None = search rules in
    let none : early_reply (start.line + 1) start.commands ≡ None =
    ap (early_reply (start.line + 1)) (sym c.again.ensures) ∙ found in
    let live : LiveView = record {
      text = c.args.text.now;
      program = program_of start;
      chip = c.in_ok-chip.chip;
    } in
    opened_by c.args.text.now start live c.in_ok-loaded.ensures.loaded none
    (ap (λ chip. record { text = c.args.text.now; program = program_of start; chip = chip })
    (sym c.in_ok-chip.ensures))
