use Rattle.std.proofs.Common.{rules, ◌≡◌, ◌∙◌, ◌+◌, None, ap, arith, string_bytes, sym, true}
use Rattle.ga_transcript.specs.Check.{checked_by}
use Rattle.ga_transcript.specs.Following.{checked, same_lines, wanted}
use Rattle.ga_transcript.specs.Reply.{reply_lines, step_of}
use Rattle.ga_transcript.specs.inner.Next.{checked_behind, checked_next, lines_from, next_of}
use Rattle.ga_transcript.proofs.Comparing.{checked_first, checked_on}
use Rattle.ga_transcript.proofs.checking.follow.Goals as goal

pub loop-next-init : goal.loop-next-init
loop-next-init c =
    let left = c.args.left in
    let step = step_of c.args.program.now in
    let first = checked_first step left.number c.in_ok-chip.chip left.lines
    (string_bytes c.new-came.result) c.requires.none c.new-came.ensures.bytes
    ∙ ap (λ chip. checked step (left.number + 1) 0 chip left.lines) c.in_ok-chip.ensures in
    (ap checked_by first, c.requires.room, omega (arith, c.requires.room))

pub returns-in_default-next : goal.returns-in_default-next
returns-in_default-next c =
    let step = step_of c.args.program.now in
    let left = c.loop-next.left in
    let new = c.command_behind.new.left in
    let none : c.in-Ok.next ≡ None = search rules in
    let on = checked_on step left.number c.loop-next.count c.loop-next.chip left.lines
    (reply_lines (string_bytes c.loop-next.came)) (next_of c.in-Ok.next new)
    (ap (λ text. same_lines (wanted left.lines) (reply_lines text)) (sym c.deref.ensures)
    ∙ c.in-Ok.ensures.same) c.in-Ok.ensures.next
    ∙ ap (λ next. checked_next step c.loop-next.count c.loop-next.chip (next_of next new)) none in
    sym c.loop-next.invariant.0 ∙ ap checked_by on

pub loop-next-preserved : goal.loop-next-preserved
loop-next-preserved c =
    let step = step_of c.args.program.now in
    let left = c.loop-next.left in
    let new = c.command_behind.new.left in
    let count = c.loop-next.count in
    let chip = c.loop-next.chip in
    let command = c.in-Some.command.now in
    let same : same_lines (wanted left.lines) (reply_lines (string_bytes c.loop-next.came)) ≡ true =
    ap (λ text. same_lines (wanted left.lines) (reply_lines text)) (sym c.deref.ensures)
    ∙ c.in-Ok.ensures.same in
    let on =
    checked_on step left.number count chip left.lines (reply_lines (string_bytes c.loop-next.came))
    (next_of c.in-Ok.next new) same c.in-Ok.ensures.next
    ∙ ap (λ next. checked_next step count chip (next_of next new)) c.in-Some.is in
    let checks = ap (λ after. checked_by (checked_behind step new.number (count + 1) after new.lines
    (reply_lines (string_bytes c.reply_or_refusal.new.text)))) c.in_ok-reply_or_refusal.ensures.chip
    ∙ ap (λ text. checked_by (checked_behind step new.number (count + 1) (step command chip).1
    new.lines (reply_lines text))) c.in_ok-reply_or_refusal.ensures.text
    ∙ ap (λ n. checked_by (checked_behind step new.number n (step command chip).1 new.lines
    (step command chip).0)) (omega arith)
    ∙ ap checked_by (sym on) ∙ c.loop-next.invariant.0 in
    let lines = ap (λ next. lines_from next new) c.in-Some.is in (
      checks,
      omega (arith, c.in-Ok.ensures.room, c.loop-next.invariant.1),
      omega (arith, lines, c.in-Ok.ensures.fewer, c.loop-next.invariant.2),
    )
