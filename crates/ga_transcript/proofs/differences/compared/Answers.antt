use Rattle.std.proofs.Common.{rules, ◌≡◌, ◌∙◌, ◌+◌, ◌++◌, ◌∷◌, ℕ, List, [], ap, arith, length, string_bytes, sym}
use Rattle.ga_transcript.specs.declared.lines.LinesLeft.{LinesLeft}
use Rattle.ga_transcript.specs.Compare.{comparison_of, comparison_view}
use Rattle.ga_transcript.specs.Following.{Compared, compared, wanted}
use Rattle.ga_transcript.specs.Line.{Command, kind_of}
use Rattle.ga_transcript.specs.Reply.{reply_lines, step_of}
use Rattle.ga_transcript.specs.inner.Line.{kind}
use Rattle.ga_transcript.proofs.Comparisons.{compared_more, none_found, too_long}
use Rattle.ga_transcript.proofs.differences.compared.Goals as goal

pub loop-left-init : goal.loop-left-init
loop-left-init c = (
  (
    [],
    none_found c.args.name.now (string_bytes c.new.result) c.new.ensures.bytes,
    ap (λ chip. compared (step_of c.args.program.now) (c.args.left.number + 1) chip
        c.args.left.lines) c.in_ok-chip.ensures,
  ),
  c.requires,
  omega arith,
  omega arith,
)

pub loop-left-preserved-in-Continue-branch-3 : goal.loop-left-preserved-in-Continue-branch-3
loop-left-preserved-in-Continue-branch-3 c =
    let step = step_of c.args.program.now in
    let (done, is, all) = c.loop-left.invariant.0 in
    let command = c.in-Command.command.now in
    let text = string_bytes c.reply_or_refusal.new.text in
    let left : LinesLeft =
    record { number = c.loop-left.left.number + 1; lines = c.next.new.self } in
    let one : LinesLeft → List ℕ → Compared = λ left text. record {
      line = left.number;
      command = command;
      wanted = wanted left.lines;
      came = reply_lines text;
    } in
    let lines : c.loop-left.left.lines ≡ c.in-Some.line.now ∷ c.next.new.self = search rules in
    let is_command : kind_of c.in-Some.line.now ≡ Command command =
    sym c.line_of.ensures ∙ ap kind c.in-Command.is in
    let added = c.in_ok-add_command.ensures.added done is
    ∙ ap (λ left. comparison_of c.args.name.now (done ++ one left c.deref.result.now ∷ []))
    c.again.ensures
    ∙ ap (λ text. comparison_of c.args.name.now (done ++ one left text ∷ [])) c.deref.ensures in
    let more = compared_more step left.number c.loop-left.chip c.reply_or_refusal.new.chip
    c.in-Some.line.now c.loop-left.left.lines c.next.new.self command (reply_lines text) done
    (compared step (c.args.left.number + 1) c.args.program.now.start c.args.left.lines) lines
    is_command
    (ap reply_lines c.in_ok-reply_or_refusal.ensures.text)
    c.in_ok-reply_or_refusal.ensures.chip all in (
      (done ++ one left text ∷ [], added, more),
      omega (arith, c.loop-left.invariant.1, ap length lines),
      omega (arith, c.in_ok-add_command.ensures.commands, c.loop-left.invariant.2),
      omega (arith, c.in_ok-add_command.ensures.differences),
    )

pub returns : goal.returns
returns c =
    let (done, is, all) = c.loop-left.invariant.0 in
    too_long c.args.name.now done
    (compared (step_of c.args.program.now) (c.loop-left.left.number + 1) c.loop-left.chip
    c.loop-left.left.lines)
    (compared (step_of c.args.program.now) (c.args.left.number + 1) c.args.program.now.start
    c.args.left.lines)
    (comparison_view c.loop-left.found) is all
    (omega (arith, c.loop-left-test.false, c.len.ensures))
