use Rattle.std.proofs.Common.{◌≡◌, ◌∙◌, false, ap, arith, map, subst, sym}
use Rattle.ga_pack.specs.Model.Text.{texts_of}
use Rattle.ga_source.specs.Section.{section_of}
use Rattle.ga_source.specs.inner.Token.{texts_left}
use Rattle.ga_source.proofs.Reading.{Taking, end_fault, end_taken, taking_fault, taking_first, taking_low, taking_next}
use Rattle.ga_source.proofs.program.parse.Goals as goal

pub loop-run-init : goal.loop-run-init
loop-run-init c =
    let text = c.args.text.now in
    let all : texts_left c.into_iter-run-iterator.result ≡ texts_of text =
    ap texts_left c.into_iter-run-iterator.ensures.into_iter_gives ∙ c.new-run-items.ensures in
    subst (Taking text 0 false c.new-parser.result) (sym all)
    (taking_first text c.new-parser.result c.new-parser.ensures.state c.new-parser.ensures.empty)

pub overflow_add-taken : goal.overflow_add-taken
overflow_add-taken c =
    let t = subst (Taking c.args.text.now c.loop-run.taken c.loop-run.is_behind_node
    c.loop-run.parser) c.in-Some.ensures.steps c.loop-run.invariant in
    omega (
      arith,
      taking_low c.args.text.now c.loop-run.taken c.loop-run.is_behind_node c.loop-run.parser
          c.in-Some.run'.now (texts_left c.next.new.self) t,
    )

pub loop-run-preserved : goal.loop-run-preserved
loop-run-preserved c =
    let t = subst (Taking c.args.text.now c.loop-run.taken c.loop-run.is_behind_node
    c.loop-run.parser) c.in-Some.ensures.steps c.loop-run.invariant in
    taking_next c.args.text.now c.loop-run.taken c.loop-run.is_behind_node c.loop-run.parser
    c.in-Some.run'.now (texts_left c.next.new.self) t c.in-Ok.is_node c.take_text.new.self
    c.in-Ok.ensures.taken c.in-Ok.ensures.node

pub returns-in-Err-clause-fault : goal.returns-in-Err-clause-fault
returns-in-Err-clause-fault c some =
    let t = subst (Taking c.args.text.now c.loop-run.taken c.loop-run.is_behind_node
    c.loop-run.parser) c.in-Some.ensures.steps c.loop-run.invariant in
    (taking_fault c.args.text.now c.loop-run.taken c.loop-run.is_behind_node c.loop-run.parser
    c.in-Some.run'.now (texts_left c.next.new.self) t c.in-Err.kind c.fault_at.result
    c.in-Err.ensures.taken c.fault_at.ensures some).0

pub returns-in-Err-clause-none : goal.returns-in-Err-clause-none
returns-in-Err-clause-none c some =
    let t = subst (Taking c.args.text.now c.loop-run.taken c.loop-run.is_behind_node
    c.loop-run.parser) c.in-Some.ensures.steps c.loop-run.invariant in
    (taking_fault c.args.text.now c.loop-run.taken c.loop-run.is_behind_node c.loop-run.parser
    c.in-Some.run'.now (texts_left c.next.new.self) t c.in-Err.kind c.fault_at.result
    c.in-Err.ensures.taken c.fault_at.ensures some).1

pub invariant_of-result : goal.invariant_of-result
invariant_of-result c =
    (end_taken c.args.text.now c.loop-run.taken c.loop-run.is_behind_node c.loop-run.parser
    (texts_left c.loop-run.run-iterator) c.loop-run.invariant c.in-None.ensures.steps.0
    (map section_of c.in-Ok-finish.sections.entries) c.in-Ok-finish.ensures.ok).right

pub returns-in-Ok-finish-clause-program : goal.returns-in-Ok-finish-clause-program
returns-in-Ok-finish-clause-program c =
    (end_taken c.args.text.now c.loop-run.taken c.loop-run.is_behind_node c.loop-run.parser
    (texts_left c.loop-run.run-iterator) c.loop-run.invariant c.in-None.ensures.steps.0
    (map section_of c.in-Ok-finish.sections.entries) c.in-Ok-finish.ensures.ok).is

pub returns-in-Ok-finish-clause-only : goal.returns-in-Ok-finish-clause-only
returns-in-Ok-finish-clause-only c =
    (end_taken c.args.text.now c.loop-run.taken c.loop-run.is_behind_node c.loop-run.parser
    (texts_left c.loop-run.run-iterator) c.loop-run.invariant c.in-None.ensures.steps.0
    (map section_of c.in-Ok-finish.sections.entries) c.in-Ok-finish.ensures.ok).only

pub returns-in-Err-finish-clause-fault : goal.returns-in-Err-finish-clause-fault
returns-in-Err-finish-clause-fault c some =
    (end_fault c.args.text.now c.loop-run.taken c.loop-run.is_behind_node c.loop-run.parser
    (texts_left c.loop-run.run-iterator) c.loop-run.invariant c.in-None.ensures.steps.0
    c.in-Err-finish.kind c.fault_at-in-Err-finish.result c.in-Err-finish.ensures.err
    c.fault_at-in-Err-finish.ensures some).0

pub returns-in-Err-finish-clause-none : goal.returns-in-Err-finish-clause-none
returns-in-Err-finish-clause-none c some =
    (end_fault c.args.text.now c.loop-run.taken c.loop-run.is_behind_node c.loop-run.parser
    (texts_left c.loop-run.run-iterator) c.loop-run.invariant c.in-None.ensures.steps.0
    c.in-Err-finish.kind c.fault_at-in-Err-finish.result c.in-Err-finish.ensures.err
    c.fault_at-in-Err-finish.ensures some).1
