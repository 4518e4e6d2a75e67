use Rattle.std.proofs.Common.{rules, ◌∙◌, arith, sym}
use Rattle.ga_include.proofs.Cutting.{first_cut, no_cut}
use Rattle.ga_include.proofs.Lines.{last_up, next_up, part_up}
use Rattle.ga_include.proofs.path.leads_up.Goals as goal

pub loop-part-preserved : goal.loop-part-preserved
loop-part-preserved c = record {
  text = search rules;
  left = sym (next_up c.loop-part.rest.now c.in-Some.part.now c.in-Some.behind.now
      (first_cut 47 c.loop-part.rest.now c.in-Some.part c.in-Some.behind
      (omega arith) c.in-Some.ensures.cases) (sym c.eq.ensures ∙ c.if-eq.false))
      ∙ c.loop-part.invariant.left;
}

pub returns-then-eq : goal.returns-then-eq
returns-then-eq c =
    sym (part_up c.loop-part.rest.now c.in-Some.part.now c.in-Some.behind.now
    (first_cut 47 c.loop-part.rest.now c.in-Some.part c.in-Some.behind
    (omega arith) c.in-Some.ensures.cases) (sym c.eq.ensures ∙ c.if-eq.true))
    ∙ c.loop-part.invariant.left

pub returns : goal.returns
returns c =
    c.eq-2.ensures
    ∙ sym (last_up (no_cut 47 c.loop-part.rest.now (omega arith) c.in_default.ensures.cases))
    ∙ c.loop-part.invariant.left
