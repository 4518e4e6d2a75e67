use Rattle.std.proofs.Common.{◌≡◌, ◌∙◌, ◌+◌, ◌-◌, ◌==◌, ap, refl, rules, sym, true}
use Rattle.std.specs.Prelude.{◌||◌, Bool, false}
use Rattle.ga_chip.specs.Chip.{state_of}
use Rattle.ga_trace.specs.Depth.{deep_from, has_made, r_of}
use Rattle.ga_trace.proofs.Deepening.{deep_done, deep_ended, deep_next}
use Rattle.ga_trace.proofs.depth.deepest.Goals as goal
use Rattle.ga_trace.proofs.depth.deepest.Goals.{then-has_made-via-then-has_made, then-has_made-via-else-has_made+then-quiet-eq4}

-- either ends it
either : (made quiet : Bool) → quiet ≡ true → (made || quiet) ≡ true
either true quiet is = refl
either false quiet is = is

pub returns-then-has_made : goal.returns-then-has_made
returns-then-has_made c =
    let here = state_of c.loop-number.chip c.args.node in
    let quiet = c.loop-number.quiet == 4 in
    let over : (has_made c.args.goal here || quiet) ≡ true =
    elim c.then-has_made.branch [
      | then-has_made-via-then-has_made w ↦
          ap (λ made. made || quiet) (sym c.has_made.ensures ∙ w.if-has_made.true)
      | then-has_made-via-else-has_made+then-quiet-eq4 w ↦
          either (has_made c.args.goal here) quiet (search rules)
    ] in
    deep_done c.args.most c.loop-number.number c.loop-number.quiet (has_made c.args.goal)
    c.args.node
    c.loop-number.depths c.loop-number.chip _ c.loop-number-test.true over
    c.loop-number.invariant.deep

pub loop-number-preserved : goal.loop-number-preserved
loop-number-preserved c =
    let here = state_of c.loop-number.chip c.args.node in
    let going : (has_made c.args.goal here || (c.loop-number.quiet == 4)) ≡ false =
    ap (λ made. made || (c.loop-number.quiet == 4)) (sym c.has_made.ensures ∙ c.if-has_made.false)
    ∙ (search rules) in
    let made = c.made_turn-made.ensures in
    record {
      deep = ap (λ q. deep_from (c.args.most - (c.loop-number.number + 1))
          (c.loop-number.number + 1) q (has_made c.args.goal) c.args.node
          c.after_step-depths.result c.made_turn-made.new.chip) c.quiet_after-quiet.ensures.value
          ∙ deep_next c.args.most c.loop-number.number c.loop-number.quiet
          (has_made c.args.goal) c.args.node c.loop-number.depths c.after_step-depths.result
          c.loop-number.chip c.made_turn-made.new.chip c.made_turn-made.result.moved
          c.made_turn-made.result.step c.r.result _ c.loop-number-test.true going made.chip
          made.moved made.step (c.r.ensures ∙ ap r_of made.before) c.after_step-depths.ensures
          c.loop-number.invariant.deep;
      quiet = search rules;
    }

pub returns : goal.returns
returns c =
    deep_ended c.args.most c.loop-number.number c.loop-number.quiet (has_made c.args.goal)
    c.args.node
    c.loop-number.depths c.loop-number.chip _ c.loop-number-test.false c.loop-number.invariant.deep
