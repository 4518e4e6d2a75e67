use Rattle.std.proofs.Common.{◌≡◌, Ok, rules, subst, sym}
use Rattle.ga_group.specs.Plan.{Groups, plan_fault}
use Rattle.ga_group.specs.Workers.{IsWorkersRun}
use Rattle.ga_programs.specs.Run.{dealt, plan_by}
use Rattle.ga_programs.proofs.Dealing.{accepted, alone}
use Rattle.ga_programs.proofs.run.run_chip.Goals as goal

pub returns : goal.returns
returns g c =
    let groups : Groups = dealt c.args.workers c.args.nodes.now in
    let planned : plan_by groups ≡ Ok c.in_ok-plan.plan = search rules in
    let made = accepted (plan_fault groups) groups c.in_ok-plan.plan planned in (
      made.0,
      record {
        next = c.in_ok-chip.chip;
        ran = subst (λ plan. IsWorkersRun c.args.chip plan c.args.turns c.in_ok-chip.chip)
            (sym made.1) c.in_ok-chip.ensures.run;
        alone = alone c.args.chip c.in_ok-chip.chip c.in_ok-plan.plan c.args.nodes.now
            c.args.workers c.args.turns (sym made.1) c.in_ok-chip.ensures.alone;
        text_is = search rules;
      },
    )
