use Rattle.ga_chip.proofs.Confluence.{confluence}
use Rattle.ga_group.proofs.Agreeing.{plans_agree, run_agrees}
use Rattle.ga_laws.proofs.Booting.{boots_hold}
use Rattle.ga_laws.proofs.Instructions.{words_give_back}
use Rattle.ga_laws.proofs.Steps.{steps_are_rows}
use Rattle.ga_laws.proofs.laws.headline.Goals as goal

pub returns-clause-steps : goal.returns-clause-steps
returns-clause-steps c = steps_are_rows

pub returns-clause-instructions : goal.returns-clause-instructions
returns-clause-instructions c = words_give_back

pub returns-clause-boot : goal.returns-clause-boot
returns-clause-boot c = boots_hold

pub returns-clause-confluence : goal.returns-clause-confluence
returns-clause-confluence c = confluence

pub returns-clause-plans : goal.returns-clause-plans
returns-clause-plans c = plans_agree

pub returns-clause-run : goal.returns-clause-run
returns-clause-run c = run_agrees
