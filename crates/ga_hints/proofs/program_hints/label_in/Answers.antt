use Rattle.ga_hints.proofs.Programs.{label_kept}
use Rattle.ga_hints.proofs.program_hints.label_in.Goals as goal

pub returns-in-None : goal.returns-in-None
returns-in-None c = label_kept c.args.word.now c.in-None.ensures.cases
