use Rattle.ga_source.proofs.Walking.{blank_behind}
use Rattle.ga_source.proofs.token.behind_blank.Goals as goal

pub returns-in-Some-clause-texts : goal.returns-in-Some-clause-texts
returns-in-Some-clause-texts c =
    blank_behind c.args.text.now c.in-Some.field-0-0.now c.in-Some.rest.now c.requires
    c.in-Some.ensures.cases.0
