use Rattle.std.proofs.Common.{subst}
use Rattle.ga_source.specs.inner.Machine.{Good}
use Rattle.ga_source.specs.inner.Parser.{at_position}
use Rattle.ga_source.proofs.ParserSteps.{owed_more}
use Rattle.ga_source.proofs.parser.Parser.take.Goals as goal

pub take_plain-requires-clause-owed : goal.take_plain-requires-clause-owed
take_plain-requires-clause-owed c =
    let self = c.args.self.now in
    owed_more self.part (subst (λ x. Good (at_position x self)) c.in-BehindComma.is c.requires.good)
