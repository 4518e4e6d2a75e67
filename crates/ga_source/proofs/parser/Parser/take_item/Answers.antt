use Rattle.std.proofs.Common.{◌∙◌}
use Rattle.ga_source.specs.inner.Meaning.{meaning_of}
use Rattle.ga_source.specs.inner.Parser.{inside_of, state_of}
use Rattle.ga_source.proofs.ParserSteps.{some_owed}
use Rattle.ga_source.proofs.parser.Parser.take_item.Goals as goal

pub returns-in-Code : goal.returns-in-Code
returns-in-Code c = let self = c.args.self.now in
    some_owed (inside_of self) (meaning_of c.args.token.now) c.take_owed.result
    (state_of c.take_owed.new.self) self.part c.in-Code.field-0 c.in-Code.is
    (λ z. c.in-Code.field-0-test.1 (c.in-Code.field-0-is ∙ z)) c.take_owed.ensures
