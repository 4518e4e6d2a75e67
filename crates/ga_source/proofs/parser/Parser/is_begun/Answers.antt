use Rattle.std.proofs.Common.{◌∙◌, refl}
use Rattle.ga_place.specs.contracts.node.NodePartialEq.TheImpl as node
use Rattle.ga_source.proofs.ParserSteps.{found_any}
use Rattle.ga_source.proofs.parser.Parser.is_begun.Goals as goal

pub returns : goal.returns
returns c =
    c.contains_key.ensures
    ∙ found_any node.eq-value.it (λ x y. refl) c.args.self.now.sections.entries c.args.node
