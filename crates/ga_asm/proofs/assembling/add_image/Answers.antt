use Rattle.std.proofs.Common.{◌∙◌, refl}
use Rattle.ga_place.specs.contracts.node.NodePartialEq.TheImpl as node
use Rattle.ga_source.proofs.ParserSteps.{section_last}
use Rattle.ga_asm.proofs.assembling.add_image.Goals as goal

pub returns-clause-ok : goal.returns-clause-ok
returns-clause-ok c =
    c.in_ok-insert.ensures.entries ∙ section_last node.eq-value.it
    (λ x y. refl) c.args.images.now.entries c.args.node c.args.image c.requires
