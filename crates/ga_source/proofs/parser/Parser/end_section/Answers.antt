use Rattle.std.proofs.Common.{rules, ◌∙◌, ap, refl, [], ◌∷◌, ◌++◌, map}
use Rattle.std.proofs.lemmas.List.{map-append}
use Rattle.std.specs.Map.{keys_of}
use Rattle.ga_place.specs.contracts.node.NodePartialEq.TheImpl as node
use Rattle.ga_source.specs.Item.{item_of}
use Rattle.ga_source.specs.Section.{section_of}
use Rattle.ga_source.proofs.ParserSteps.{section_last}
use Rattle.ga_source.proofs.parser.Parser.end_section.Goals as goal

pub returns-clause-done : goal.returns-clause-done
returns-clause-done c =
    let self = c.args.self.now in
    ap (map section_of) (c.in_ok-insert.ensures.entries
    ∙ section_last node.eq-value.it (λ x y. refl) self.sections.entries self.node _ c.requires.new)
    ∙ map-append section_of self.sections.entries ((self.node, _) ∷ [])
    ∙ ap (λ items. map section_of self.sections.entries
    ++ record { name = self.node; items = map item_of items } ∷ []) (search rules)

pub returns-clause-names : goal.returns-clause-names
returns-clause-names c =
    let self = c.args.self.now in
    ap keys_of (c.in_ok-insert.ensures.entries
    ∙ section_last node.eq-value.it (λ x y. refl) self.sections.entries self.node _ c.requires.new)
    ∙ map-append (λ e. e.0) self.sections.entries ((self.node, _) ∷ [])
