use Rattle.std.proofs.Common.{◌∙◌, ap, map}
use Rattle.std.specs.Prelude.{nat_eq}
use Rattle.std.specs.List.{find}
use Rattle.std.specs.Option.{option_map}
use Rattle.ga_source.specs.Item.{item_of}
use Rattle.ga_hints.proofs.Programs.{items_borrowed, section_found}
use Rattle.ga_hints.proofs.program_hints.section_of.Goals as goal

pub returns : goal.returns
returns c =
    items_borrowed c.get.result
    ∙ ap (option_map (λ section. map item_of section.items.items)) c.get.ensures.value
    ∙ section_found c.args.node c.sections.result.now.entries
    ∙ ap (λ sections. option_map (λ section. section.items)
    (find (λ section. nat_eq c.args.node section.name) sections)) c.sections.ensures.value
