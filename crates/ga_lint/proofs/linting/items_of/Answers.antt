use Rattle.std.proofs.Common.{◌∙◌, [], sym, ap}
use Rattle.std.specs.Option.{option_map_or}
use Rattle.ga_asm.specs.inner.Layout.{plain}
use Rattle.ga_lint.proofs.Sections.{items_in, section_items}
use Rattle.ga_lint.proofs.linting.items_of.Goals as goal

pub returns-in-Some : goal.returns-in-Some
returns-in-Some c =
    ap plain c.as_slice.ensures.value
    ∙ ap (λ e. plain (option_map_or items_in e [])) c.in-Some.ensures.entry
    ∙ sym (section_items c.args.program.now c.sections.result.now.entries c.args.section
    c.sections.ensures.value)

pub returns-in-None : goal.returns-in-None
returns-in-None c =
    ap (λ e. plain (option_map_or items_in e [])) c.in-None.ensures.entry
    ∙ sym (section_items c.args.program.now c.sections.result.now.entries c.args.section
    c.sections.ensures.value)
