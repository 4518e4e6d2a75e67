use Rattle.std.proofs.Common.{◌∙◌, map, subst, sym, [], ap}
use Rattle.ga_pack.specs.Model.Source.{Sections}
use Rattle.ga_pack.specs.Model.Text.{places_of}
use Rattle.ga_source.specs.Program.{IsRight, sections_in}
use Rattle.ga_source.specs.Section.{section_of}
use Rattle.ga_source.proofs.ItemPlaces.{sections_erased}
use Rattle.ga_source.proofs.program.Program.sections.Goals as goal

pub returns-clause-value : goal.returns-clause-value
returns-clause-value c =
    let self = c.self.inside in
    sym (sections_erased (places_of self.text.now) (map section_of self.sections.entries))
    ∙ ap sections_in c.self.view_is

pub returns-clause-right : goal.returns-clause-right
unfolding IsRight
returns-clause-right c = let self = c.self.inside in
    subst (Sections []) (sym (sections_erased (places_of self.text.now)
    (map section_of self.sections.entries)) ∙ ap sections_in c.self.view_is) c.self.invariant
