use Rattle.std.proofs.Common.{◌∙◌, ◌<◌, length, sym, ap, subst}
use Rattle.std.specs.List.{list_all}
use Rattle.std.specs.Option.{unwrap_or}
use Rattle.ga_pack.specs.Model.Layout.{names_in}
use Rattle.ga_pack.specs.Model.Source.{is_item, start}
use Rattle.ga_asm.specs.inner.Layout.{Placing, plain, plain_names}
use Rattle.ga_asm.specs.inner.Making.{IsMade}
use Rattle.ga_asm.proofs.RightItems.{items_right, items_some}
use Rattle.ga_asm.proofs.Sections.{faultless, image_fits}
use Rattle.ga_asm.proofs.assembling.image_of.Goals as goal

pub first_pass-requires-clause-names : goal.first_pass-requires-clause-names
first_pass-requires-clause-names c =
    ap plain_names c.as_slice.ensures.value ∙ c.args.section.now.labels_of_items
    ∙ ap (λ t. names_in (plain t)) (sym c.as_slice-items.ensures.value)

pub second_pass-requires-clause-right : goal.second_pass-requires-clause-right
second_pass-requires-clause-right c =
    ap (λ t. list_all is_item (plain t)) c.as_slice-items.ensures.value
    ∙ items_right start (plain c.args.section.now.items.items) c.requires

pub second_pass-requires-clause-some : goal.second_pass-requires-clause-some
second_pass-requires-clause-some c =
    subst (λ t. 0 < length t) (sym c.as_slice-items.ensures.value)
    (items_some c.args.section.now.items.items c.requires)

pub invariant_of-result : goal.invariant_of-result
invariant_of-result c =
    let items = plain c.args.section.now.items.items in
    let l = c.in_ok-layout.layout in
    let placed =
    subst (λ t. Placing (plain t) l) c.as_slice-items.ensures.value c.in_ok-layout.ensures.ok in
    let made = subst (λ t. IsMade (plain t) l c.in_ok-words.words.items)
    c.as_slice-items.ensures.value c.in_ok-words.ensures.ok in
    image_fits items l c.in_ok-words.words.items c.from-code_len.result c.unwrap_or-entry.result
    c.requires placed made (c.from-code_len.ensures ∙ c.unwrap_or.ensures)
    (c.unwrap_or-entry.ensures ∙ ap (λ t. unwrap_or t 0) c.address_of.ensures)

pub returns-clause-ok : goal.returns-clause-ok
returns-clause-ok c =
    let items = plain c.args.section.now.items.items in
    let l = c.in_ok-layout.layout in
    let placed =
    subst (λ t. Placing (plain t) l) c.as_slice-items.ensures.value c.in_ok-layout.ensures.ok in
    let made = subst (λ t. IsMade (plain t) l c.in_ok-words.words.items)
    c.as_slice-items.ensures.value c.in_ok-words.ensures.ok in
    faultless c.from-code_len.result c.unwrap_or-entry.result placed made
    (c.from-code_len.ensures ∙ c.unwrap_or.ensures)
    (c.unwrap_or-entry.ensures ∙ ap (λ t. unwrap_or t 0) c.address_of.ensures)
