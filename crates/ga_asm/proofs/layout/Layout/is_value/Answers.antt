use Rattle.std.proofs.Common.{◌∙◌, sym, ap}
use Rattle.std.specs.Option.{is_some}
use Rattle.ga_pack.specs.Model.Layout.{address_of, is_value}
use Rattle.ga_source.specs.Item.{value_of}
use Rattle.ga_asm.specs.Image.{labels_of}
use Rattle.ga_asm.specs.inner.Layout.{plain_names}
use Rattle.ga_asm.proofs.LabelLists.{found_among}
use Rattle.ga_asm.proofs.layout.Layout.is_value.Goals as goal

pub returns-then-is_some-clause-ok : goal.returns-then-is_some-clause-ok
returns-then-is_some-clause-ok c =
    let labels = labels_of c.args.self.now.labels.entries in
    let found = ap (λ t. is_some (address_of labels t)) (sym c.as_str.ensures)
    ∙ ap is_some (sym c.address_of.ensures) ∙ sym c.is_some.ensures ∙ c.if-is_some.true in
    let among =
    c.requires.laid c.in-Label.name.bytes (found_among c.in-Label.name.bytes labels found) in
    c.if-is_some.true ∙ sym among
    ∙ ap (λ t. is_value (plain_names c.args.names.now.labels.now) (value_of t)) (sym c.in-Label.is)
