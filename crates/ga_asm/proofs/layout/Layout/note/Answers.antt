use Rattle.std.proofs.Common.{◌≡◌, ◌∙◌, sym, ap, subst, true}
use Rattle.std.proofs.lemmas.Bool.{not-true}
use Rattle.ga_pack.specs.Model.Source.{is_among, is_new}
use Rattle.ga_source.specs.Item.{item_of}
use Rattle.ga_asm.specs.Image.{labels_of}
use Rattle.ga_asm.specs.inner.Layout.{labels_with, names_of}
use Rattle.ga_asm.proofs.LabelLists.{labels_more}
use Rattle.ga_asm.proofs.layout.Layout.note.Goals as goal

pub returns-in_ok-insert-in-Label-clause-labels : goal.returns-in_ok-insert-in-Label-clause-labels
returns-in_ok-insert-in-Label-clause-labels c =
    let name = c.in-Label.name in
    let entries = c.args.self.now.labels.entries in
    let new = subst (λ t. is_new (item_of t) (names_of (labels_of entries)) ≡ true) c.in-Label.is
    c.requires in
    ap labels_of c.in_ok-insert-in-Label.ensures.entries
    ∙ labels_more name.bytes c.in_ok-name-in-Label.name c.args.self.now.address entries
    (c.in_ok-name-in-Label.ensures.ok
    ∙ c.as_str.ensures) (not-true (is_among name.bytes (names_of (labels_of entries))) new)
    ∙ ap (λ t. labels_with (labels_of entries) c.args.self.now.address (item_of t))
    (sym c.in-Label.is)
