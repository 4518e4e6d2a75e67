use Rattle.std.proofs.Common.{◌≡◌, ◌∙◌, ◌++◌, [], ◌∷◌, false, ap, sym, if◌then◌else◌}
use Rattle.std.specs.Option.{is_some}
use Rattle.ga_pack.specs.Model.Layout.{address_of}
use Rattle.ga_asm.specs.Image.{labels_of}
use Rattle.ga_asm.proofs.LabelLists.{labels_more}
use Rattle.ga_hints.proofs.Sizes.{not_among}
use Rattle.ga_hints.proofs.size.Sizing.define.Goals as goal

pub returns-in_ok-insert-clause-labels : goal.returns-in_ok-insert-clause-labels
returns-in_ok-insert-clause-labels c =
    let name = c.args.name.now.bytes in
    let labels = labels_of c.args.self.now.labels.entries in
    let address = c.args.self.now.address in
    let none : is_some (address_of labels name) ≡ false =
    ap is_some (sym (c.address_of.ensures ∙ ap (address_of labels) c.as_str.ensures))
    ∙ c.if-is_none.ensures in
    ap labels_of c.in_ok-insert.ensures.entries
    ∙ labels_more name c.in_ok-name.name address c.args.self.now.labels.entries
    (c.in_ok-name.ensures.ok ∙ c.as_str-then-is_none.ensures) (not_among name labels none)
    ∙ sym (ap (λ b. if b then labels else labels ++ (name, address) ∷ []) none)
