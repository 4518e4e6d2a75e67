use Rattle.std.proofs.Common.{◌∙◌, ◌++◌, [], ◌∷◌, ap, map}
use Rattle.std.proofs.lemmas.List.{map-append}
use Rattle.ga_source.specs.Name.{NameText}
use Rattle.ga_hints.proofs.Lists.{more_read, now}
use Rattle.ga_hints.proofs.names.label_names.Goals as goal

pub loop-label-preserved : goal.loop-label-preserved
loop-label-preserved c =
    let bytes = λ (name : NameText). name.bytes in
    let names = map now c.loop-label.names.items in
    more_read bytes c.args.labels.now c.loop-label.label-index c.label-item.result names
    (map now c.push.new.self.items) c.loop-label-test.true c.loop-label.invariant
    (ap (map now) c.in_ok-push.ensures.items ∙ map-append now c.loop-label.names.items _
    ∙ ap (λ t. names ++ t ∷ []) (c.as_str.ensures ∙ ap bytes c.label-item.is))
