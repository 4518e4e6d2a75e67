use Rattle.std.proofs.Common.{◌∙◌, ap, map, sym}
use Rattle.std.specs.Option.{option_and_then}
use Rattle.std.proofs.lemmas.Result.{IfOk-weaker}
use Rattle.ga_asm.specs.Error.{error_place}
use Rattle.ga_source.specs.Item.{item_of}
use Rattle.ga_source.specs.Token.{place_of}
use Rattle.ga_hints.specs.Hints.{items_hint, label_hint}
use Rattle.ga_hints.specs.Names.{word_at}
use Rattle.ga_hints.proofs.program_hints.program_hint.Goals as goal

pub returns-in-UndefinedLabel : goal.returns-in-UndefinedLabel
returns-in-UndefinedLabel c =
    let text = c.args.text.now in
    let part = c.args.part.now in
    let error = c.args.error in
    let items = map item_of c.in-Some.section.now.items.items in
    let word = word_at text (error_place error) in
    IfOk-weaker c.label_hint.result _ _
    (λ hint e. e
    ∙ ap (λ place. option_and_then (label_hint part items) (word_at text (place_of place)))
    c.place-place.ensures
    ∙ ap (λ kind. items_hint kind part word items) (sym c.in-UndefinedLabel.is)
    ∙ ap (option_and_then (items_hint error.kind part word)) c.in-Some.ensures)
    c.label_hint.ensures
