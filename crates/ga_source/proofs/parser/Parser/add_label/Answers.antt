use Rattle.std.proofs.Common.{◌∙◌, ap, refl, sym}
use Rattle.std.specs.Prelude.{not}
use Rattle.std.specs.Str.{bytes_eq}
use Rattle.ga_source.proofs.ParserSteps.{labels_more, list_any_map}
use Rattle.ga_source.proofs.parser.Parser.add_label.Goals as goal

pub returns-clause-new : goal.returns-clause-new
returns-clause-new c =
    c.in_ok-insert.ensures.added ∙ ap not (sym
    (list_any_map (bytes_eq c.args.name.bytes) (λ name. name.bytes) c.args.self.now.labels.keys))

pub returns-clause-labels : goal.returns-clause-labels
returns-clause-labels c new =
    labels_more (λ name. name.bytes) (λ one other. bytes_eq one.bytes other.bytes)
    (λ x y. refl) c.args.name.bytes c.args.name c.args.self.now.labels.keys c.insert.new.self.keys
    refl new c.in_ok-insert.ensures.keys
