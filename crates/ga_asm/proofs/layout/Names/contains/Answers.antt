use Rattle.std.proofs.Common.{◌∙◌, sym, ap}
use Rattle.std.specs.Str.{bytes_eq}
use Rattle.ga_pack.specs.Model.Source.{is_among}
use Rattle.ga_asm.specs.inner.Layout.{plain_names}
use Rattle.ga_source.proofs.ParserSteps.{list_any_map}
use Rattle.ga_asm.proofs.layout.Names.contains.Goals as goal

pub returns-clause-ok : goal.returns-clause-ok
returns-clause-ok c =
    c.contains-found.ensures
    ∙ sym (list_any_map (bytes_eq c.args.name.now.bytes) (λ name. name.bytes) c.in_ok-set.set.keys)
    ∙ c.in_ok-set.ensures.ok c.args.name.now.bytes

pub invariant_of-self : goal.invariant_of-self
invariant_of-self c =
    record {
      same = λ name. c.in_ok-set.ensures.ok name
          ∙ ap (λ t. is_among name (plain_names t)) (sym c.take_set.ensures.labels);
    }
