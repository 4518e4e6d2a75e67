use Rattle.std.proofs.Common.{[], ◌∷◌, ap, refl, true}
use Rattle.std.proofs.lemmas.Bool.{and_parts}
use Rattle.ga_source.specs.Token.{place_of}
use Rattle.ga_expand.specs.Expanding.{Body, number_step, number_text, with_stage}
use Rattle.ga_expand.specs.inner.Plain.{is_written}
use Rattle.ga_expand.specs.inner.Scope.{scope_of}
use Rattle.ga_expand.proofs.expander.Expander.take_port.Goals as goal

pub returns : goal.returns
returns c =
    let scope = with_stage (scope_of c.args.self.now) Body in
    let place = place_of c.args.place in (
      record {
        scope = scope;
        pieces = record { text = number_text c.in_ok-port.port; place = place } ∷ [];
      },
      ap (number_step scope place) c.in_ok-port.was,
      record {
        scope = refl;
        written = λ pieces w all. c.in_ok-push.ensures pieces w
            (and_parts (is_written
            (record { text = number_text c.in_ok-port.port; place = place })) true all).0;
      },
    )
