use Rattle.std.proofs.Common.{◌∙◌, [], refl, sym}
use Rattle.ga_source.specs.Token.{place_of}
use Rattle.ga_expand.specs.Expanding.{Valuing, with_stage}
use Rattle.ga_expand.specs.inner.Scope.{scope_of}
use Rattle.ga_expand.proofs.Taking.{named_ok, nothing_more}
use Rattle.ga_expand.proofs.expander.Expander.take_name.Goals as goal

pub returns : goal.returns
returns c =
    let scope = scope_of c.args.self.now in (
      record {
        scope = with_stage scope (Valuing c.in-Some.name.bytes (place_of c.args.start));
        pieces = [];
      },
      named_ok scope c.args.text.now c.in-Some.name.bytes (place_of c.args.start)
          c.in-Some.ensures (sym c.is_kept.ensures ∙ c.if-is_kept.false)
          (sym c.has.ensures ∙ c.if-has.false),
      record {
        scope = refl;
        written = λ pieces w all. nothing_more c.args.self.now.writer pieces w;
      },
    )
