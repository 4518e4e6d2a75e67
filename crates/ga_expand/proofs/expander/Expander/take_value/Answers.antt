use Rattle.std.proofs.Common.{[], ap, sym}
use Rattle.ga_expand.specs.Expanding.{Head, Scope, valued, with_constant}
use Rattle.ga_expand.specs.inner.Scope.{scope_of}
use Rattle.ga_expand.proofs.Taking.{nothing_more}
use Rattle.ga_expand.proofs.expander.Expander.take_value.Goals as goal

pub returns : goal.returns
returns c =
    let scope = scope_of c.args.self.now in (
      record {
        scope = with_constant scope c.args.name.bytes c.in_ok-value.value;
        pieces = [];
      },
      ap (valued scope c.args.name.bytes) (sym c.in_ok-value.ensures),
      record {
        scope = ap {B = Scope} (λ cs. record { constants = cs; node = scope.node; stage = Head })
            c.in_ok-define.ensures.ok;
        written = λ pieces w all. nothing_more c.args.self.now.writer pieces w;
      },
    )
