use Rattle.std.proofs.Common.{◌∙◌, sym, subst}
use Rattle.std.specs.Prelude.{IfSome}
use Rattle.ga_asm.specs.inner.Layout.{AreSameNames, plain_names}
use Rattle.ga_asm.proofs.layout.Names.take_set.Goals as goal

pub returns-in-Some-clause-ok : goal.returns-in-Some-clause-ok
returns-in-Some-clause-ok c =
    subst (λ o. IfSome o
    (λ set. AreSameNames (plain_names set.keys) (plain_names c.args.self.now.labels.now)))
    (sym c.take.ensures.value ∙ c.in-Some.is) c.args.self.now.same
