use Rattle.std.proofs.Common.{refl, subst}
use Rattle.std.specs.Str.{bytes_eq}
use Rattle.ga_asm.specs.inner.Layout.{AreSameNames, plain_names}
use Rattle.std.proofs.lemmas.List.{take_all}
use Rattle.ga_asm.proofs.Names.{names_next}
use Rattle.ga_asm.proofs.layout.set_of.Goals as goal

pub loop-label-preserved : goal.loop-label-preserved
loop-label-preserved c =
    names_next (λ name. name.bytes) (λ one other. bytes_eq one.bytes other.bytes) (λ x y. refl)
    c.args.labels.now c.loop-label.label-index c.label-item.result c.loop-label.set.keys
    c.insert.new.self.keys c.loop-label-test.true c.label-item.is c.loop-label.invariant
    c.in_ok-insert.ensures.keys

pub returns-clause-ok : goal.returns-clause-ok
returns-clause-ok c =
    subst (λ t. AreSameNames (plain_names c.loop-label.set.keys) (plain_names t))
    (take_all c.loop-label.label-index c.args.labels.now c.loop-label-test.false)
    c.loop-label.invariant
