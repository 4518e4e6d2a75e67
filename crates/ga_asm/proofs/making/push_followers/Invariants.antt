use Rattle.std.proofs.Common.{◌≡◌, ◌++◌, take}
use Rattle.ga_pack.specs.Model.Layout.{literals}
use Rattle.ga_asm.specs.inner.Layout.{plain}
use Rattle.ga_asm.proofs.making.push_followers.Given as goal

abbrev pub invariant-loop-item : goal.invariant-loop-item
invariant-loop-item l =
    l.words.items ≡ l.initial.words.items ++ literals (plain (take l.item-index l.items))
