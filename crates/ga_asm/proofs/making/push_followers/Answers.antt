use Rattle.std.proofs.Common.{◌∙◌, ◌+◌, ap, take}
use Rattle.ga_source.specs.Item.{item_of}
use Rattle.ga_asm.specs.inner.Layout.{plain}
use Rattle.ga_asm.proofs.LayingSteps.{front_next}
use Rattle.ga_asm.proofs.MakingSteps.{followers_none, followers_some}
use Rattle.ga_asm.proofs.making.push_followers.Goals as goal
use Rattle.ga_asm.proofs.making.push_followers.Goals.{in-Some+in_ok-push, in_default}

pub loop-item-preserved : goal.loop-item-preserved
loop-item-preserved c =
    let items = c.args.items.now in
    let at = c.loop-item.item-index in
    let x = item_of c.item-item.result in
    let front = plain (take at items) in
    let next = front_next items at c.item-item.result c.loop-item-test.true c.item-item.is in
    elim c.match-follower_of.branch [
      | in-Some+in_ok-push w ↦
          followers_some c.args.words.now.items c.loop-item.words.items
          c.match-follower_of.words.items (plain (take (at + 1) items)) front x w.in-Some.number
          next c.loop-item.invariant w.in-Some.ensures
          (ap (λ t. t.items) w.words-is ∙ w.in_ok-push.ensures.items)
      | in_default w ↦
          followers_none c.args.words.now.items c.loop-item.words.items
          c.match-follower_of.words.items (plain (take (at + 1) items)) front x
          next c.loop-item.invariant w.in_default.ensures (ap (λ t. t.items) w.words-is)
    ]
