use Rattle.std.proofs.Common.{◌≡◌, ◌∙◌, length, sym, ap, arith}
use Rattle.ga_pack.specs.Model.Layout.{is_in_reach}
use Rattle.ga_source.specs.Item.{item_of}
use Rattle.ga_asm.specs.Image.{labels_of}
use Rattle.ga_asm.specs.inner.Layout.{plain}
use Rattle.ga_asm.proofs.Groups.{making_all, making_none, next_at, next_far, next_is_group, next_made, next_near, next_of, next_room, next_some, next_within}
use Rattle.ga_asm.proofs.making.second_pass.Goals as goal

pub loop-count-init : goal.loop-count-init
loop-count-init c =
    making_none (plain c.args.items.now) c.args.layout.now c.in-Ok.words.items c.requires.placed
    c.in-Ok.ensures.items

pub split_at-requires : goal.split_at-requires
split_at-requires c =
    let n = next_of (plain c.args.items.now) c.args.layout.now c.deref-count-items.result.now
    c.loop-count.count-index (plain c.loop-count.rest.now) c.loop-count.words.items
    c.loop-count.invariant c.deref-count-items.ensures.value c.loop-count-test.true in
    next_room c.args.items.now c.loop-count.rest.now c.args.layout.now
    c.deref-count-items.result.now c.loop-count.count-index c.loop-count.words.items n

pub overflow_sub-at : goal.overflow_sub-at
overflow_sub-at c =
    let n = next_of (plain c.args.items.now) c.args.layout.now c.deref-count-items.result.now
    c.loop-count.count-index (plain c.loop-count.rest.now) c.loop-count.words.items
    c.loop-count.invariant c.deref-count-items.ensures.value c.loop-count-test.true in
    next_within c.args.items.now c.loop-count.rest.now c.args.layout.now
    c.deref-count-items.result.now c.loop-count.count-index c.loop-count.words.items n

pub overflow_cast-address : goal.overflow_cast-address
overflow_cast-address c =
    let n = next_of (plain c.args.items.now) c.args.layout.now c.deref-count-items.result.now
    c.loop-count.count-index (plain c.loop-count.rest.now) c.loop-count.words.items
    c.loop-count.invariant c.deref-count-items.ensures.value c.loop-count-test.true in
    let near = next_near c.args.items.now c.loop-count.rest.now c.args.layout.now
    c.deref-count-items.result.now c.loop-count.count-index c.loop-count.words.items n in
    let count = c.len-address.ensures in
    omega arith

pub bounds-group-0 : goal.bounds-group-0
bounds-group-0 c =
    let n = next_of (plain c.args.items.now) c.args.layout.now c.deref-count-items.result.now
    c.loop-count.count-index (plain c.loop-count.rest.now) c.loop-count.words.items
    c.loop-count.invariant c.deref-count-items.ensures.value c.loop-count-test.true in
    next_some c.args.items.now c.loop-count.rest.now c.args.layout.now
    c.deref-count-items.result.now c.loop-count.count-index c.loop-count.words.items n
    c.split_at.result.0.now c.split_at.ensures.front

pub is_in_reach-requires : goal.is_in_reach-requires
is_in_reach-requires c =
    let n = next_of (plain c.args.items.now) c.args.layout.now c.deref-count-items.result.now
    c.loop-count.count-index (plain c.loop-count.rest.now) c.loop-count.words.items
    c.loop-count.invariant c.deref-count-items.ensures.value c.loop-count-test.true in
    let near = next_near c.args.items.now c.loop-count.rest.now c.args.layout.now
    c.deref-count-items.result.now c.loop-count.count-index c.loop-count.words.items n in
    let count = c.len-address.ensures in
    omega arith

pub returns-then-not-is_in_reach-clause-err : goal.returns-then-not-is_in_reach-clause-err
returns-then-not-is_in_reach-clause-err c some =
    let n = next_of (plain c.args.items.now) c.args.layout.now c.deref-count-items.result.now
    c.loop-count.count-index (plain c.loop-count.rest.now) c.loop-count.words.items
    c.loop-count.invariant c.deref-count-items.ensures.value c.loop-count-test.true in
    let count : c.len-address.result ≡ length c.loop-count.words.items =
    omega (arith, c.len-address.ensures) in
    next_far c.args.items.now c.loop-count.rest.now c.args.layout.now c.deref-count-items.result.now
    c.loop-count.count-index c.loop-count.words.items n c.split_at.result.0.now
    c.index-group-0.result c.split_at.ensures.front
    (ap (λ t. is_in_reach (labels_of c.args.layout.now.labels.entries)
    (length c.loop-count.words.items) (item_of t)) (sym c.index-group-0.is) ∙ ap (λ t. is_in_reach
    (labels_of c.args.layout.now.labels.entries) t (item_of c.index-group-0.result)) (sym count)
    ∙ sym c.is_in_reach.ensures ∙ c.if-not-is_in_reach.true)

pub returns-then-not-is_in_reach-clause-at : goal.returns-then-not-is_in_reach-clause-at
returns-then-not-is_in_reach-clause-at c =
    let n = next_of (plain c.args.items.now) c.args.layout.now c.deref-count-items.result.now
    c.loop-count.count-index (plain c.loop-count.rest.now) c.loop-count.words.items
    c.loop-count.invariant c.deref-count-items.ensures.value c.loop-count-test.true in
    next_at c.args.items.now c.loop-count.rest.now c.args.layout.now c.deref-count-items.result.now
    c.loop-count.count-index c.loop-count.words.items n

pub push_group-requires : goal.push_group-requires
push_group-requires c =
    let n = next_of (plain c.args.items.now) c.args.layout.now c.deref-count-items.result.now
    c.loop-count.count-index (plain c.loop-count.rest.now) c.loop-count.words.items
    c.loop-count.invariant c.deref-count-items.ensures.value c.loop-count-test.true in
    next_is_group c.args.items.now c.loop-count.rest.now c.args.layout.now
    c.deref-count-items.result.now c.loop-count.count-index c.loop-count.words.items n
    c.requires.right c.split_at.result.0.now c.split_at.ensures.front

pub returns-in-Err-clause-at : goal.returns-in-Err-clause-at
returns-in-Err-clause-at c =
    let n = next_of (plain c.args.items.now) c.args.layout.now c.deref-count-items.result.now
    c.loop-count.count-index (plain c.loop-count.rest.now) c.loop-count.words.items
    c.loop-count.invariant c.deref-count-items.ensures.value c.loop-count-test.true in
    next_at c.args.items.now c.loop-count.rest.now c.args.layout.now c.deref-count-items.result.now
    c.loop-count.count-index c.loop-count.words.items n

pub loop-count-preserved : goal.loop-count-preserved
loop-count-preserved c =
    let n = next_of (plain c.args.items.now) c.args.layout.now c.deref-count-items.result.now
    c.loop-count.count-index (plain c.loop-count.rest.now) c.loop-count.words.items
    c.loop-count.invariant c.deref-count-items.ensures.value c.loop-count-test.true in
    let count : c.len-address.result ≡ length c.loop-count.words.items =
    omega (arith, c.len-address.ensures) in
    next_made c.args.items.now c.loop-count.rest.now c.args.layout.now
    c.deref-count-items.result.now c.loop-count.count-index c.loop-count.words.items n
    c.split_at.result.0.now c.split_at.result.1.now c.index-group-0.result
    c.push_group.new.words.items c.split_at.ensures.front c.split_at.ensures.back
    (ap (λ t. is_in_reach (labels_of c.args.layout.now.labels.entries)
    (length c.loop-count.words.items) (item_of t)) (sym c.index-group-0.is) ∙ ap (λ t. is_in_reach
    (labels_of c.args.layout.now.labels.entries) t (item_of c.index-group-0.result)) (sym count)
    ∙ sym c.is_in_reach.ensures ∙ c.if-not-is_in_reach.false)
    c.in_default-push_group.ensures.ok

pub returns-clause-ok : goal.returns-clause-ok
returns-clause-ok c =
    making_all (plain c.args.items.now) c.args.layout.now c.deref-count-items.result.now
    c.loop-count.count-index
    (plain c.loop-count.rest.now) c.loop-count.words.items c.loop-count.invariant
    c.deref-count-items.ensures.value c.loop-count-test.false
