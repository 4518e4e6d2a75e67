use Rattle.std.proofs.Common.{◌≡◌, ◌+◌, length, arith, rules}
use Rattle.ga_group.proofs.Walk.{count_next, front_within}
use Rattle.ga_group.proofs.halves.nodes_in.Goals as goal

pub overflow_add-count : goal.overflow_add-count
overflow_add-count c =
    let items : c.len-count.result ≡ length c.group-item.result.items = (search rules) in
    let next = count_next c.args.groups.now c.loop-group.group-index c.group-item.result
    c.loop-group-test.true c.group-item.is in
    let within = front_within c.args.groups.now (c.loop-group.group-index + 1) in
    omega (arith, items, next, within, c.loop-group.invariant)

pub loop-group-preserved : goal.loop-group-preserved
loop-group-preserved c =
    let items : c.len-count.result ≡ length c.group-item.result.items = (search rules) in
    let next = count_next c.args.groups.now c.loop-group.group-index c.group-item.result
    c.loop-group-test.true c.group-item.is in
    omega (arith, items, next, c.loop-group.invariant)
