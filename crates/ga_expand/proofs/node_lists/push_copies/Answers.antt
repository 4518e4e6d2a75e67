use Rattle.ga_expand.proofs.Copies.{copies_more}
use Rattle.ga_expand.proofs.node_lists.push_copies.Goals as goal

pub loop-name-preserved : goal.loop-name-preserved
loop-name-preserved c =
    copies_more c.args.node c.args.tokens.now c.args.names.now c.loop-name.name-index
    c.name-item.result c.loop-name-test.true c.name-item.is c.args.pieces.now.items
    c.loop-name.pieces.items c.push.new.self.items c.push-in-loop-name.new.self.items
    c.extend_from_slice.new.self.items c.loop-name.invariant c.in_ok-push.ensures.items
    c.in_ok-push-2.ensures.items c.in_ok-extend_from_slice.ensures.items
