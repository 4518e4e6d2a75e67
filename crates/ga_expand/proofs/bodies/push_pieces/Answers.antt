use Rattle.ga_expand.specs.inner.Role.{role_stage}
use Rattle.ga_expand.proofs.Lists.{pieces_more, stage_more}
use Rattle.ga_expand.proofs.bodies.push_pieces.Goals as goal

pub loop-part-preserved : goal.loop-part-preserved
loop-part-preserved c =
    let arguments = c.args.arguments.now in
    let body = c.args.body.now in
    let one = c.part-item.result in
    let new = c.filled-part.result in
    record {
      pieces = pieces_more arguments body c.loop-part.part-index one new c.loop-part-test.true
          c.part-item.is c.filled-part.ensures c.args.pieces.now.items c.loop-part.pieces.items
          c.push.new.self.items c.loop-part.invariant.pieces c.in_ok-push.ensures.items;
      role = stage_more arguments body c.loop-part.part-index one new c.loop-part-test.true
          c.part-item.is c.filled-part.ensures (role_stage c.loop-part.role)
          (role_stage c.behind-role.result) c.loop-part.invariant.role c.behind-role.ensures;
    }
