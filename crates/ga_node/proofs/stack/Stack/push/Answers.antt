use Rattle.std.proofs.Common.{rules, ◌≡◌, length, arith}
use Rattle.ga_node.proofs.StackRing.{pushed_at}
use Rattle.ga_node.proofs.stack.Stack.push.Goals as goal

pub returns : goal.returns
returns c =
    let w = c.self.inside.words in
    let eight : length w ≡ 8 = search rules in
    grind (arith, pushed_at w c.self.inside.first c.args.word eight c.self.invariant)
