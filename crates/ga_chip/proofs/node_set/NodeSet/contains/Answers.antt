use Rattle.std.proofs.Common.{ap, ◌/◌, ◌%◌, ◌==◌, get_or}
use Rattle.std.proofs.lemmas.Nat.Bits.{shr_and_one}
use Rattle.ga_chip.specs.inner.Awake.{is_in}
use Rattle.ga_chip.proofs.node_set.NodeSet.contains.Goals as goal

pub returns : goal.returns
unfolding is_in
returns c =
    ap (λ n. n == 1)
    (shr_and_one (get_or c.args.self.now.words (c.args.index / 64) 0) (c.args.index % 64))
