use Rattle.std.proofs.Common.{arith, rules, get_or, ◌/◌, ◌%◌}
use Rattle.std.specs.Int.{w64}
use Rattle.std.proofs.lemmas.Nat.Bits.{bit_at_set_other, bit_at_set_same}
use Rattle.ga_chip.proofs.Members.{changed}
use Rattle.ga_chip.proofs.node_set.NodeSet.insert.Goals as goal

pub returns : goal.returns
returns c = λ other.
    changed c.args.self.now.words c.args.index other _ 1 (search rules) (bit_at_set_same w64
    (get_or c.args.self.now.words (c.args.index / 64) 0) (c.args.index % 64) (omega arith))
    (λ i below apart. bit_at_set_other w64 (get_or c.args.self.now.words (c.args.index / 64) 0)
    (c.args.index % 64) (omega arith) i apart)
