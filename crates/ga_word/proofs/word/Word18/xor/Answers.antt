use Rattle.std.proofs.lemmas.Nat.{xor_lt}
use Rattle.ga_word.proofs.word.Word18.xor.Goals as goal

pub invariant_of-result : goal.invariant_of-result
invariant_of-result c =
    xor_lt 18 c.self.inside.number c.other.inside.number c.self.invariant c.other.invariant
