-- What tokens mean.
use Rattle.std.proofs.Common.{◌≡◌, refl}
use Rattle.ga_word.specs.declared.op.Op.{Op}
use Rattle.ga_word.specs.declared.op.Op.TheVariants.{Jump}
use Rattle.ga_word.specs.Op.{name_of}
use Rattle.ga_pack.specs.Model.Token.{op, meaning_of}

-- the name of an opcode means the opcode
pub meaning_of-name_of : (o : Op) → meaning_of (name_of o) ≡ op o
unfolding meaning_of
meaning_of-name_of Jump = refl
meaning_of-name_of o = refl
