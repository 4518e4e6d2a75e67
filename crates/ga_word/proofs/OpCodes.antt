-- The codes of the opcodes.
use Rattle.std.proofs.Common.{◌≡◌, ◌<◌, ◌^◌, refl, ap, sym, ◌∙◌, lit<}
use Rattle.ga_word.specs.Op.{code_of, op_with}
use Rattle.ga_word.specs.declared.op.Op.{Op}
use Rattle.ga_word.specs.declared.op.Op.TheVariants.{Return}

pub code_of-below : (op : Op) → code_of op < 2 ^ 5
code_of-below Return = lit< tt
code_of-below _ = lit< tt

-- an opcode is the one with its code
pub op_with-code_of : (op : Op) → op_with (code_of op) ≡ op
unfolding op_with
op_with-code_of Return = refl
op_with-code_of _ = refl

-- two opcodes with one code are one
pub code_of-injective : (a b : Op) → code_of a ≡ code_of b → a ≡ b
code_of-injective a b e = sym (op_with-code_of a) ∙ ap op_with e ∙ op_with-code_of b
