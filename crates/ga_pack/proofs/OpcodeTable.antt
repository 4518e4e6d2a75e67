-- The opcode with a code has that code.
use Rattle.std.proofs.Common.{◌≡◌, ◌==◌, ◌&&◌, ℕ, zero, suc, ◌+◌, ◌<◌, Bool, true, List, [], ◌∷◌, length, refl, zero-add, ◌∙◌, arith}
use Rattle.std.specs.Prelude.{slice_index_or}
use Rattle.std.proofs.lemmas.Grind.{common_steps}
use Rattle.ga_word.specs.Op.{code_of, op_with, opcodes}
use Rattle.ga_word.specs.declared.op.Op.{Op}
use Rattle.ga_word.specs.declared.op.Op.TheVariants.{Nop}

-- the opcodes of a list have the codes from `first` on
abbrev counts_from : ℕ → List Op → Bool
counts_from first [] = true
counts_from first (op ∷ ops) = (code_of op == first) && counts_from (first + 1) ops

code_at : (ops : List Op) (first place : ℕ) → counts_from first ops ≡ true → place < length ops
    → code_of (slice_index_or ops place Nop) ≡ first + place
code_at [] first place counts within = absurd (omega arith)
code_at (op ∷ ops) first zero counts within = grind (arith, common_steps)
code_at (op ∷ ops) first (suc place) counts within =
    let rest : counts_from (first + 1) ops ≡ true = grind (arith, common_steps) in
    let code = code_at ops (first + 1) place rest (omega arith) in
    omega arith

pub code_of-op_with : (code : ℕ) → code < 32 → code_of (op_with code) ≡ code
unfolding op_with
code_of-op_with code below = code_at opcodes 0 code refl below ∙ zero-add code
