-- Which words follow a word because of its opcodes.
use Rattle.std.specs.Prelude.{ℕ, ◌+◌, Bool, true, false, List, [], ◌∷◌, if◌then◌else◌}
use Rattle.ga_word.specs.declared.op.Op.{Op}
use Rattle.ga_word.specs.declared.op.Op.TheVariants.{FetchP, StoreP}
use Rattle.ga_word.specs.Op.{ends_word}

-- `@p` and `!p` use the word behind their own, which is their follower
abbrev pub is_followed : Op → Bool
is_followed FetchP = true
is_followed StoreP = true
is_followed _ = false

-- the followers of a word: the `@p` and `!p` up to the first opcode that ends the word
abbrev pub followers : List Op → ℕ
followers [] = 0
followers (o ∷ ops) = if ends_word o then 0 else (if is_followed o then 1 else 0) + followers ops
