-- What the words of stacks are at values that were worked out by hand.
use Rattle.std.proofs.Common.{◌≡◌, ℕ, List, [], ◌∷◌, None, refl}
use Rattle.ga_word.specs.declared.op.Op.TheVariants as op
use Rattle.ga_node.specs.State.{State, booting_state, loaded_state, reset_state}
use Rattle.ga_node.specs.Slot.{row}
use Rattle.ga_trace.specs.Depth.{BOTH_EMPTY, changed, data_change, return_change}
use Rattle.ga_trace.specs.declared.depth.StackDepths.{StackDepths}
use Rattle.ga_laws.specs.Stacks.{HasStacks, Data, Return, word_at}

-- the words 1 to 10 were pushed on the data stack, and 1 to 9 on the return stack
full : State
full = record (reset_state 708) {
  t = 10;
  s = 9;
  data_stack = 8 ∷ 7 ∷ 6 ∷ 5 ∷ 4 ∷ 3 ∷ 2 ∷ 1 ∷ [];
  r = 9;
  return_stack = 8 ∷ 7 ∷ 6 ∷ 5 ∷ 4 ∷ 3 ∷ 2 ∷ 1 ∷ [];
}

-- as many words are in both stacks
holding : ℕ → StackDepths
holding words = record {
  data_stack = record BOTH_EMPTY.data_stack { words = words };
  return_stack = record BOTH_EMPTY.return_stack { words = words };
}

-- the first word is at height 0, and the top one at the greatest height
heights : (word_at Data full (holding 10) 0 ≡ 1) × (word_at Data full (holding 10) 9 ≡ 10)
    × (word_at Return full (holding 9) 0 ≡ 1) × (word_at Return full (holding 9) 8 ≡ 9)
unfolding full holding
heights = (refl, refl, refl, refl)

-- `drop` keeps what is below, and so does a `;`
popped : (word_at Data (row op.Drop full None) (holding 9) 0 ≡ 1)
    × (word_at Data (row op.Drop full None) (holding 9) 8 ≡ 9)
    × (word_at Return (row op.Return full None) (holding 8) 0 ≡ 1)
    × (word_at Return (row op.Return full None) (holding 8) 7 ≡ 8)
unfolding full holding row
popped = (refl, refl, refl, refl)

-- a push onto nine words keeps the first, and one onto ten loses it
lost : (word_at Data full (holding 9) 0 ≡ 2)
    × (word_at Data (row op.Dup full None) (holding 10) 0 ≡ 2)
    × (word_at Data full (holding 10) 0 ≡ 1)
    × (word_at Data (row op.Dup full None) (holding 11) 0 ≡ 0)
unfolding full holding row
lost = (refl, refl, refl, refl)

-- and so with a call, onto eight and onto nine
lost_return : (word_at Return full (holding 8) 0 ≡ 2)
    × (word_at Return (row op.Call full None) (holding 9) 0 ≡ 2)
    × (word_at Return full (holding 9) 0 ≡ 1)
    × (word_at Return (row op.Call full None) (holding 10) 0 ≡ 0)
unfolding full holding row
lost_return = (refl, refl, refl, refl)

-- `unext` and `next` pop R where it is 0, and else count it down
loops : (changed (return_change op.Next 0) 9 ≡ 8) × (changed (return_change op.Micronext 0) 9 ≡ 8)
    × (changed (return_change op.Next 9) 9 ≡ 9) × (changed (data_change op.Next) 9 ≡ 9)
loops = (refl, refl, refl, refl)

-- after reset each stack has all its words, also if the node was given words or a stream
after_reset : (name : ℕ) → HasStacks (reset_state name)
after_reset name Data = refl
after_reset name Return = refl

after_words : (name entry : ℕ) (words : List ℕ) → HasStacks (loaded_state name words entry)
after_words name entry words Data = refl
after_words name entry words Return = refl

after_stream : (name : ℕ) → HasStacks (booting_state name)
after_stream name Data = refl
after_stream name Return = refl
