-- What every schedule leaves alike.
use Rattle.std.specs.Prelude.{◌≡◌, ◌≢◌, ℕ, List, ◌++◌, ◌⊎◌, Some}
use Rattle.ga_place.specs.declared.side.Side.{Side}
use Rattle.ga_node.specs.State.{State}
use Rattle.ga_chip.specs.declared.outcome.Outcome.TheVariants.{Moved}
use Rattle.ga_chip.specs.Part.{Part}
use Rattle.ga_chip.specs.Chip.{Chip, part_of, tried}
use Rattle.ga_chip.specs.Run.{Event, ran, input_after, input_words, words_left, written_words, taken_words, sides_of, words_fed, node_after}
use Rattle.ga_chip.specs.Legal.{IsLegal, DifferInBreaks}

-- one list is a prefix of the second
abbrev pub IsPrefix : {A : Type 0} → List A → List A → Type 0
IsPrefix {A = A} xs ys = (rest : List A) × (ys ≡ xs ++ rest)

-- one of two lists is a prefix of the other
abbrev pub AgreesWith : {A : Type 0} → List A → List A → Type 0
AgreesWith xs ys = IsPrefix xs ys ⊎ IsPrefix ys xs

-- Two runs agree on their common steps.
pub record Agree (one two : Chip) (events others : List Event) : Type 0 where
  -- a node has the same state after equally many moves
  pub nodes : (name k : ℕ) (here there : State) → node_after one events name k ≡ Some here
      → node_after two others name k ≡ Some there → here ≡ there
  -- and has taken the same words of its stream
  pub inputs : (name k : ℕ) (here there : State) → node_after one events name k ≡ Some here
      → node_after two others name k ≡ Some there
      → input_after one events name k ≡ input_after two others name k
  -- so also at the ends, if its steps are equal
  pub ends : (name : ℕ) (here there : Part) → part_of (ran one events) name ≡ Some here
      → part_of (ran two others) name ≡ Some there → here.state.steps ≡ there.state.steps
      → here.state ≡ there.state
  pub ends_inputs : (name : ℕ) (here there : Part) → part_of (ran one events) name ≡ Some here
      → part_of (ran two others) name ≡ Some there → here.state.steps ≡ there.state.steps
      → input_words one events name ≡ input_words two others name
  -- and then the same words are left of its stream, if it was fed equal words
  pub left : (name : ℕ) (here there : Part) → part_of (ran one events) name ≡ Some here
      → part_of (ran two others) name ≡ Some there → here.state.steps ≡ there.state.steps
      → words_fed one events name ≡ words_fed two others name
      → words_left here.stream ≡ words_left there.stream
  -- each cell has the same words written and taken
  pub written : (cell : ℕ)
      → AgreesWith (written_words one events cell) (written_words two others cell)
  pub taken : (cell : ℕ) → AgreesWith (taken_words one events cell) (taken_words two others cell)

-- Two runs agree on their common steps, from legal chips that differ at most in breakpoints and
-- passes, if on these steps the multiport reads name the same sides and the streams are fed the
-- same words. Breakpoints may be used between the tries.
abbrev pub Confluence : Type 0
Confluence =
    (one two : Chip) (events others : List Event) → IsLegal one → IsLegal two
    → DifferInBreaks one two
    → ((name : ℕ) → AgreesWith (sides_of one events name) (sides_of two others name))
    → ((name : ℕ) → AgreesWith (words_fed one events name) (words_fed two others name))
    → Agree one two events others

-- Two nodes' tries that would each be Moved are both Moved in either order, which leads to the same
-- chip.
abbrev pub Commuting : Type 0
Commuting =
    (chip : Chip) (a b : ℕ) (s t : Side) → IsLegal chip → a ≢ b → (tried chip a s).0 ≡ Moved
    → (tried chip b t).0 ≡ Moved
    → ((tried (tried chip a s).1 b t).0 ≡ Moved) × ((tried (tried chip b t).1 a s).0 ≡ Moved)
    × ((tried (tried chip a s).1 b t).1 ≡ (tried (tried chip b t).1 a s).1)
