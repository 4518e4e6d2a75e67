-- Passes of a node through the places of its program at which it uses ports.
use Rattle.std.specs.Prelude.{ℕ, ◌+◌, ◌*◌, ◌%◌, ◌^◌, ◌==◌, Bool, false, List, [], ◌∷◌, Option, Some, None, ◌&&◌, nat_le, if◌then◌else◌}
use Rattle.std.specs.Option.{option_map_or}
use Rattle.ga_place.specs.Address.{where_is}
use Rattle.ga_place.specs.Cell.{index_of}
use Rattle.ga_place.specs.declared.address.Where.{Where}
use Rattle.ga_place.specs.declared.address.Where.TheVariants.{Ram}
use Rattle.ga_node.specs.declared.place.Place.{Place}
use Rattle.ga_node.specs.declared.place.Place.TheVariants.{Slot0, Slot1, Slot2, Slot3}
use Rattle.ga_observe.specs.declared.step.Deed.{Deed}
use Rattle.ga_observe.specs.declared.step.Deed.TheVariants.{Took, Posted}
use Rattle.ga_observe.specs.declared.step.Step.{Step}
use Rattle.ga_trace.specs.At.{at_word}
use Rattle.ga_profile.specs.declared.passes.Moment.{Moment}
use Rattle.ga_profile.specs.declared.passes.Passes.{Passes}
use Rattle.ga_profile.specs.NodeTurns.{more}

-- ---- places

abbrev pub slot_at : Place → Option ℕ
slot_at Slot0 = Some 0
slot_at Slot1 = Some 1
slot_at Slot2 = Some 2
slot_at Slot3 = Some 3
slot_at place = None

-- the slot of a step that takes or posts a word
abbrev pub slot_used : Place → Deed → Option ℕ
slot_used place (Took side sides word) = slot_at place
slot_used place (Posted side word) = slot_at place
slot_used place deed = None

abbrev pub word_in : Where → Option ℕ
word_in (Ram index) = Some (index % 64)
word_in at = None

-- the word of memory at an address
abbrev pub word_at : ℕ → Option ℕ
word_at address = word_in (where_is address)

abbrev pub place_by : ℕ → Option ℕ → Option ℕ → Option ℕ
place_by name (Some slot) (Some word) = Some (index_of name * 256 + word * 4 + slot)
place_by name slot word = None

-- The place of a step that takes or posts a word, by its node, the address of its word, and its
-- slot. A node has 256 places.
unfoldable pub place_of : Step → Option ℕ
place_of step =
    place_by step.node (slot_used step.place step.deed)
    (word_at (at_word step.place (step.p % 2 ^ 10) step.word))

abbrev pub is_at : ℕ → Step → Bool
is_at place step = option_map_or (λ at. at == place) (place_of step) false

-- ---- passes

abbrev pub NO_PASSES : Passes
NO_PASSES = record {
  count = 0;
  first = record { turn = 0; number = 0 };
  last = record { turn = 0; number = 0 };
}

abbrev pub moment_of : Step → Moment
moment_of step = record { turn = step.turn; number = step.number }

abbrev pub first_by : Passes → Moment → Moment
first_by old now = if old.count == 0 then now else old.first

-- one more step at a place
abbrev pub passed : Passes → Step → Passes
passed old step = record {
  count = more old.count 1;
  first = first_by old (moment_of step);
  last = moment_of step;
}

-- The passes through a place in the turns from a turn on.
abbrev pub passes_on : ℕ → ℕ → Passes → List Step → Passes
passes_on from place old [] = old
passes_on from place old (step ∷ steps) =
    passes_on from place
    (if nat_le from step.turn && is_at place step then passed old step else old) steps

abbrev pub passes_in : ℕ → ℕ → List Step → Passes
passes_in from place steps = passes_on from place NO_PASSES steps
