-- How often each word of a node's memory is fetched and each slot's opcode run, by the steps of a
-- run.
use Rattle.std.specs.Prelude.{ℕ, ◌+◌, ◌-◌, ◌*◌, ◌%◌, ◌^◌, ◌==◌, Bool, false, List, [], ◌∷◌, Option, Some, None, get_or, map, min, reverse, if◌then◌else◌}
use Rattle.std.specs.List.{range_with_len}
use Rattle.std.specs.Option.{option_map, option_map_or}
use Rattle.ga_place.specs.Address.{where_is}
use Rattle.ga_place.specs.Cell.{index_of}
use Rattle.ga_place.specs.declared.address.Where.{Where}
use Rattle.ga_place.specs.declared.address.Where.TheVariants.{Ram}
use Rattle.ga_node.specs.State.{is_fetch}
use Rattle.ga_node.specs.declared.place.Place.{Place}
use Rattle.ga_node.specs.declared.place.Place.TheVariants.{Fetch, Slot0, Slot1, Slot2, Slot3}
use Rattle.ga_chip.specs.Chip.{Chip}
use Rattle.ga_observe.specs.Seen.{steps_seen, turns_numbered}
use Rattle.ga_observe.specs.declared.step.Deed.{Deed}
use Rattle.ga_observe.specs.declared.step.Deed.TheVariants.{SawRead}
use Rattle.ga_observe.specs.declared.step.Step.{Step}
use Rattle.ga_counts.specs.declared.word_counts.WordCounts.{WordCounts}

abbrev pub NO_COUNTS : WordCounts
NO_COUNTS = record { fetches = 0; slot0 = 0; slot1 = 0; slot2 = 0; slot3 = 0 }

-- a count stays at the largest number of 64 bits
abbrev pub more : ℕ → ℕ
more count = min (count + 1) (2 ^ 64 - 1)

-- one more step at a place of a word
abbrev pub one_more : WordCounts → Place → WordCounts
one_more counts Fetch = record counts { fetches = more counts.fetches }
one_more counts Slot0 = record counts { slot0 = more counts.slot0 }
one_more counts Slot1 = record counts { slot1 = more counts.slot1 }
one_more counts Slot2 = record counts { slot2 = more counts.slot2 }
one_more counts Slot3 = record counts { slot3 = more counts.slot3 }
one_more counts place = counts

-- ---- the word of a step

abbrev pub word_in : Where → Option ℕ
word_in (Ram index) = Some index
word_in at = None

-- the word of memory at an address
abbrev pub word_at : ℕ → Option ℕ
word_at address = word_in (where_is address)

-- The word of memory that a node has in execution after a step: a fetch replaces it, by none if it
-- takes the word from a port or from ROM.
abbrev pub word_after : Option ℕ → Step → Option ℕ
word_after word step = if is_fetch step.place then word_at step.p else word

-- And after some steps, the last one first: none before the node's first fetch.
abbrev pub word_behind : ℕ → List Step → Option ℕ
word_behind name [] = None
word_behind name (step ∷ earlier) =
    if step.node == name then word_after (word_behind name earlier) step
    else word_behind name earlier

-- The word that a step counts for. The check of a post counts nowhere: its opcode ran by the step
-- that posted.
abbrev pub word_counted : Option ℕ → Deed → Option ℕ
word_counted word (SawRead side) = None
word_counted word deed = word

-- ---- the counts of all words

-- the place of a word of a node among all: 64 for each node, in order of name
abbrev pub place_of : ℕ → ℕ → ℕ
place_of name word = index_of name * 64 + word % 64

-- the place at which a step counts, by the steps before it, the last one first
abbrev pub place_counted : Step → List Step → Option ℕ
place_counted step earlier =
    option_map (place_of step.node)
    (word_counted (word_after (word_behind step.node earlier) step) step.deed)

abbrev pub is_at : ℕ → Step → List Step → Bool
is_at place step earlier =
    option_map_or (λ at. at == place) (place_counted step earlier) false

-- The counts of the word at a place, by some steps, the last one first.
abbrev pub counts_behind : ℕ → List Step → WordCounts
counts_behind place [] = NO_COUNTS
counts_behind place (step ∷ earlier) =
    if is_at place step earlier then one_more (counts_behind place earlier) step.place
    else counts_behind place earlier

-- The counts of all words by the steps of a number of turns of a chip.
unfoldable pub counts_of : ℕ → Chip → List WordCounts
counts_of turns chip =
    map (λ place. counts_behind place (reverse (steps_seen chip (turns_numbered turns))))
    (range_with_len 0 9216)

-- the counts of a word of a node, among those of all
abbrev pub word_counts : List WordCounts → ℕ → ℕ → WordCounts
word_counts words name word = get_or words (place_of name word) NO_COUNTS
