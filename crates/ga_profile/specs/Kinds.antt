-- Kinds of steps: by node, or by the word in execution.
use Rattle.std.specs.Prelude.{ℕ, ◌+◌, ◌*◌, ◌%◌, ◌^◌, get_or, min, unwrap_or}
use Rattle.ga_place.specs.Cell.{index_of}
use Rattle.ga_observe.specs.declared.step.Step.{Step}
use Rattle.ga_trace.specs.At.{at_word}
use Rattle.ga_profile.specs.declared.kinds.Kinds.{Kinds}
use Rattle.ga_profile.specs.declared.kinds.Kinds.TheVariants.{Nodes, Lines}
use Rattle.ga_profile.specs.Passes.{word_at}

-- the word of memory that a step stands at, or 64 if it is at none
abbrev pub word_kind : Step → ℕ
word_kind step = unwrap_or (word_at (at_word step.place (step.p % 2 ^ 10) step.word)) 64

-- The kind of a step: the index of its node; or 65 kinds for each of the ten nodes of the ranks 0
-- to 9, one for each word and one for all other code. All other nodes come behind these.
abbrev pub kind_of : Kinds → Step → ℕ
kind_of Nodes step = index_of step.node
kind_of (Lines ranks) step = min (get_or ranks (index_of step.node) 0) 10 * 65 + word_kind step
