-- What an observer keeps of a run.
use Rattle.std.specs.Prelude.{◌≡◌, ℕ, ◌<◌, List, Option, None, get_or, reverse}
use Rattle.ga_place.specs.Cell.{name_at}
use Rattle.ga_observe.specs.declared.step.Step.{Step}
use Rattle.ga_counts.specs.declared.word_counts.WordCounts.{WordCounts}
use Rattle.ga_counts.specs.Counts.{NO_COUNTS, counts_behind, word_behind}

-- These are the words that the nodes have in execution, in order of name, and the counts of all
-- words.
pub record Kept (executed : List (Option ℕ)) (words : List WordCounts) (steps : List Step)
    : Type 0 where
  pub nodes : (index : ℕ) → index < 144
      → get_or executed index None ≡ word_behind (name_at index) (reverse steps)
  pub places : (place : ℕ) → place < 9216
      → get_or words place NO_COUNTS ≡ counts_behind place (reverse steps)
