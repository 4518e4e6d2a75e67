-- The name that is nearest to a word.
use Rattle.std.specs.Prelude.{ℕ, ◌+◌, ◌/◌, nat_lt, max, min, List, length, Option, Some, None, if◌then◌else◌}
use Rattle.std.specs.Str.{chars}
use Rattle.strsim.specs.Edits.{osa_table}

-- how many edits lead from a word to a name; a swap of two neighbours is one
abbrev pub edits : List ℕ → List ℕ → ℕ
edits word name = (osa_table (chars word) (chars name)).last_row (length (chars name))

-- the name found for a word, and how many edits are too many for a nearer one
pub record Found : Type 0 where
  pub word : List ℕ
  pub below : ℕ
  pub name : Option (List ℕ)

-- How many edits of a word are too many: a third of it may be edited, or one letter, but not all of
-- it. Nothing is near a word of over 24 bytes.
abbrev pub too_many : List ℕ → ℕ
too_many word =
    if nat_lt 24 (length word) then 0 else min (length word) (max (length word) 3 / 3 + 1)

abbrev pub nothing_near : List ℕ → Found
nothing_near word = record { word = word; below = too_many word; name = None }

-- one more name is found if fewer edits lead to it
abbrev pub nearer : Found → List ℕ → Found
nearer found name =
    if nat_lt (edits found.word name) found.below
    then record found { below = edits found.word name; name = Some name }
    else found
