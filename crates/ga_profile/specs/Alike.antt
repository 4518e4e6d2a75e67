-- The words of memory of the path, those of several nodes that read alike together. A line is a
-- word of memory of a node, or all its other code; it goes by its number, `kind`. `paths` are the
-- turns of each node on the path, and `lines` those of each line.
use Rattle.std.specs.Prelude.{ℕ, zero, suc, ◌+◌, ◌-◌, ◌/◌, ◌%◌, ◌==◌, Bool, ◌||◌, ◌&&◌, not, List, [], ◌∷◌, get_or, length, map, unwrap_or, if◌then◌else◌}
use Rattle.std.specs.List.{flat_map, range_with_len, slice_get}
use Rattle.std.specs.Str.{bytes_eq}
use Rattle.ga_place.specs.Cell.{name_at}
use Rattle.ga_asm.specs.Image.{ImageView}
use Rattle.ga_profile.specs.declared.alike.LineGroup.{LineGroup}
use Rattle.ga_profile.specs.Code.{code_of}
use Rattle.ga_profile.specs.Lines.{word_of}
use Rattle.ga_profile.specs.NodeTurns.{more}
use Rattle.ga_profile.specs.Rank.{ranked}

-- ---- the code of each line

-- a line without turns on the path needs none
abbrev pub code_if : List (ℕ × ImageView) → List ℕ → ℕ → ℕ → List ℕ
code_if images paths kind turns =
    if turns == 0 then []
    else code_of images (name_at (ranked paths (kind / 65))) (word_of (kind % 65))

unfoldable pub codes_of : List (ℕ × ImageView) → List ℕ → List ℕ → List (List ℕ)
codes_of images paths lines =
    map (λ kind. code_if images paths kind (get_or lines kind 0)) (range_with_len 0 650)

-- ---- lines that are alike

abbrev pub code_at : List (List ℕ) → ℕ → List ℕ
code_at codes kind = unwrap_or (slice_get codes kind) []

-- two lines read alike: both have one code, which was loaded
abbrev pub is_same : List ℕ → List ℕ → Bool
is_same code other = not (length code == 0) && bytes_eq code other

-- a line is like itself, and like one that reads alike
abbrev pub is_alike : List (List ℕ) → ℕ → ℕ → Bool
is_alike codes one other =
    (one == other) || is_same (code_at codes one) (code_at codes other)

abbrev pub alike_in : List (List ℕ) → ℕ → ℕ → ℕ
alike_in codes kind zero = 0
alike_in codes kind (suc other) =
    alike_in codes kind other + (if is_alike codes kind other then 1 else 0)

-- How many of the first lines are like one.
unfoldable pub alike_among : List (List ℕ) → ℕ → ℕ → ℕ
alike_among codes kind count = alike_in codes kind count

abbrev pub turns_in : List (List ℕ) → List ℕ → ℕ → ℕ → ℕ
turns_in codes lines kind zero = 0
turns_in codes lines kind (suc other) =
    if is_alike codes kind other
    then more (turns_in codes lines kind other) (get_or lines other 0)
    else turns_in codes lines kind other

-- How many turns the lines have that are like one.
unfoldable pub turns_alike : List (List ℕ) → List ℕ → ℕ → ℕ
turns_alike codes lines kind = turns_in codes lines kind (length lines)

-- the turns of the group of a line, if no line before it is in it
abbrev pub turns_at : List (List ℕ) → List ℕ → ℕ → ℕ
turns_at codes lines kind =
    if alike_among codes kind kind == 0 then turns_alike codes lines kind else 0

unfoldable pub group_turns : List (List ℕ) → List ℕ → List ℕ
group_turns codes lines = map (turns_at codes lines) (range_with_len 0 650)

-- ---- those with the most turns

-- The group of a line, if it has turns. The others are those that are like the line, less itself.
abbrev pub group_if : List (List ℕ) → List ℕ → ℕ → ℕ → List LineGroup
group_if codes paths kind turns =
    if turns == 0 then []
    else record {
      first = record {
        node = name_at (ranked paths (kind / 65));
        word = word_of (kind % 65);
        turns = turns;
      };
      others = alike_among codes kind (length codes) - 1;
    } ∷ []

-- the group of a rank
abbrev pub group_at : List (List ℕ) → List ℕ → List ℕ → ℕ → List LineGroup
group_at codes paths turns rank =
    let kind = ranked turns rank in group_if codes paths kind (get_or turns kind 0)

abbrev pub ranked_groups : List (List ℕ) → List ℕ → List ℕ → List LineGroup
ranked_groups codes paths turns = flat_map (group_at codes paths turns) (range_with_len 0 10)

-- The ten with the most turns, the most first.
unfoldable pub path_groups : List (ℕ × ImageView) → List ℕ → List ℕ → List LineGroup
path_groups images paths lines =
    let codes = codes_of images paths lines in
    ranked_groups codes paths (group_turns codes lines)
