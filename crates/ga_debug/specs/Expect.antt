-- Values that are expected of a node.
use Rattle.std.specs.Prelude.{ℕ, ◌+◌, Bool, true, false, ◌&&◌, List, [], ◌∷◌, ◌++◌, codes, get_or, nat_lt, Option, Some, None, if◌then◌else◌}
use Rattle.ga_chip.specs.Chip.{Chip}
use Rattle.ga_trace.specs.What.{same_value, value_of, value_text}
use Rattle.ga_trace.specs.declared.what.Value.{Value}
use Rattle.ga_trace.specs.declared.what.What.{What}
use Rattle.ga_trace.specs.declared.what.What.TheVariants.{Memory}

-- what has the value behind this one: of a word of memory the next word
abbrev pub next_what : What → What
next_what (Memory address) =
    Memory (if nat_lt address 0x1FF then address + 1 else address)
next_what other = other

-- whether a node shows some values, one after another
abbrev pub shows : ℕ → What → List (Option Value) → Chip → Bool
shows node what [] chip = true
shows node what (None ∷ values) chip = true
shows node what (Some value ∷ values) chip =
    same_value value (value_of what node chip) && shows node (next_what what) values chip

-- the values that are expected, and those that are shown, each behind a blank
abbrev pub values_text : List (Option Value) → List ℕ
values_text [] = []
values_text (None ∷ values) = []
values_text (Some value ∷ values) = 32 ∷ value_text value ++ values_text values

abbrev pub shown_text : ℕ → What → List (Option Value) → Chip → List ℕ
shown_text node what [] chip = []
shown_text node what (None ∷ values) chip = []
shown_text node what (Some value ∷ values) chip =
    32 ∷ value_text (value_of what node chip) ++ shown_text node (next_what what) values chip

unfoldable pub expected_text : ℕ → What → List (Option Value) → Chip → List ℕ
expected_text node what values chip =
    if shows node what values chip then codes "ok"
    else
    codes "expected" ++ values_text values ++ codes ", is" ++ shown_text node what values chip

-- the value that is waited for, if there is one
abbrev pub goal_of : List (Option Value) → Option Value
goal_of values = get_or values 0 None
