-- Which identifier a text in VCD declares for a variable of a scope.
--
-- These are the format's own rules too, as those of Reading.
use Rattle.std.specs.Prelude.{ℕ, ◌&&◌, Bool, true, false, List, [], ◌∷◌, ◌++◌, codes, drop, Option, Some, None, if◌then◌else◌}
use Rattle.std.specs.List.{slice_split}
use Rattle.std.specs.Option.{option_and_then, option_or, option_to_list}
use Rattle.std.specs.Str.{bytes_eq}
use Rattle.ga_word.specs.Text.{is_blank}
use Rattle.ga_wave.specs.Reading.{LAST_DECLARATION, lines_in}

-- the parts of a line between blanks
abbrev pub words_in : List ℕ → List (List ℕ)
words_in line = slice_split is_blank line

-- ---- scopes

-- the name of the scope that a line opens: `$scope`, its type, its name, `$end`
abbrev pub scope_in : List (List ℕ) → Option (List ℕ)
scope_in (mark ∷ kind ∷ name ∷ end ∷ []) =
    if bytes_eq mark (codes "$scope") then Some name else None
scope_in words = None

-- whether it closes the innermost one: `$upscope`, `$end`
abbrev pub closes_scope : List (List ℕ) → Bool
closes_scope (mark ∷ end ∷ []) = bytes_eq mark (codes "$upscope")
closes_scope words = false

-- the names of the open scopes behind a line, the innermost one first
abbrev pub scopes_behind : List (List ℕ) → List (List ℕ) → List (List ℕ)
scopes_behind scopes words =
    if closes_scope words then drop 1 scopes else option_to_list (scope_in words) ++ scopes

-- both are the same scope
abbrev pub same_scope : List (List ℕ) → List (List ℕ) → Bool
same_scope [] [] = true
same_scope (one ∷ ones) (other ∷ others) = bytes_eq one other && same_scope ones others
same_scope ones others = false

-- ---- variables

-- the name of the variable that a line declares, and its identifier: `$var`, its type, its size,
-- its identifier, its name, maybe its bits, `$end`
abbrev pub variable_in : List (List ℕ) → Option (List ℕ × List ℕ)
variable_in (mark ∷ kind ∷ size ∷ identifier ∷ name ∷ more) =
    if bytes_eq mark (codes "$var") then Some (name, identifier) else None
variable_in words = None

-- the identifier of the variable of this name, if a line declares it
abbrev pub identifier_in : List ℕ → List (List ℕ) → Option (List ℕ)
identifier_in name words =
    option_and_then
    (λ variable. if bytes_eq variable.0 name then Some variable.1 else None) (variable_in words)

-- what the first of some lines that declares the variable of this name in this scope has, up to the
-- end of the declarations, by the scopes that are open in front of them
abbrev pub first_declared : List (List ℕ) → List ℕ → List (List ℕ) → List (List ℕ)
    → Option (List ℕ)
first_declared scope name scopes [] = None
first_declared scope name scopes (line ∷ lines) =
    if bytes_eq line LAST_DECLARATION then None
    else option_or
    (if same_scope scopes scope then identifier_in name (words_in line) else None)
    (first_declared scope name (scopes_behind scopes (words_in line)) lines)

-- The identifier that a text declares for the variable of a name in a scope, which is given by the
-- names of the scopes that it is in, the innermost one first.
unfoldable pub declared_identifier : List ℕ → List (List ℕ) → List ℕ → Option (List ℕ)
declared_identifier text scope name = first_declared scope name [] (lines_in text)
