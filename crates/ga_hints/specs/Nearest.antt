-- The one of some names that is nearest to a word.
use Rattle.std.specs.Prelude.{ℕ, List, fold, length, nat_lt, Option, None, if◌then◌else◌}
use Rattle.std.specs.List.{find}
use Rattle.std.specs.Option.{option_or}
use Rattle.std.specs.Str.{str_eq_ignore_ascii_case}
use Rattle.ga_expand.specs.Constants.{is_among}
use Rattle.ga_nearest.specs.Nearest.{Found, nearer, nothing_near}

-- A name of one or two bytes is near to no other word: an edit leaves too little of it.
abbrev pub nearer_name : Found → List ℕ → Found
nearer_name found name = if nat_lt 2 (length name) then nearer found name else found

-- The first of the names that differs from a word only in the case of ASCII letters; or else the
-- first of those that are nearest to it, if one is near. A word that is one of the names isn't
-- meant as another one.
abbrev pub nearest_of : List ℕ → List (List ℕ) → Option (List ℕ)
nearest_of word names =
    if is_among names word then None
    else option_or (find (str_eq_ignore_ascii_case word) names)
    (fold nearer_name (nothing_near word) names).name
