-- Which file a name in another file means.
use Rattle.std.specs.Prelude.{◌==◌, ◌&&◌, ℕ, Bool, List, [], ◌∷◌, ◌++◌, codes, nat_eq, not, if◌then◌else◌}
use Rattle.std.specs.List.{list_any, slice_split, starts_with}
use Rattle.std.specs.Str.{bytes_eq}

abbrev pub is_absolute : List ℕ → Bool
is_absolute name = starts_with nat_eq name (codes "/")

-- the parts of a file's name between its `/`
abbrev pub parts_of : List ℕ → List (List ℕ)
parts_of name = slice_split (λ c. c == 47) name

-- a part of a file's name is that of the folder above
abbrev pub leads_up : List ℕ → Bool
leads_up name = list_any (λ part. bytes_eq part (codes "..")) (parts_of name)

-- a name in a file means a file in its folder, or below: it doesn't begin with `/`, and leads to no
-- folder above
abbrev pub is_below : List ℕ → Bool
is_below name = not (is_absolute name) && not (leads_up name)

-- the parts before the last one, each with `/` behind it
abbrev pub folder_of : List (List ℕ) → List ℕ
folder_of [] = []
folder_of (part ∷ []) = []
folder_of (part ∷ next ∷ parts) = part ++ 47 ∷ folder_of (next ∷ parts)

-- a name in a file is relative to the folder of that file, unless it begins with `/`
abbrev pub source_path : List ℕ → List ℕ → List ℕ
source_path file name = if is_absolute name then name else folder_of (parts_of file) ++ name
