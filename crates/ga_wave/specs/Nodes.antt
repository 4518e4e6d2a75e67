-- The nodes of a program.
use Rattle.std.specs.Prelude.{ℕ, List, [], ◌∷◌, is_some, if◌then◌else◌}
use Rattle.std.specs.List.{flat_map, range_with_len}
use Rattle.ga_place.specs.Cell.{name_at}
use Rattle.ga_asm.specs.Image.{ImageView, image_of}

-- the nodes that have an image, in order of name
abbrev pub if_image : List (ℕ × ImageView) → ℕ → List ℕ
if_image images name = if is_some (image_of images name) then name ∷ [] else []

abbrev pub names_with_image : List (ℕ × ImageView) → List ℕ
names_with_image images =
    flat_map (λ index. if_image images (name_at index)) (range_with_len 0 144)
