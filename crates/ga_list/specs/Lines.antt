-- The line of a text in which a word begins.
use Rattle.std.specs.Prelude.{ℕ, suc, ◌==◌, List, [], ◌∷◌, Option, None, option_map, slice_get, if◌then◌else◌}
use Rattle.ga_asm.specs.Image.{ImageView}
use Rattle.ga_asm.specs.Places.{word_places}
use Rattle.ga_pack.specs.Model.Program.{PlacedSection}
use Rattle.ga_pack.specs.Model.Text.{Place}
use Rattle.ga_source.specs.Program.{items_at}

-- The line in which the word at an address of a node begins, if a node of this name has an image
-- with such a word. The first image is that of the program's section with this number.
abbrev pub line_from : List PlacedSection → ℕ → List (ℕ × ImageView) → ℕ → ℕ → Option ℕ
line_from program section [] node address = None
line_from program section (image ∷ images) node address =
    if image.0 == node
    then option_map (λ (place : Place). place.line)
    (slice_get (word_places image.1.item_counts (items_at program section)) address)
    else line_from program (suc section) images node address
