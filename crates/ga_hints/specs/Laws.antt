-- A law of the definitions.
use Rattle.std.specs.Prelude.{◌≡◌, ◌-◌, List, length}
use Rattle.ga_pack.specs.Model.Source.{Item}
use Rattle.ga_asm.specs.Image.{ImageView, IsImage}
use Rattle.ga_hints.specs.Size.{size_of}

-- items that have an image have the size of the image
abbrev pub SizesOfImages : Type 0
SizesOfImages =
    (items : List Item) (image : ImageView) → IsImage items image
    → size_of items
    ≡ record { code = image.code_len; «data» = length image.words - image.code_len }
