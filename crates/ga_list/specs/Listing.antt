-- The listing of a source text.
use Rattle.std.specs.Prelude.{◌≡◌, ℕ, suc, List, [], ◌∷◌, ◌++◌, Result, Ok, Err}
use Rattle.ga_pack.specs.Model.Program.{PlacedSection}
use Rattle.ga_pack.specs.Model.Text.{Place}
use Rattle.ga_source.specs.Program.{items_at}
use Rattle.ga_asm.specs.Image.{ImageView, image_line}
use Rattle.ga_asm.specs.Places.{word_places}
use Rattle.ga_asm.specs.Text.{HasImages, IsTextFault}
use Rattle.ga_asm.specs.declared.text.TextError.{TextError}
use Rattle.ga_list.specs.LineNames.{LineNames, line_number}
use Rattle.ga_list.specs.Row.{rows_of}

-- the line of a node's image, and those of its words, which begin at these places of the text
abbrev pub node_listing : LineNames → ℕ → ImageView → List Place → List ℕ
node_listing names node image places = image_line node image ++ rows_of names image places

-- the listing of images, of which the first is that of the program's section with this number
abbrev pub listing_from : LineNames → List PlacedSection → ℕ → List (ℕ × ImageView) → List ℕ
listing_from names program section [] = []
listing_from names program section (image ∷ images) =
    node_listing names image.0 image.1
    (word_places image.1.item_counts (items_at program section))
    ++ listing_from names program (suc section) images

-- the listing of a text that shows its lines by these names: that of its images, in the order of
-- its sections
pub record HasNamedListing (names : LineNames) (text listing : List ℕ) : Type 0 where
  pub images : List (ℕ × ImageView)
  pub images_are : HasImages text images
  pub listing_is : listing ≡ listing_from names images_are.program 0 images

-- that listing, or the first fault of the text
abbrev pub IsNamedListingOf : LineNames → List ℕ → Result (List ℕ) TextError → Type 0
IsNamedListingOf names text (Ok listing) = HasNamedListing names text listing
IsNamedListingOf names text (Err fault) = IsTextFault text fault

-- the listing of a text that shows its lines by their numbers
abbrev pub HasListing : List ℕ → List ℕ → Type 0
HasListing = HasNamedListing line_number

-- that listing, or the first fault of the text
abbrev pub IsListingOf : List ℕ → Result (List ℕ) TextError → Type 0
IsListingOf = IsNamedListingOf line_number
