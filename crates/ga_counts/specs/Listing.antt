-- The listing of a source text, with its counts.
use Rattle.std.specs.Prelude.{◌≡◌, ◌==◌, ◌&&◌, ℕ, suc, Bool, nat_eq, Option, Some, None, List, [], ◌∷◌, ◌++◌, Result, Ok, Err, if◌then◌else◌, string_bytes}
use Rattle.std.specs.Cmp.Lexicographic.{pointwise}
use Rattle.std.specs.List.{flat_map}
use Rattle.ga_pack.specs.Model.Program.{PlacedSection}
use Rattle.ga_pack.specs.Model.Text.{Place}
use Rattle.ga_source.specs.Program.{items_at}
use Rattle.ga_asm.specs.Image.{ImageView, image_line}
use Rattle.ga_asm.specs.Places.{word_places}
use Rattle.ga_asm.specs.Text.{HasImages, IsTextFault}
use Rattle.ga_asm.specs.declared.text.TextError.{TextError}
use Rattle.ga_counts.specs.declared.section.CountedSection.{CountedSection}
use Rattle.ga_counts.specs.declared.word_counts.WordCounts.{WordCounts}
use Rattle.ga_counts.specs.Columns.{HEAD}
use Rattle.ga_counts.specs.Row.{rows_of}

-- The listing of a node: the line of its image, and the lines behind that; and the first node in
-- front of it that has the same program, if one has.
pub record SectionView : Type 0 where
  pub node : ℕ
  pub same_as : Option ℕ
  pub line : List ℕ
  pub rows : List ℕ

abbrev pub section_view : CountedSection → SectionView
section_view section = record {
  node = section.node;
  same_as = section.same_as;
  line = string_bytes section.line;
  rows = string_bytes section.rows;
}

-- two images are the same program: they have the same words and the same entry
abbrev pub is_same_program : ImageView → ImageView → Bool
is_same_program one other =
    pointwise nat_eq one.words other.words && (one.entry == other.entry)

-- the first node in front of a node that has the same program
abbrev pub same_before : List (ℕ × ImageView) → ℕ → ImageView → Option ℕ
same_before [] name image = None
same_before (other ∷ images) name image =
    if other.0 == name then None
    else if is_same_program other.1 image then Some other.0 else same_before images name image

-- the heads of the columns, and the lines of a node's words, which begin at these places of the
-- text
abbrev pub node_rows : List WordCounts → ℕ → ℕ → ImageView → List Place → List ℕ
node_rows counts before name image places = HEAD ++ rows_of counts name places before image

-- the listing of a node of a program
abbrev pub section_of : List WordCounts → ℕ → List (ℕ × ImageView) → ℕ → ImageView → List Place
    → SectionView
section_of counts before images name image places = record {
  node = name;
  same_as = same_before images name image;
  line = image_line name image;
  rows = node_rows counts before name image places;
}

-- the listings of some of these images, of which the first is that of the program's section with
-- this number
abbrev pub sections_from : List WordCounts → ℕ → List PlacedSection → List (ℕ × ImageView) → ℕ
    → List (ℕ × ImageView) → List SectionView
sections_from counts before program all section [] = []
sections_from counts before program all section (image ∷ images) =
    section_of counts before all image.0 image.1
    (word_places image.1.item_counts (items_at program section))
    ∷ sections_from counts before program all (suc section) images

-- the listings of a text's nodes with these counts, and as many lines before it: those of its
-- images, in the order of its sections
pub record HasCountedSections (text : List ℕ) (before : ℕ) (counts : List WordCounts)
    (sections : List SectionView) : Type 0 where
  pub images : List (ℕ × ImageView)
  pub images_are : HasImages text images
  pub sections_are : sections ≡ sections_from counts before images_are.program images 0 images

-- the text of a node's listing
abbrev pub section_text : SectionView → List ℕ
section_text section = section.line ++ section.rows

abbrev pub listing_of : List SectionView → List ℕ
listing_of sections = flat_map section_text sections

-- the listing of the text: those of its nodes, one behind the other
pub record HasCountedListing (text : List ℕ) (before : ℕ) (counts : List WordCounts)
    (listing : List ℕ) : Type 0 where
  pub sections : List SectionView
  pub sections_are : HasCountedSections text before counts sections
  pub listing_is : listing ≡ listing_of sections

-- the listings of a text's nodes, or its first fault
abbrev pub AreCountedSectionsOf : List ℕ → ℕ → List WordCounts
    → Result (List SectionView) TextError → Type 0
AreCountedSectionsOf text before counts (Ok sections) =
    HasCountedSections text before counts sections
AreCountedSectionsOf text before counts (Err fault) = IsTextFault text fault

-- the listing of a text, or its first fault
abbrev pub IsCountedListingOf : List ℕ → ℕ → List WordCounts → Result (List ℕ) TextError → Type 0
IsCountedListingOf text before counts (Ok listing) = HasCountedListing text before counts listing
IsCountedListingOf text before counts (Err fault) = IsTextFault text fault
