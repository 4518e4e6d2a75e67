-- What a word of memory is in the program of its node.
use Rattle.std.specs.Prelude.{ℕ, Option, Some, None, List, [], ◌∷◌, ◌++◌, codes}
use Rattle.std.specs.List.{concat, slice_get}
use Rattle.ga_word.specs.Hex.{hex_digits}
use Rattle.ga_place.specs.declared.address.Where.TheVariants.{Ram}
use Rattle.ga_pack.specs.Model.Layout.{Labels}
use Rattle.ga_asm.specs.Image.{ImageView, image_of}
use Rattle.ga_disasm.specs.Disassembling.{ItemView, items_of}
use Rattle.ga_list.specs.Reading.{reading_line}
use Rattle.ga_waits.specs.Label.{label_in, label_text}
use Rattle.ga_profile.specs.Share.{cell}

-- Its address, its label, and what it reads as. By the address only words at one address read
-- alike, so each node has at most one of them.
abbrev pub labelled : List ℕ → Labels → ℕ → ItemView → List ℕ
labelled label labels word item =
    concat (cell 6 (hex_digits 3 word) ∷ cell 15 label ∷ codes "  "
    ∷ reading_line labels word item ∷ [])

-- a word that wasn't loaded is nothing
abbrev pub labelled_if : List ℕ → Labels → ℕ → Option ItemView → List ℕ
labelled_if label labels word (Some item) = labelled label labels word item
labelled_if label labels word None = []

-- the word at an address of an image, behind its label
abbrev pub word_of_image : ImageView → List ℕ → ℕ → List ℕ
word_of_image image label word =
    labelled_if label image.labels word (slice_get (items_of image.code_len image.words) word)

abbrev pub word_of_node : Option ImageView → ℕ → List ℕ
word_of_node (Some image) word = word_of_image image (label_text image.labels word) word
word_of_node None word = []

-- What a word of memory was in the program of its node, in images. All other code is in none.
abbrev pub code_of : List (ℕ × ImageView) → ℕ → Option ℕ → List ℕ
code_of images name (Some word) = word_of_node (image_of images name) word
code_of images name None = []

-- the address of a word that wasn't loaded, with the label before it; a dot for all other code
abbrev pub unloaded_text : List (ℕ × ImageView) → ℕ → Option ℕ → List ℕ
unloaded_text images name (Some word) =
    cell 6 (hex_digits 3 word) ++ label_in (image_of images name) (Ram word) ++ codes "\n"
unloaded_text images name None = cell 6 (codes ".") ++ codes "\n"
