-- The labels of a source text.
use Rattle.std.specs.Prelude.{◌≡◌, ℕ, List, [], ◌∷◌, ◌++◌, Result, Ok, Err}
use Rattle.ga_word.specs.Hex.{hex_digits}
use Rattle.ga_place.specs.Node.{node_text}
use Rattle.ga_pack.specs.Model.Layout.{Labels}
use Rattle.ga_asm.specs.Image.{ImageView}
use Rattle.ga_asm.specs.Text.{HasImages, IsTextFault}
use Rattle.ga_asm.specs.declared.text.TextError.{TextError}

-- a line for each label of a node: the node, the label's name and its address
abbrev pub labels_of_node : ℕ → Labels → List ℕ
labels_of_node node [] = []
labels_of_node node (label ∷ labels) =
    (node_text node ++ 32 ∷ (label.0 ++ 32 ∷ (hex_digits 3 label.1 ++ 10 ∷ [])))
    ++ labels_of_node node labels

abbrev pub labels_of_images : List (ℕ × ImageView) → List ℕ
labels_of_images [] = []
labels_of_images (image ∷ images) = labels_of_node image.0 image.1.labels ++ labels_of_images images

-- the labels of a text's images
pub record HasLabels (text labels : List ℕ) : Type 0 where
  pub images : List (ℕ × ImageView)
  pub images_are : HasImages text images
  pub labels_are : labels ≡ labels_of_images images

-- the labels of a text, or its first fault
abbrev pub AreLabelsOf : List ℕ → Result (List ℕ) TextError → Type 0
AreLabelsOf text (Ok labels) = HasLabels text labels
AreLabelsOf text (Err fault) = IsTextFault text fault
