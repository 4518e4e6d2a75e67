-- The boot stream of a tree, and of a route.
use Rattle.std.specs.Prelude.{◌≡◌, ℕ, ◌==◌, not, List, [], ◌∷◌, Option, Some, option_map, unwrap_or}
use Rattle.std.specs.List.{find}
use Rattle.std.specs.Map.{lookup}
use Rattle.ga_place.specs.Side.{side_to}
use Rattle.ga_place.specs.declared.side.Side.TheVariants.{Right}
use Rattle.ga_asm.specs.Image.{ImageView}
use Rattle.ga_place.specs.Node.{is_among}
use Rattle.ga_path.specs.Sequences.{Grove, Bare, Tree, part_words}
use Rattle.ga_path.specs.Tree.{NoMore, Subtree, Subtrees, TreeView, chain}
use Rattle.ga_path.specs.declared.error.BootError.{BootError}
use Rattle.ga_path.specs.declared.error.BootError.TheVariants.{Memory, Unreached}
use Rattle.ga_path.specs.declared.parts.Part.{Part}
use Rattle.ga_path.specs.declared.parts.Part.TheVariants.{Load, Start}

-- images by their nodes' names
abbrev pub Images : Type 0
Images = List (ℕ × ImageView)

-- the image of a node, if it has one
abbrev pub image_of : Images → ℕ → Option ImageView
image_of images name = lookup (λ other. name == other) images

-- the subtrees of a node with the sides at which they are reached, and the images of their nodes
abbrev pub grove : Images → ℕ → Subtrees → Grove
grove images from NoMore = Bare
grove images from (Subtree name inner beside) =
    Tree name (unwrap_or (side_to from name) Right) (image_of images name) (grove images name inner)
    (grove images from beside)

-- a part of the stream that boots a tree
abbrev pub tree_words : Part → Images → TreeView → List ℕ
tree_words part images tree =
    part_words part tree.root (image_of images tree.root) (grove images tree.root tree.subtrees)

-- all of it that loads the nodes of a tree, and all that starts them
abbrev pub tree_load : Images → TreeView → List ℕ
tree_load images tree = tree_words Load images tree

abbrev pub tree_start : Images → TreeView → List ℕ
tree_start images tree = tree_words Start images tree

-- a part of the stream that boots a route, the load part or the start part
abbrev pub route_words : Part → Images → List ℕ → List ℕ
route_words part images [] = []
route_words part images (root ∷ names) =
    part_words part root (image_of images root) (grove images root (chain names))

-- the first node in the images' order that isn't among the nodes of a route or of a tree
abbrev pub unreached : Images → List ℕ → Option ℕ
unreached images nodes =
    option_map (λ entry. entry.0) (find (λ entry. not (is_among entry.0 nodes)) images)

-- The fault of images for the nodes of a route or of a tree. Want of memory is none.
abbrev pub IsBootFault : Images → List ℕ → BootError → Type 0
IsBootFault images nodes Memory = Unit
IsBootFault images nodes (Unreached node) = unreached images nodes ≡ Some node
