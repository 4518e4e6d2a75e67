-- The sentences of the headline that are no clause of another law.
use Rattle.std.specs.Prelude.{◌≡◌, ◌++◌, ◌∷◌, ℕ, List, [], Option, Some, None}
use Rattle.ga_pack.specs.Model.Layout.{Laid}
use Rattle.ga_pack.specs.Model.LayoutFault.{plain_items}
use Rattle.ga_pack.specs.Model.Program.{PlacedSection}
use Rattle.ga_place.specs.Node.{IsNodeName}
use Rattle.ga_place.specs.declared.side.Side.{Side}
use Rattle.ga_asm.specs.Image.{ImageView}
use Rattle.ga_asm.specs.Text.{HasImages}
use Rattle.ga_disasm.specs.Disassembling.{items_of}
use Rattle.ga_disasm.specs.Instructions.{named_items}
use Rattle.ga_path.specs.Stream.{Images, grove, image_of, tree_load, tree_start, unreached}
use Rattle.ga_path.specs.Tree.{IsSound, TreeView}
use Rattle.ga_node.specs.Slot.{step}
use Rattle.ga_chip.specs.Chip.{Chip, found_by, part_of, state_of, tried}
use Rattle.ga_chip.specs.Legal.{IsLegal}
use Rattle.ga_chip.specs.Part.{Asks, Feed, Part, Take, asks}
use Rattle.ga_chip.specs.Run.{Event, ran}
use Rattle.ga_chip.specs.declared.outcome.Outcome.TheVariants.{Moved}
use Rattle.ga_boot.specs.Boot.{Begun, Holds, IsSupplied, LoadTaken, RootBegun}
use Rattle.ga_boot.specs.Tree.{Place, found, places}

-- the word that a step gets from outside: the one that a take found pending, or the next one of the
-- stream
abbrev pub got : Asks → Option ℕ → Option ℕ
got (Take side cell) found = found
got (Feed word) found = Some word
got _ found = None

-- A try makes one step of its node: the row of the table for the node's state and the word that the
-- step gets. All other nodes stay as they are.
pub record MakesRow (chip : Chip) (name : ℕ) (side : Side) : Type 0 where
  pub part : Part
  pub there : part_of chip name ≡ Some part
  pub row : state_of (tried chip name side).1 name
      ≡ Some (step part.state (got (asks part side) (found_by (asks part side) chip.cells)))
  pub others : (other : ℕ) → (other ≡ name → ⊥)
      → part_of (tried chip name side).1 other ≡ part_of chip other

-- Each step of each node is its row of the table, at each moment of every run of a legal chip.
abbrev pub StepsAreRows : Type 0
StepsAreRows = (chip : Chip) (events : List Event) (name : ℕ) (side : Side) → IsLegal chip
    → (tried (ran chip events) name side).0 ≡ Moved → MakesRow (ran chip events) name side

-- The instructions of each image's words are those that the layout of its section's items names,
-- with only fillers added.
abbrev pub GiveBack : List PlacedSection → Images → Type 0
GiveBack [] [] = Unit {0}
GiveBack [] (image ∷ images) = ⊥
GiveBack (section ∷ sections) [] = ⊥
GiveBack (section ∷ sections) (image ∷ images) =
    ((laid : Laid (plain_items section) image.1.words image.1.labels image.1.code_len)
    → items_of image.1.code_len image.1.words ≡ named_items image.1.labels laid.groups)
    × GiveBack sections images

-- Disassembling the assembled words gives back the instructions.
abbrev pub WordsGiveBack : Type 0
WordsGiveBack = (text : List ℕ) (images : Images) (assembled : HasImages text images)
    → GiveBack assembled.program images

-- a node of a tree has started: the root, or another by its place in the tree
abbrev pub begun_by : Option Place → Chip → Images → TreeView → List Event → Type 0
begun_by (Some p) chip images tree events = Begun chip p events
begun_by None chip images tree events =
    RootBegun chip tree.root (image_of images tree.root)
    (grove images tree.root tree.subtrees) events

abbrev pub HasBegun : Chip → Images → TreeView → List Event → ℕ → Type 0
HasBegun chip images tree events name =
    begun_by (found name (places tree.root (grove images tree.root tree.subtrees))) chip images tree
    events

-- In every run of a chip that boots a tree of routes with the images of a text: once the load part
-- was taken whole, each node with an image holds it until it begins.
abbrev pub BootsHold : Type 0
BootsHold =
    (text : List ℕ) (images : Images) (tree : TreeView) (chip : Chip) (events : List Event)
    → HasImages text images
    → IsNodeName tree.root → IsSound tree → unreached images tree.nodes ≡ None
    → IsSupplied chip tree.root (tree_load images tree ++ tree_start images tree) events
    → (name : ℕ) (image : ImageView) (now : Part) → image_of images name ≡ Some image
    → part_of (ran chip events) name ≡ Some now
    → LoadTaken chip tree.root (image_of images tree.root)
    (grove images tree.root tree.subtrees) events
    → (HasBegun chip images tree events name → ⊥) → Holds now.state (Some image)
