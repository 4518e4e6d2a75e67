-- Boot in every schedule.
use Rattle.std.specs.Prelude.{◌≡◌, ◌++◌, ℕ, List, [], ◌∷◌, ◌⊎◌, All, drop, is_some, if◌then◌else◌, Option, Some}
use Rattle.ga_asm.specs.Image.{ImageView}
use Rattle.ga_path.specs.Stream.{Images, grove, image_of, tree_load, tree_start}
use Rattle.ga_path.specs.Tree.{IsSound, TreeView}
use Rattle.ga_place.specs.Node.{IsNodeName}
use Rattle.ga_path.specs.Sequences.{Grove, jump_to, start_address}
use Rattle.ga_place.specs.declared.side.Side.{Side}
use Rattle.ga_chip.specs.Chip.{Chip, part_of}
use Rattle.ga_chip.specs.Laws.{Agree, IsPrefix}
use Rattle.ga_chip.specs.Legal.{DifferInBreaks}
use Rattle.ga_chip.specs.Part.{Part}
use Rattle.ga_chip.specs.Run.{Event, input_words, ran, sides_of}
use Rattle.ga_boot.specs.Boot.{Begun, CameToBe, Holds, IsSupplied, LoadTaken, RootBegun, node_words, stream_words, words_from}
use Rattle.ga_asm.specs.Image.{IsLoadable}
use Rattle.ga_boot.specs.Tree.{Elem, IsTree, Place, found, places}

-- What holds at the end of a run that boots a tree, whatever the nodes did in it, and so at each of
-- its moments.
pub record Boots (chip : Chip) (root : ℕ) (image : Option ImageView) (trees : Grove)
    (events : List Event) : Type 0 where
  -- once the load part was taken, each node holds its image until it begins
  pub root_holds : (now : Part) → part_of (ran chip events) root ≡ Some now
      → LoadTaken chip root image trees events → (RootBegun chip root image trees events → ⊥)
      → Holds now.state image
  pub holds : (p : Place) (now : Part) → Elem p (places root trees)
      → part_of (ran chip events) p.name ≡ Some now → LoadTaken chip root image trees events
      → (Begun chip p events → ⊥) → Holds now.state p.image
  -- when the root starts its P is its start address; another node's is one step after it took its
  -- start word
  pub root_begins : (now : Part) → part_of (ran chip events) root ≡ Some now
      → CameToBe chip root (RootBegun chip root image trees) events now 0
      → now.state.p ≡ start_address root image
  pub begins : (p : Place) (now : Part) → Elem p (places root trees)
      → part_of (ran chip events) p.name ≡ Some now
      → CameToBe chip p.name (Begun chip p) events now 1
      → now.state.p ≡ start_address p.name p.image
  -- the words that the root takes of its stream are a prefix of those that boot the tree
  pub root_takes : IsPrefix (input_words chip events root) (stream_words root image trees)
  -- until another node begins, the words that it takes from its parent are a prefix of those that
  -- it is sent; from then on these are a prefix of them; and the last one that it is sent is its
  -- start word, a jump to where it starts
  pub takes : (p : Place) → Elem p (places root trees) → (Begun chip p events → ⊥)
      → IsPrefix (words_from chip events p.name p.side) (node_words p)
  pub took : (p : Place) → Elem p (places root trees) → Begun chip p events
      → IsPrefix (node_words p) (words_from chip events p.name p.side)
  pub last_word : (p : Place)
      → (front : List ℕ) × (node_words p ≡ front ++ jump_to (start_address p.name p.image) ∷ [])
  -- until the root starts it takes no word from a port, and another node takes words only from its
  -- parent
  pub root_alone : (side : Side) → (RootBegun chip root image trees events → ⊥)
      → words_from chip events root side ≡ []
  pub parent_alone : (p : Place) (side : Side) → Elem p (places root trees)
      → (Begun chip p events → ⊥) → (side ≡ p.side → ⊥) → words_from chip events p.name side ≡ []
  -- until it starts the root makes no multiport read; the first one of another node names its
  -- parent's side, and until the node starts there is no other
  pub root_sides : (RootBegun chip root image trees events → ⊥) → sides_of chip events root ≡ []
  pub first_side : (p : Place) → Elem p (places root trees) → (sides_of chip events p.name ≡ [])
      ⊎ ((rest : List Side) × (sides_of chip events p.name ≡ p.side ∷ rest))
  pub only_side : (p : Place) → Elem p (places root trees) → (Begun chip p events → ⊥)
      → (sides_of chip events p.name ≡ []) ⊎ (sides_of chip events p.name ≡ p.side ∷ [])

-- A boot of a tree, with whatever else happens on the chip.
abbrev pub TreeBoots : Type 0
TreeBoots =
    (chip : Chip) (root : ℕ) (image : Option ImageView) (trees : Grove) (events : List Event)
    → IsTree root image trees → IsSupplied chip root (stream_words root image trees) events
    → Boots chip root image trees events

-- A tree of routes is a tree, if its images have room, and its boot stream is the stream that boots
-- that tree.
abbrev pub RoutesAreTree : Type 0
RoutesAreTree = (images : Images) (tree : TreeView) → IsNodeName tree.root → IsSound tree
    → All (λ entry. IsLoadable entry.1) images
    → IsTree tree.root (image_of images tree.root) (grove images tree.root tree.subtrees)
    × (stream_words tree.root (image_of images tree.root) (grove images tree.root tree.subtrees)
    ≡ tree_load images tree ++ tree_start images tree)

-- the sides of a node's multiport reads in a run, without the one by which a node of a tree took
-- its first word
abbrev pub later_sides : Chip → ℕ → Grove → List Event → ℕ → List Side
later_sides chip root trees events name =
    if is_some (found name (places root trees)) then drop 1 (sides_of chip events name)
    else sides_of chip events name

-- Two runs that boot a tree agree on their common steps if, besides what boots it, each node's
-- multiport reads take from one side only, the same in both. The chips may differ in breakpoints.
abbrev pub TreeBootsAgree : Type 0
TreeBootsAgree =
    (one two : Chip) (root : ℕ) (image : Option ImageView) (trees : Grove)
    (events others : List Event) (side_of : ℕ → Side)
    → IsTree root image trees → DifferInBreaks one two
    → IsSupplied one root (stream_words root image trees) events
    → IsSupplied two root (stream_words root image trees) others
    → ((name : ℕ) → All (λ side. side ≡ side_of name) (later_sides one root trees events name))
    → ((name : ℕ) → All (λ side. side ≡ side_of name) (later_sides two root trees others name))
    → Agree one two events others
