-- The tree of nodes that a boot reaches.
use Rattle.std.specs.Prelude.{IfSome, ◌≡◌, ℕ, suc, ◌==◌, ◌≤◌, if◌then◌else◌, List, [], ◌∷◌, ◌++◌, ◌⊎◌, length, Option, Some, None}
use Rattle.ga_place.specs.Node.{IsNodeName}
use Rattle.ga_place.specs.Side.{neighbour_of}
use Rattle.ga_place.specs.declared.side.Side.{Side}
use Rattle.ga_asm.specs.Image.{ImageView, IsLoadable}
use Rattle.ga_path.specs.Sequences.{Grove, Bare, Tree}

-- a node of the tree but the root: its parent, the side that both share, its image, and its
-- subtrees
pub record Place : Type 0 where
  pub name : ℕ
  pub parent : ℕ
  pub side : Side
  pub image : Option ImageView
  pub inner : Grove

-- all nodes of subtrees
abbrev pub places : ℕ → Grove → List Place
places parent Bare = []
places parent (Tree name side image inner beside) =
    record { name = name; parent = parent; side = side; image = image; inner = inner }
    ∷ (places name inner ++ places parent beside)

-- one of these
abbrev pub Elem : Place → List Place → Type 0
Elem p [] = ⊥
Elem p (q ∷ qs) = (p ≡ q) ⊎ Elem p qs

-- no name occurs twice
abbrev pub Once : List Place → Type 0
Once [] = Unit {0}
Once (p ∷ ps) = ((q : Place) → Elem q ps → q.name ≡ p.name → ⊥) × Once ps

-- the place of a node by its name, if it has one
abbrev pub found : ℕ → List Place → Option Place
found name [] = None
found name (p ∷ ps) = if p.name == name then Some p else found name ps

abbrev pub HasRoom : Option ImageView → Type 0
HasRoom image = IfSome image IsLoadable

-- A tree: its root is a node, each other node is a neighbour of its parent, no node occurs twice,
-- and there is room for their images.
pub record IsTree (root : ℕ) (image : Option ImageView) (trees : Grove) : Type 0 where
  pub named : IsNodeName root
  pub loads : HasRoom image
  pub images : (p : Place) → Elem p (places root trees) → HasRoom p.image
  pub there : (p : Place) → Elem p (places root trees) → neighbour_of p.parent p.side ≡ Some p.name
  pub once : Once (places root trees)
  pub apart : (p : Place) → Elem p (places root trees) → p.name ≡ root → ⊥
