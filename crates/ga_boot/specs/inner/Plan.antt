-- A plan of a boot: what each node does until it begins. Nodes that aren't of the tree do nothing.
use Rattle.std.specs.Prelude.{◌≡◌, ℕ, suc, ◌≤◌, List, [], ◌∷◌, ◌++◌, ◌⊎◌, length, Option, Some, None}
use Rattle.ga_place.specs.Node.{IsNodeName}
use Rattle.ga_place.specs.Side.{neighbour_of, one_side}
use Rattle.ga_place.specs.declared.side.Side.{Side}
use Rattle.ga_place.specs.declared.side.Sides.{Sides}
use Rattle.ga_node.specs.State.{State}
use Rattle.ga_node.specs.Need.{wants}
use Rattle.ga_node.specs.Slot.{moved}
use Rattle.ga_node.specs.declared.need.Need.TheVariants as need
use Rattle.ga_place.specs.Cell.{cell_of}
use Rattle.ga_chip.specs.Chip.{Chip, part_of, pending}
use Rattle.ga_chip.specs.Part.{Part}
use Rattle.ga_chip.specs.Run.{Event, words_fed, words_left}
use Rattle.ga_chip.specs.Legal.{IsLegal}
use Rattle.ga_chip.specs.Laws.{AgreesWith, IsPrefix}
use Rattle.ga_boot.specs.inner.Local.{Local, Feed, Take, lived, Goes, Calm, taken, posted, fed, history}

-- the root; of each other node of the tree the parent and the side that both share, and how deep it
-- lies; and what each node does up to the last word of its load words, and from there until it
-- begins
pub record Plan : Type 0 where
  pub root : ℕ
  pub parent : ℕ → Option (ℕ × Side)
  pub depth : ℕ → ℕ
  pub loads : ℕ → List Local
  pub starts : ℕ → List Local

abbrev pub script : Plan → ℕ → List Local
script plan name = plan.loads name ++ plan.starts name

-- the first state of a node, its count of steps aside
abbrev pub first_of : Part → State
first_of part = record part.state { steps = 0 }

-- the root goes along its script, fed by its stream; its load ends with a word fed, and it takes
-- nothing
pub record IsRoot (plan : Plan) (part : Part) : Type 0 where
  pub goes : Goes (first_of part) (script plan plan.root)
  pub last : (front : List Local) × (word : ℕ) × (plan.loads plan.root ≡ front ++ Feed word ∷ [])
  pub takes : (side : Side) → taken side (script plan plan.root) ≡ []
  pub settled : (lived (first_of part) (plan.loads plan.root)).posted ≡ None

-- Another node of the tree waits for a word from any side; it takes all words of its script from
-- its parent, which posts just these. Its load ends with a word taken, and it starts with a word
-- taken before it posts anything.
pub record IsInside (plan : Plan) (name parent : ℕ) (side : Side) (part : Part) : Type 0 where
  pub there : neighbour_of parent side ≡ Some name
  pub wire : (cell : ℕ) × (cell_of parent side ≡ Some cell)
  pub above : (parent ≡ plan.root) ⊎ ((over : ℕ × Side) × (plan.parent parent ≡ Some over))
  pub deeper : plan.depth name ≡ suc (plan.depth parent)
  pub idle : (sides : Sides) × (wants (first_of part) ≡ need.Take sides) × (one_side sides ≡ None)
  pub first : (word : ℕ) × (tail : List Local) × (script plan name ≡ Take side word ∷ tail)
      × Goes (moved (first_of part) (Some word)) tail
  pub last : (front : List Local) × (word : ℕ) × (plan.loads name ≡ front ++ Take side word ∷ [])
  pub next : (front : List Local) × (word : ℕ) × (more : List Local)
      × (plan.starts name ≡ front ++ Take side word ∷ more) × ((to : Side) → posted to front ≡ [])
  pub only : (from : Side) → (from ≡ side → ⊥) → taken from (script plan name) ≡ []
  pub feeds : fed (script plan name) ≡ []
  pub loaded : posted side (plan.loads parent) ≡ taken side (plan.loads name)
  pub started : posted side (plan.starts parent) ≡ taken side (plan.starts name)
  pub settled : (lived (first_of part) (plan.loads name)).posted ≡ None

-- a node that isn't of the tree waits for a word from any side
pub record IsOutside (plan : Plan) (name : ℕ) (part : Part) : Type 0 where
  pub nothing : script plan name ≡ []
  pub idle : (sides : Sides) × (wants (first_of part) ≡ need.Take sides) × (one_side sides ≡ None)

pub record IsPlan (plan : Plan) (chip : Chip) : Type 0 where
  pub legal : IsLegal chip
  pub empty : (cell : ℕ) → pending chip cell ≡ None
  pub root : (part : Part) → part_of chip plan.root ≡ Some part → IsRoot plan part
  pub root_named : IsNodeName plan.root
  pub inside : (name parent : ℕ) (side : Side) (part : Part)
      → plan.parent name ≡ Some (parent, side) → part_of chip name ≡ Some part
      → IsInside plan name parent side part
  pub inside_named : (name parent : ℕ) (side : Side) → plan.parent name ≡ Some (parent, side)
      → IsNodeName name × IsNodeName parent
  pub rootless : plan.parent plan.root ≡ None
  pub outside : (name : ℕ) (part : Part) → plan.parent name ≡ None → (name ≡ plan.root → ⊥)
      → part_of chip name ≡ Some part → IsOutside plan name part
  -- in the plan a word is posted only to a child
  pub to_children : (name other : ℕ) (side : Side) → neighbour_of name side ≡ Some other
      → (plan.parent other ≡ Some (name, side) → ⊥) → posted side (script plan name) ≡ []

-- the words that the root is given in a run, those at the start and the pieces that come, are a
-- prefix of the planned ones
abbrev pub IsFed : Plan → Chip → List Event → Type 0
IsFed plan chip events = (part : Part) → part_of chip plan.root ≡ Some part
    → IsPrefix (words_left part.stream ++ words_fed chip events plan.root)
    (fed (script plan plan.root))

-- THE INVARIANT of a run: what each node did and its script agree on their common steps; and if
-- some node went beyond its script, no node of the tree still waits for its first word.
pub record Booting (plan : Plan) (chip : Chip) (events : List Event) : Type 0 where
  pub agrees : (name : ℕ) → AgreesWith (history chip events name) (script plan name)
  pub quiet : (past : ℕ) (m : Local) (rest : List Local)
      → history chip events past ≡ script plan past ++ m ∷ rest → (name : ℕ) (above : ℕ × Side)
      → plan.parent name ≡ Some above → history chip events name ≡ [] → ⊥

-- the root has taken its load part: as many words as were planned up to there
abbrev pub LoadTaken : Plan → Chip → List Event → Type 0
LoadTaken plan chip events =
    length (fed (plan.loads plan.root)) ≤ length (fed (history chip events plan.root))

-- a node has gone along its whole script
abbrev pub Begun : Plan → Chip → List Event → ℕ → Type 0
Begun plan chip events name =
    (rest : List Local) × (history chip events name ≡ script plan name ++ rest)

-- A node's memory is so when its load is taken, no move changes it from there until the node
-- begins, and P is so then.
pub record Prepares (plan : Plan) (name : ℕ) (part : Part) (ram : List ℕ)
    (address : ℕ) : Type 0 where
  pub memory : (lived (first_of part) (plan.loads name)).ram ≡ ram
  pub calm : Calm (lived (first_of part) (plan.loads name)) (plan.starts name)
  pub at : (lived (first_of part) (script plan name)).p ≡ address
