-- The plan of a tree, and a chip that it is for.
use Rattle.std.specs.Prelude.{◌≡◌, ℕ, suc, ◌+◌, ◌==◌, if◌then◌else◌, List, [], ◌∷◌, Option, Some, None, option_map}
use Rattle.ga_node.specs.State.{reset_state, booting_state}
use Rattle.ga_chip.specs.Chip.{Chip, part_of, pending}
use Rattle.ga_chip.specs.Part.{Part}
use Rattle.ga_chip.specs.Legal.{IsLegal}
use Rattle.ga_asm.specs.Image.{ImageView}
use Rattle.ga_path.specs.declared.parts.Part.TheVariants.{Load, Start}
use Rattle.ga_path.specs.Sequences.{Grove, Bare, Tree}
use Rattle.ga_boot.specs.inner.Local.{Local}
use Rattle.ga_boot.specs.inner.Script.{load_script, start_script, root_script}
use Rattle.ga_boot.specs.inner.Plan.{Plan}
use Rattle.ga_boot.specs.Tree.{Place, found, places}

-- the roots of subtrees
abbrev pub children : ℕ → Grove → List Place
children parent Bare = []
children parent (Tree name side image inner beside) =
    record { name = name; parent = parent; side = side; image = image; inner = inner }
    ∷ children parent beside

-- the depth of a node in subtrees whose roots have this depth, or 0 if it is in none of them
abbrev pub depth_in : ℕ → ℕ → Grove → ℕ
depth_in name depth Bare = 0
depth_in name depth (Tree node side image inner beside) =
    if node == name then depth else depth_in name (suc depth) inner + depth_in name depth beside

abbrev pub loading_by : Option Place → List Local
loading_by (Some p) = load_script p.side p.image p.inner
loading_by None = []

abbrev pub starting_by : Option Place → List Local
starting_by (Some p) = start_script p.name p.side p.image p.inner
starting_by None = []

abbrev pub plan_of : ℕ → Option ImageView → Grove → Plan
plan_of root image trees = record {
  root = root;
  parent = λ name. option_map (λ p. (p.parent, p.side)) (found name (places root trees));
  depth = λ name. depth_in name 1 trees;
  loads = λ name. if name == root then root_script Load root image trees
      else loading_by (found name (places root trees));
  starts = λ name. if name == root then root_script Start root image trees
      else starting_by (found name (places root trees));
}

-- a chip as after reset, but that a root is to load itself from a stream
pub record IsGiven (root : ℕ) (chip : Chip) : Type 0 where
  pub legal : IsLegal chip
  pub empty : (cell : ℕ) → pending chip cell ≡ None
  pub booting : (part : Part) → part_of chip root ≡ Some part → part.state ≡ booting_state root
  pub others : (name : ℕ) (part : Part) → part_of chip name ≡ Some part → (name ≡ root → ⊥)
      → part.state ≡ reset_state name
