-- The firmware of the example.
use Rattle.std.specs.Prelude.{[], ◌∷◌}
use Rattle.ga_asm.specs.Image.{ImageView}
use Rattle.ga_path.specs.Stream.{Images}
use Rattle.ga_path.specs.Tree.{NoMore, Subtree, TreeView}

-- `.`: one word, `. . . .`, at which the node begins
abbrev pub dots : ImageView
dots = record { words = 0x2C9B2 ∷ []; code_len = 1; entry = 0; labels = []; item_counts = 1 ∷ [] }

-- `node 708 . node 709 . node 608 .`
abbrev pub firmware : Images
firmware = (708, dots) ∷ (709, dots) ∷ (608, dots) ∷ []

-- the routes 708, 709 and 708, 608
abbrev pub fork : TreeView
fork = record {
  root = 708;
  subtrees = Subtree 709 NoMore (Subtree 608 NoMore NoMore);
  nodes = 708 ∷ 709 ∷ 608 ∷ [];
}
