-- The tree of routes, and the faults of routes that are none.
use Rattle.std.specs.Prelude.{◌≡◌, ℕ, ◌+◌, ◌==◌, not, true, List, [], ◌∷◌, ◌++◌, Result, Ok, Err, IsPermutation, IsSome, if◌then◌else◌}
use Rattle.std.specs.List.{IsDistinct, list_any}
use Rattle.ga_place.specs.Node.{is_among, is_edge}
use Rattle.ga_place.specs.Side.{side_to}
use Rattle.ga_path.specs.declared.error.TreeError.{TreeError}
use Rattle.ga_path.specs.declared.error.TreeError.TheVariants.{Empty, Memory, OtherRoot, Repeated}

-- Subtrees in order, by the names of their nodes: the root of the first, the subtrees of that root,
-- and the other subtrees.
pub data Subtrees : Type 0 where
  NoMore : Subtrees
  Subtree : ℕ → Subtrees → Subtrees → Subtrees

-- A tree: its root, the subtrees of the root, and all its nodes, in the order in which routes first
-- name them.
pub record TreeView : Type 0 where
  pub root : ℕ
  pub subtrees : Subtrees
  pub nodes : List ℕ

-- names as subtrees, each the only one of the name before it
abbrev pub chain : List ℕ → Subtrees
chain [] = NoMore
chain (name ∷ names) = Subtree name (chain names) NoMore

-- Subtrees with the nodes of a route: it goes along as long as its next node is the root of a
-- subtree there, and each node behind is the last subtree of the one before it.
abbrev pub subtrees_with : Subtrees → List ℕ → Subtrees
subtrees_with NoMore names = chain names
subtrees_with (Subtree name inner beside) [] = Subtree name inner beside
subtrees_with (Subtree name inner beside) (next ∷ names) =
    if name == next then Subtree name (subtrees_with inner names) beside
    else Subtree name inner (subtrees_with beside (next ∷ names))

-- what is left of a route behind the nodes along which it goes
abbrev pub new_names : Subtrees → List ℕ → List ℕ
new_names NoMore names = names
new_names (Subtree name inner beside) [] = []
new_names (Subtree name inner beside) (next ∷ names) =
    if name == next then new_names inner names else new_names beside (next ∷ names)

-- a tree of one node
abbrev pub lone_tree : ℕ → TreeView
lone_tree root = record { root = root; subtrees = NoMore; nodes = root ∷ [] }

-- a tree with the nodes of one more route, by those behind the root
abbrev pub tree_with : TreeView → List ℕ → TreeView
tree_with tree names = record {
  root = tree.root;
  subtrees = subtrees_with tree.subtrees names;
  nodes = tree.nodes ++ new_names tree.subtrees names;
}

-- One more route, by its index: it begins at the tree's root, and no node that is new there is in
-- the tree.
abbrev pub with_route : ℕ → TreeView → List ℕ → Result TreeView TreeError
with_route index tree [] = Err (OtherRoot index)
with_route index tree (first ∷ names) =
    if not (first == tree.root) then Err (OtherRoot index)
    else if list_any (λ name. is_among name tree.nodes) (new_names tree.subtrees names)
    then Err (Repeated index)
    else Ok (tree_with tree names)

-- what is made of a tree, if there is one
abbrev pub and_then : (TreeView → Result TreeView TreeError) → Result TreeView TreeError
    → Result TreeView TreeError
and_then more (Ok tree) = more tree
and_then more (Err fault) = Err fault

-- more routes in order, by the index of the first
abbrev pub with_routes : ℕ → TreeView → List (List ℕ) → Result TreeView TreeError
with_routes index tree [] = Ok tree
with_routes index tree (route ∷ routes) =
    and_then (λ more. with_routes (index + 1) more routes) (with_route index tree route)

-- the tree of routes, or their first fault
abbrev pub tree_of : List (List ℕ) → Result TreeView TreeError
tree_of ((root ∷ names) ∷ routes) = with_routes 0 (lone_tree root) ((root ∷ names) ∷ routes)
tree_of routes = Err Empty

-- The fault of routes. Want of memory is none.
abbrev pub IsTreeFault : List (List ℕ) → TreeError → Type 0
IsTreeFault routes Memory = Unit
IsTreeFault routes fault = tree_of routes ≡ Err fault

-- all names of subtrees
abbrev pub names_in : Subtrees → List ℕ
names_in NoMore = []
names_in (Subtree name inner beside) = name ∷ (names_in inner ++ names_in beside)

-- each node is a neighbour of its parent, which the first ones have by this name
abbrev pub AreNear : ℕ → Subtrees → Type 0
AreNear parent NoMore = Unit
AreNear parent (Subtree name inner beside) =
    IsSome (side_to parent name) × AreNear name inner × AreNear parent beside

-- The invariant of a tree: its root is at an edge of the chip, each other node is a neighbour of
-- its parent, no node occurs twice, and its nodes are the root and those of its subtrees.
pub record IsSound (tree : TreeView) : Type 0 where
  pub edge : is_edge tree.root ≡ true
  pub near : AreNear tree.root tree.subtrees
  pub once : IsDistinct ◌==◌ tree.nodes
  pub nodes : IsPermutation tree.nodes (tree.root ∷ names_in tree.subtrees)
