-- A tree as numbers, by which proofs tell trees apart.
use Rattle.std.specs.Prelude.{◌≡◌, ℕ, zero, suc, List, [], ◌∷◌, ◌++◌, refl}
use Rattle.std.specs.Coded.{Coded, code_by, coded×, coded_list, coded_ℕ}
use Rattle.std.proofs.Common.{◌∙◌, ap, append_assoc}
use Rattle.ga_path.specs.Tree.{NoMore, Subtree, Subtrees, TreeView}

-- subtrees as numbers: both kinds of subtrees of a node come before it
abbrev pub numbers_of : Subtrees → List ℕ
numbers_of NoMore = zero ∷ []
numbers_of (Subtree name inner beside) = numbers_of inner ++ (numbers_of beside ++ suc name ∷ [])

-- what numbers make of subtrees that are there, the last first
abbrev pub made : List Subtrees → List ℕ → List Subtrees
made there [] = there
made there (zero ∷ numbers) = made (NoMore ∷ there) numbers
made (beside ∷ inner ∷ there) (suc name ∷ numbers) =
    made (Subtree name inner beside ∷ there) numbers
made there (suc name ∷ numbers) = there

abbrev pub first_made : List Subtrees → Subtrees
first_made (first ∷ there) = first
first_made [] = NoMore

abbrev pub made_back : (subtrees : Subtrees) (there : List Subtrees) (numbers : List ℕ)
    → made there (numbers_of subtrees ++ numbers) ≡ made (subtrees ∷ there) numbers
made_back NoMore there numbers = refl
made_back (Subtree name inner beside) there numbers =
    ap (made there) (append_assoc (numbers_of inner) (numbers_of beside ++ suc name ∷ []) numbers
    ∙ ap (λ l. numbers_of inner ++ l) (append_assoc (numbers_of beside) (suc name ∷ []) numbers))
    ∙ made_back inner there (numbers_of beside ++ suc name ∷ numbers)
    ∙ made_back beside (inner ∷ there) (suc name ∷ numbers)

-- a tree is kept as its root, its subtrees as numbers, and its nodes
abbrev pub tree_code : Coded TreeView
tree_code =
    code_by (ℕ × (List ℕ × List ℕ))
    (coded× coded_ℕ (coded× (coded_list coded_ℕ) (coded_list coded_ℕ)))
    (λ tree. (tree.root, (numbers_of tree.subtrees ++ [], tree.nodes)))
    (λ parts.
    record { root = parts.0; subtrees = first_made (made [] parts.1.0); nodes = parts.1.1 })
    (λ tree.
    ap (λ there. record { root = tree.root; subtrees = first_made there; nodes = tree.nodes })
    (made_back tree.subtrees [] []))
