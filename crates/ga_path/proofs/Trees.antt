-- A tree stays sound when a route is added.
use Rattle.std.proofs.Common.{◌≡◌, ◌∙◌, ℕ, suc, ◌+◌, ◌<◌, ◌≤◌, ◌==◌, Bool, true, false, ◌||◌, List, [], ◌∷◌, ◌++◌, length, drop, get_or, ◌⊎◌, inl, inr, refl, sym, ap, subst, arith, append_assoc, append-nil, length-append}
use Rattle.std.proofs.lemmas.List.{drop_all}
use Rattle.std.proofs.Math.Seq.{drop-cons}
use Rattle.std.specs.Prelude.{IsPermutation, if◌then◌else◌, None, Ok, Err}
use Rattle.std.specs.List.{AllByRecursion, IsDistinct, list_any}
use Rattle.std.proofs.lemmas.Bool.{eqb-true, eq-eqb, true≢false}
use Rattle.std.proofs.lemmas.List.Sorted.{IsPermutation-append_comm, IsPermutation-append_left, IsPermutation-append_right, IsPermutation-cons, IsPermutation-refl, IsPermutation-trans, length_permutation}
use Rattle.std.proofs.lemmas.Map.Keys.{IsDistinct-IsPermutation}
use Rattle.ga_place.specs.Node.{IsNodeName, is_among, is_edge}
use Rattle.ga_place.specs.Side.{side_to}
use Rattle.ga_place.proofs.Names.{few_names}
use Rattle.ga_path.specs.Route.{hops_fault, route_fault}
use Rattle.ga_path.specs.Tree.{AreNear, IsSound, IsTreeFault, NoMore, Subtree, Subtrees, TreeView, and_then, chain, lone_tree, names_in, new_names, tree_of, tree_with, with_routes, with_route, subtrees_with}
use Rattle.ga_path.specs.declared.error.TreeError.TheVariants.{Empty, Memory, OtherRoot, Repeated}
use Rattle.ga_path.specs.declared.error.TreeError.{TreeError}
use Rattle.ga_path.specs.inner.Branches.{count_in}
use Rattle.ga_path.specs.inner.Route.{AreHops}
use Rattle.ga_path.proofs.Hops.{are_hops, behind, hop, near_node, route_hops}

-- ---- neighbours

near_chain : (parent : ℕ) (names : List ℕ) → AreHops parent names → AreNear parent (chain names)
near_chain parent [] hops = tt
near_chain parent (name ∷ names) hops = (hops.0, near_chain name names hops.1, tt)

near_with : (parent : ℕ) (subtrees : Subtrees) (names : List ℕ) → AreNear parent subtrees
    → AreHops parent names → AreNear parent (subtrees_with subtrees names)
near_with parent NoMore names near hops = near_chain parent names hops
near_with parent (Subtree name inner beside) [] near hops = near
near_with parent (Subtree name inner beside) (next ∷ names) near hops =
    by (name == next) refl (near_with name inner names near.1)
    (near_with parent beside (next ∷ names) near.2 hops)
  where
    by : (b : Bool) → (name == next) ≡ b
        → (AreHops name names → AreNear name (subtrees_with inner names))
        → AreNear parent (subtrees_with beside (next ∷ names))
        → AreNear parent (if b then Subtree name (subtrees_with inner names) beside
        else Subtree name inner (subtrees_with beside (next ∷ names)))
    by true e inside other =
        (near.0, inside (subst (λ n. AreHops n names) (sym (eqb-true name next e)) hops.1), near.2)
    by false e inside other = (near.0, near.1, other)

all_append : (P : ℕ → Type 0) (xs ys : List ℕ) → AllByRecursion P xs → AllByRecursion P ys
    → AllByRecursion P (xs ++ ys)
all_append P [] ys all more = more
all_append P (x ∷ xs) ys all more = (all.0, all_append P xs ys all.1 more)

-- neighbours of nodes are nodes
near_named : (parent : ℕ) (subtrees : Subtrees) → IsNodeName parent → AreNear parent subtrees
    → AllByRecursion IsNodeName (names_in subtrees)
near_named parent NoMore named near = tt
near_named parent (Subtree name inner beside) named near =
    let here = near_node parent name named (side_to parent name) refl near.0 in (
      here,
      all_append IsNodeName (names_in inner) (names_in beside) (near_named name inner here near.1)
          (near_named parent beside named near.2),
    )

-- ---- names

chain_names : (names : List ℕ) → names_in (chain names) ≡ names
chain_names [] = refl
chain_names (name ∷ names) =
    ap (λ l. name ∷ l) (append-nil (names_in (chain names)) ∙ chain_names names)

-- the names with a route are those before and its new ones
names_with : (subtrees : Subtrees) (names : List ℕ)
    → IsPermutation (names_in subtrees ++ new_names subtrees names)
    (names_in (subtrees_with subtrees names))
names_with NoMore names =
    subst (IsPermutation names) (sym (chain_names names)) (IsPermutation-refl names)
names_with (Subtree name inner beside) [] =
    subst (λ l. IsPermutation l (names_in (Subtree name inner beside)))
    (sym (append-nil (names_in (Subtree name inner beside))))
    (IsPermutation-refl (names_in (Subtree name inner beside)))
names_with (Subtree name inner beside) (next ∷ names) =
    by (name == next) (names_with inner names) (names_with beside (next ∷ names))
  where
    turned : (new : List ℕ) → IsPermutation ((names_in inner ++ names_in beside) ++ new)
        ((names_in inner ++ new) ++ names_in beside)
    turned new =
        subst (λ l. IsPermutation l ((names_in inner ++ new) ++ names_in beside))
        (sym (append_assoc (names_in inner) (names_in beside) new))
        (subst (IsPermutation (names_in inner ++ (names_in beside ++ new)))
        (sym (append_assoc (names_in inner) new (names_in beside)))
        (IsPermutation-append_right (names_in inner) (names_in beside ++ new)
        (new ++ names_in beside) (IsPermutation-append_comm (names_in beside) new)))

    by : (b : Bool) → IsPermutation (names_in inner ++ new_names inner names)
        (names_in (subtrees_with inner names)) → IsPermutation (names_in beside
        ++ new_names beside (next ∷ names)) (names_in (subtrees_with beside (next ∷ names)))
        → IsPermutation (names_in (Subtree name inner beside)
        ++ (if b then new_names inner names else new_names beside (next ∷ names)))
        (names_in (if b then Subtree name (subtrees_with inner names) beside
        else Subtree name inner (subtrees_with beside (next ∷ names))))
    by true inside other =
        let new : List ℕ = new_names inner names in
        IsPermutation-cons name ((names_in inner ++ names_in beside) ++ new)
        (names_in (subtrees_with inner names) ++ names_in beside)
        (IsPermutation-trans ((names_in inner ++ names_in beside) ++ new) ((names_in inner ++ new)
        ++ names_in beside) (names_in (subtrees_with inner names) ++ names_in beside)
        (turned new) (IsPermutation-append_left (names_in beside)
        (names_in inner ++ new) (names_in (subtrees_with inner names)) inside))
    by false inside other =
        let new : List ℕ = new_names beside (next ∷ names) in
        IsPermutation-cons name ((names_in inner ++ names_in beside) ++ new)
        (names_in inner ++ names_in (subtrees_with beside (next ∷ names)))
        (subst (λ l. IsPermutation l (names_in inner ++ names_in (subtrees_with beside
        (next ∷ names)))) (sym (append_assoc (names_in inner) (names_in beside) new))
        (IsPermutation-append_right (names_in inner)
        (names_in beside ++ new) (names_in (subtrees_with beside (next ∷ names))) other))

count_is : (subtrees : Subtrees) → count_in subtrees ≡ length (names_in subtrees)
count_is NoMore = refl
count_is (Subtree name inner beside) =
    let in_it = count_is inner in
    let behind_it = count_is beside in
    let both = length-append (names_in inner) (names_in beside) in
    omega (arith, in_it, behind_it, both)

-- ---- no name twice

-- none of a route's names is among others or occurs twice
record AreApart (before names : List ℕ) : Type 0 where
  once : IsDistinct ◌==◌ names
  new : AllByRecursion (λ name. is_among name before ≡ false) names

neither : (a b : Bool) → (a || b) ≡ false → (a ≡ false) × (b ≡ false)
neither true b e = absurd (true≢false e)
neither false b e = (refl, e)

turned_eq : (a b : ℕ) → (a == b) ≡ false → (b == a) ≡ false
turned_eq a b e = by (b == a) refl
  where
    by : (c : Bool) → (b == a) ≡ c → c ≡ false
    by false f = refl
    by true f = absurd (true≢false (sym (eq-eqb a b (sym (eqb-true b a f))) ∙ e))

not_first : (first : ℕ) (before names : List ℕ)
    → AllByRecursion (λ name. is_among name (first ∷ before) ≡ false) names
    → AllByRecursion (λ name. (first == name) ≡ false) names
    × AllByRecursion (λ name. is_among name before ≡ false) names
not_first first before [] all = (tt, tt)
not_first first before (name ∷ names) all =
    let here = neither (first == name) (is_among name before) all.0 in
    let rest = not_first first before names all.1 in
    ((here.0, rest.0), (here.1, rest.1))

are_apart : (last : ℕ) (before names : List ℕ) → hops_fault (last ∷ before) names ≡ None
    → AreApart (last ∷ before) names
unfolding IsDistinct
are_apart last before [] e = record { once = tt; new = tt }
are_apart last before (name ∷ names) e =
    let is = hop last before name names e in
    let rest = are_apart name (last ∷ before) names (behind last before name names e) in
    let both = not_first name (last ∷ before) names rest.new in
    record { once = (both.0, rest.once); new = (is.new, both.1) }

new_once : (subtrees : Subtrees) (names : List ℕ) → IsDistinct ◌==◌ names
    → IsDistinct ◌==◌ (new_names subtrees names)
unfolding IsDistinct
new_once NoMore names once = once
new_once (Subtree name inner beside) [] once = tt
new_once (Subtree name inner beside) (next ∷ names) once =
    by (name == next) (new_once inner names once.1) (new_once beside (next ∷ names) once)
  where
    by : (b : Bool) → IsDistinct ◌==◌ (new_names inner names)
        → IsDistinct ◌==◌ (new_names beside (next ∷ names))
        → IsDistinct ◌==◌ (if b then new_names inner names else new_names beside (next ∷ names))
    by true inside other = inside
    by false inside other = other

none_first : (first : ℕ) (before names : List ℕ)
    → list_any (λ name. is_among name (first ∷ before)) names ≡ false
    → AllByRecursion (λ name. (first == name) ≡ false) names
    × (list_any (λ name. is_among name before) names ≡ false)
none_first first before [] none = (tt, refl)
none_first first before (name ∷ names) none =
    let here = neither (is_among name (first ∷ before))
    (list_any (λ other. is_among other (first ∷ before)) names) none in
    let apart = neither (first == name) (is_among name before) here.0 in
    let rest = none_first first before names here.1 in (
      (apart.0, rest.0),
      ap (λ b. b || list_any (λ other. is_among other before) names) apart.1 ∙ rest.1,
    )

once_with : (before names : List ℕ) → IsDistinct ◌==◌ before → IsDistinct ◌==◌ names
    → list_any (λ name. is_among name before) names ≡ false → IsDistinct ◌==◌ (before ++ names)
unfolding IsDistinct
once_with [] names once more none = more
once_with (first ∷ before) names once more none =
    let apart = none_first first before names none in (
      all_append (λ y. (first == y) ≡ false) before names once.0 apart.0,
      once_with before names once.1 more apart.1,
    )

-- ---- trees

pub few_in : (tree : TreeView) → IsSound tree → length tree.nodes ≤ 144
    → count_in tree.subtrees < 144
few_in tree sound most =
    let long = length_permutation tree.nodes (tree.root ∷ names_in tree.subtrees) sound.nodes in
    let count = count_is tree.subtrees in
    omega (arith, long, most, count)

-- no name occurs twice in a tree
pub all_once : (tree : TreeView) → IsSound tree
    → IsDistinct ◌==◌ (tree.root ∷ names_in tree.subtrees)
all_once tree sound =
    IsDistinct-IsPermutation ◌==◌ flips tree.nodes
    (tree.root ∷ names_in tree.subtrees) sound.nodes sound.once
  where
    by : (x y : ℕ) (b : Bool) → (x == y) ≡ b → b ≡ (y == x)
    by x y true e = sym (eq-eqb y x (sym (eqb-true x y e)))
    by x y false e = sym (turned_eq x y e)

    flips : (x y : ℕ) → (x == y) ≡ (y == x)
    flips x y = by x y (x == y) refl

pub most_of : (tree : TreeView) → IsNodeName tree.root → IsSound tree → length tree.nodes ≤ 144
most_of tree named sound =
    let few = few_names (tree.root ∷ names_in tree.subtrees) (all_once tree sound)
    (named, near_named tree.root tree.subtrees named sound.near) in
    let long = length_permutation tree.nodes (tree.root ∷ names_in tree.subtrees) sound.nodes in
    omega (arith, few, long)

pub lone_sound : (root : ℕ) → is_edge root ≡ true → IsSound (lone_tree root)
unfolding IsDistinct
lone_sound root edge =
    record { edge = edge; near = tt; once = (tt, tt); nodes = IsPermutation-refl (root ∷ []) }

pub sound_with : (tree : TreeView) (names : List ℕ) → IsSound tree
    → route_fault (tree.root ∷ names) ≡ None
    → list_any (λ name. is_among name tree.nodes) (new_names tree.subtrees names) ≡ false
    → IsSound (tree_with tree names)
sound_with tree names sound faultless none =
    let hops = route_hops tree.root names faultless in
    let apart = are_apart tree.root [] names hops in
    let new = new_names tree.subtrees names in
    record {
      edge = sound.edge;
      near = near_with tree.root tree.subtrees names sound.near (are_hops tree.root [] names hops);
      once = once_with tree.nodes new sound.once (new_once tree.subtrees names apart.once) none;
      nodes = IsPermutation-trans (tree.nodes ++ new) (tree.root ∷ (names_in tree.subtrees ++ new))
          (tree.root ∷ names_in (subtrees_with tree.subtrees names))
          (IsPermutation-append_left new tree.nodes
          (tree.root ∷ names_in tree.subtrees) sound.nodes)
          (IsPermutation-cons tree.root (names_in tree.subtrees ++ new)
          (names_in (subtrees_with tree.subtrees names)) (names_with tree.subtrees names));
    }

-- ---- one route more, where it begins at the root

pub comes_back : (index : ℕ) (tree : TreeView) (first : ℕ) (names : List ℕ)
    → (first == tree.root) ≡ true
    → list_any (λ name. is_among name tree.nodes) (new_names tree.subtrees names) ≡ true
    → with_route index tree (first ∷ names) ≡ Err (Repeated index)
comes_back index tree first names e some = rw e (rw some refl)

pub goes_on : (index : ℕ) (tree : TreeView) (first : ℕ) (names : List ℕ)
    → (first == tree.root) ≡ true
    → list_any (λ name. is_among name tree.nodes) (new_names tree.subtrees names) ≡ false
    → with_route index tree (first ∷ names) ≡ Ok (tree_with tree names)
goes_on index tree first names e none = rw e (rw none refl)

-- ---- the routes in order

pub begins : (routes : List (List ℕ)) (route : List ℕ) (root : ℕ) → 0 < length routes
    → route ≡ get_or routes 0 route → 0 < length route → root ≡ get_or route 0 root
    → tree_of routes ≡ with_routes 0 (lone_tree root) routes
begins [] route root some first long at = absurd (omega (arith, some))
begins ([] ∷ routes) route root some first long at =
    absurd (let none : length route ≡ 0 = ap length first in omega (arith, none, long))
begins ((name ∷ names) ∷ routes) route root some first long at =
    let same : root ≡ name = at ∙ ap (λ l. get_or l 0 root) first in
    ap (λ n. with_routes 0 (lone_tree n) ((name ∷ names) ∷ routes)) (sym same)

onward : (index : ℕ) (tree : TreeView) (routes : List (List ℕ)) (route : List ℕ)
    → index < length routes → route ≡ get_or routes index route
    → with_routes index tree (drop index routes) ≡ and_then
    (λ more. with_routes (index + 1) more (drop (index + 1) routes)) (with_route index tree route)
onward index tree routes route below at =
    let next : suc index ≡ index + 1 = omega arith in
    ap (with_routes index tree) (drop-cons routes index route below
    ∙ ap (λ r. r ∷ drop (suc index) routes) (sym at) ∙ ap (λ n. route ∷ drop n routes) next)

pub adds : (index : ℕ) (tree next : TreeView) (routes : List (List ℕ)) (route : List ℕ)
    → index < length routes → route ≡ get_or routes index route
    → with_route index tree route ≡ Ok next → with_routes index tree (drop index routes)
    ≡ with_routes (index + 1) next (drop (index + 1) routes)
adds index tree next routes route below at is =
    onward index tree routes route below at
    ∙ ap (and_then (λ more. with_routes (index + 1) more (drop (index + 1) routes))) is

pub refuses : (index : ℕ) (tree : TreeView) (routes : List (List ℕ)) (route : List ℕ)
    (fault : TreeError) → index < length routes → route ≡ get_or routes index route
    → with_route index tree route ≡ Err fault
    → with_routes index tree (drop index routes) ≡ Err fault
refuses index tree routes route fault below at is =
    onward index tree routes route below at
    ∙ ap (and_then (λ more. with_routes (index + 1) more (drop (index + 1) routes))) is

pub ends : (index : ℕ) (tree : TreeView) (routes : List (List ℕ)) → length routes ≤ index
    → with_routes index tree (drop index routes) ≡ Ok tree
ends index tree routes all = ap (with_routes index tree) (drop_all index routes all)

pub is_fault : (routes : List (List ℕ)) (fault : TreeError)
    → (fault ≡ Memory) ⊎ (tree_of routes ≡ Err fault) → IsTreeFault routes fault
is_fault routes Memory is = tt
is_fault routes Empty (inl e) = absurd cc
is_fault routes Empty (inr e) = e
is_fault routes (OtherRoot index) (inl e) = absurd cc
is_fault routes (OtherRoot index) (inr e) = e
is_fault routes (Repeated index) (inl e) = absurd cc
is_fault routes (Repeated index) (inr e) = e

-- ---- one route is a tree

none_among : (names others : List ℕ) → AllByRecursion (λ name. is_among name others ≡ false) names
    → list_any (λ name. is_among name others) names ≡ false
none_among [] others all = refl
none_among (name ∷ names) others all =
    ap (λ b. b || list_any (λ other. is_among other others) names) all.0
    ∙ none_among names others all.1

one_route : (root : ℕ) (names : List ℕ) → route_fault (root ∷ names) ≡ None
    → tree_of ((root ∷ names) ∷ []) ≡ Ok (tree_with (lone_tree root) names)
one_route root names faultless =
    ap (and_then Ok) (goes_on 0 (lone_tree root) root names (eq-eqb root root refl)
    (none_among names (root ∷ []) (are_apart root [] names (route_hops root names faultless)).new))

pub memory_alone : (route : List ℕ) (fault : TreeError) → route_fault route ≡ None
    → IsTreeFault (route ∷ []) fault → fault ≡ Memory
memory_alone [] fault faultless is = absurd cc
memory_alone (root ∷ names) Memory faultless is = refl
memory_alone (root ∷ names) Empty faultless is =
    absurd (let made = one_route root names faultless in cc)
memory_alone (root ∷ names) (OtherRoot index) faultless is =
    absurd (let made = one_route root names faultless in cc)
memory_alone (root ∷ names) (Repeated index) faultless is =
    absurd (let made = one_route root names faultless in cc)
