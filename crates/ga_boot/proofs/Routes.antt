-- A tree of routes is a tree.
use Rattle.std.proofs.Common.{◌≡◌, ◌∙◌, ◌⊎◌, inl, inr, ◌==◌, ℕ, suc, Bool, true, false, List, [], ◌∷◌, ◌++◌, map, Option, Some, None, IsSome, is_some, refl, sym, ap, ap₂, subst}
use Rattle.std.specs.Option.{option_map_or}
use Rattle.std.specs.Prelude.{if◌then◌else◌, All, IfSome, ◌||◌, unwrap_or}
use Rattle.std.specs.List.{AllByRecursion, IsDistinct}
use Rattle.std.proofs.lemmas.Bool.{eq-eqb, eqb-true, false≢true, true≢false}
use Rattle.std.proofs.lemmas.List.{map-append}
use Rattle.std.proofs.lemmas.List.Sorted.{list_any-IsPermutation}
use Rattle.std.proofs.lemmas.Map.Entries.{All-lookup}
use Rattle.ga_word.proofs.Find.{find_passes}
use Rattle.ga_asm.specs.Image.{ImageView}
use Rattle.ga_path.specs.Stream.{Images, grove, image_of}
use Rattle.ga_path.specs.Tree.{AreNear, IsSound, NoMore, Subtree, Subtrees, TreeView, names_in}
use Rattle.ga_path.proofs.Trees.{all_once}
use Rattle.ga_place.specs.Node.{is_among}
use Rattle.ga_place.specs.Side.{SIDES, neighbour_of, side_to}
use Rattle.ga_place.specs.declared.side.Side.{Side}
use Rattle.ga_place.specs.declared.side.Side.TheVariants.{Right}
use Rattle.ga_boot.specs.Laws.{RoutesAreTree}
use Rattle.ga_asm.specs.Image.{IsLoadable}
use Rattle.ga_boot.specs.Tree.{Elem, HasRoom, Once, Place, found, places}
use Rattle.ga_boot.proofs.Places.{elem_cut}

-- the image that a node has is one of the images
image_there : (images : Images) (name : ℕ) → All (λ entry. IsLoadable entry.1) images
    → HasRoom (image_of images name)
image_there images name all =
    by (image_of images name) (All-lookup IsLoadable (λ other. name == other) images all)
  where
    by : (o : Option ImageView) → IfSome o IsLoadable → HasRoom o
    by None h = tt
    by (Some image) h = h

leads : (there : Option ℕ) (other : ℕ) → option_map_or (λ here. here == other) there false ≡ true
    → there ≡ Some other
leads None other e = absurd (false≢true e)
leads (Some there) other e = ap Some (eqb-true there other e)

-- a node is the neighbour of another at the side to it
next_there : (from name : ℕ) → IsSome (side_to from name)
    → neighbour_of from (unwrap_or (side_to from name) Right) ≡ Some name
next_there from name near =
    by (side_to from name)
    (find_passes (λ side. option_map_or (λ here. here == name) (neighbour_of from side) false)
    SIDES) near
  where
    by : (o : Option Side) → IfSome o
        (λ side. option_map_or (λ here. here == name) (neighbour_of from side) false ≡ true)
        → IsSome o → neighbour_of from (unwrap_or o Right) ≡ Some name
    by None h some = absurd (true≢false (sym some))
    by (Some side) h some = leads (neighbour_of from side) name h

-- ---- the places of subtrees

abbrev places_of : Images → ℕ → Subtrees → List Place
places_of images parent subtrees = places parent (grove images parent subtrees)

names_of : List Place → List ℕ
names_of ps = map (λ (p : Place). p.name) ps

names_are : (images : Images) (parent : ℕ) (subtrees : Subtrees)
    → names_of (places_of images parent subtrees) ≡ names_in subtrees
unfolding names_of
names_are images parent NoMore = refl
names_are images parent (Subtree name inner beside) =
    ap (λ l. name ∷ l) (map-append (λ (p : Place). p.name) (places_of images name inner)
    (places_of images parent beside)
    ∙ ap₂ (λ a b. a ++ b) (names_are images name inner) (names_are images parent beside))

there : (images : Images) (parent : ℕ) (subtrees : Subtrees) → AreNear parent subtrees → (p : Place)
    → Elem p (places_of images parent subtrees) → neighbour_of p.parent p.side ≡ Some p.name
there images parent NoMore near p e = absurd e
there images parent (Subtree name inner beside) near p (inl same) =
    subst (λ q. neighbour_of q.parent q.side ≡ Some q.name) (sym same)
    (next_there parent name near.0)
there images parent (Subtree name inner beside) near p (inr e) =
    by (elem_cut p (places_of images name inner) (places_of images parent beside) e)
    (there images name inner near.1 p) (there images parent beside near.2 p)
  where
    by : Elem p (places_of images name inner) ⊎ Elem p (places_of images parent beside)
        → (Elem p (places_of images name inner) → neighbour_of p.parent p.side ≡ Some p.name)
        → (Elem p (places_of images parent beside) → neighbour_of p.parent p.side ≡ Some p.name)
        → neighbour_of p.parent p.side ≡ Some p.name
    by (inl f) inside other = inside f
    by (inr f) inside other = other f

-- the image of a place is that of its node
pub image_is : (images : Images) (parent : ℕ) (subtrees : Subtrees) (p : Place)
    → Elem p (places parent (grove images parent subtrees)) → p.image ≡ image_of images p.name
image_is images parent NoMore p e = absurd e
image_is images parent (Subtree name inner beside) p (inl same) =
    subst (λ q. q.image ≡ image_of images q.name) (sym same) refl
image_is images parent (Subtree name inner beside) p (inr e) =
    by (elem_cut p (places_of images name inner) (places_of images parent beside) e)
    (image_is images name inner p) (image_is images parent beside p)
  where
    by : Elem p (places_of images name inner) ⊎ Elem p (places_of images parent beside)
        → (Elem p (places_of images name inner) → p.image ≡ image_of images p.name)
        → (Elem p (places_of images parent beside) → p.image ≡ image_of images p.name)
        → p.image ≡ image_of images p.name
    by (inl f) inside other = inside f
    by (inr f) inside other = other f

-- a name that differs from all of some places is none of theirs
differs : (name : ℕ) (ps : List Place)
    → AllByRecursion (λ other. (name == other) ≡ false) (names_of ps) → (q : Place) → Elem q ps
    → q.name ≡ name → ⊥
unfolding names_of
differs name [] all q e same = e
differs name (p ∷ ps) all q (inl e) same =
    false≢true (sym all.0 ∙ eq-eqb name p.name (sym same ∙ ap (λ (z : Place). z.name) e))
differs name (p ∷ ps) all q (inr e) same = differs name ps all.1 q e same

once : (ps : List Place) → IsDistinct ◌==◌ (names_of ps) → Once ps
unfolding IsDistinct names_of
once [] distinct = tt
once (p ∷ ps) distinct = (differs p.name ps distinct.0, once ps distinct.1)

pub routes_are_tree : RoutesAreTree
unfolding IsDistinct
routes_are_tree images tree named sound all =
    let distinct = all_once tree sound in
    let names = names_are images tree.root tree.subtrees in (
      record {
        named = named;
        loads = image_there images tree.root all;
        images = λ p e. subst HasRoom (sym (image_is images tree.root tree.subtrees p e))
            (image_there images p.name all);
        there = there images tree.root tree.subtrees sound.near;
        once = once (places_of images tree.root tree.subtrees)
            (subst (IsDistinct ◌==◌) (sym names) distinct.1);
        apart = differs tree.root (places_of images tree.root tree.subtrees)
            (subst (AllByRecursion (λ other. (tree.root == other) ≡ false)) (sym names) distinct.0);
      },
      refl,
    )

-- ---- the place of a node

-- each of these names has a place
found_among : (ps : List Place) (name : ℕ) → is_some (found name ps) ≡ is_among name (names_of ps)
unfolding names_of
found_among [] name = refl
found_among (p ∷ ps) name = by (p.name == name) (found_among ps name)
  where
    by : (b : Bool) → is_some (found name ps) ≡ is_among name (map (λ (q : Place). q.name) ps)
        → is_some (if b then Some p else found name ps)
        ≡ (b || is_among name (map (λ (q : Place). q.name) ps))
    by true rest = refl
    by false rest = rest

-- a node of a tree that has no place is the root
pub stands_there : (images : Images) (tree : TreeView) (name : ℕ) → IsSound tree
    → is_among name tree.nodes ≡ true
    → found name (places tree.root (grove images tree.root tree.subtrees)) ≡ None → name ≡ tree.root
stands_there images tree name sound among none =
    by (tree.root == name) refl
    (sym (ap is_some none) ∙ found_among (places_of images tree.root tree.subtrees) name
    ∙ ap (is_among name) (names_are images tree.root tree.subtrees))
    (sym (list_any-IsPermutation (λ other. other == name) tree.nodes
    (tree.root ∷ names_in tree.subtrees) sound.nodes) ∙ among)
  where
    by : (b : Bool) → (tree.root == name) ≡ b → false ≡ is_among name (names_in tree.subtrees)
        → (b || is_among name (names_in tree.subtrees)) ≡ true → name ≡ tree.root
    by true e f g = sym (eqb-true tree.root name e)
    by false e f g = absurd (false≢true (f ∙ g))
