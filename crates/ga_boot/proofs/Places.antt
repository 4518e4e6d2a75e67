-- Lists of the nodes of a tree.
use Rattle.ga_path.specs.declared.parts.Part.{Part}
use Rattle.std.proofs.Common.{◌≡◌, ℕ, suc, ◌+◌, ◌==◌, Bool, true, false, List, [], ◌∷◌, ◌++◌, ◌⊎◌, inl, inr, flat_map, Some, refl, sym, ap, ap₂, ◌∙◌, subst, append-nil, arith}
use Rattle.std.specs.Prelude.{if◌then◌else◌}
use Rattle.std.proofs.lemmas.Bool.{eqb-true, eq-eqb, ne_eqb}
use Rattle.std.proofs.lemmas.Option.{same_Some, none-some}
use Rattle.ga_place.specs.Node.{IsNodeName}
use Rattle.ga_place.specs.Side.{side_bit, neighbour_of}
use Rattle.ga_place.proofs.SideLemmas.{neighbour_of-IsNodeName}
use Rattle.ga_place.specs.declared.side.Side.{Side}
use Rattle.ga_place.proofs.Cells.{same_bit}
use Rattle.ga_path.specs.Sequences.{Grove, Bare, Tree, sent, pumps}
use Rattle.ga_boot.specs.Tree.{Place, places, Elem, Once, found}
use Rattle.ga_boot.specs.inner.TreePlan.{children, depth_in}
use Rattle.ga_boot.proofs.Words.{at_side, words_to}

elem_left : (p : Place) (ps qs : List Place) → Elem p ps → Elem p (ps ++ qs)
elem_left p [] qs e = absurd e
elem_left p (x ∷ ps) qs (inl e) = inl e
elem_left p (x ∷ ps) qs (inr e) = inr (elem_left p ps qs e)

elem_right : (p : Place) (ps qs : List Place) → Elem p qs → Elem p (ps ++ qs)
elem_right p [] qs e = e
elem_right p (x ∷ ps) qs e = inr (elem_right p ps qs e)

pub elem_cut : (p : Place) (ps qs : List Place) → Elem p (ps ++ qs) → Elem p ps ⊎ Elem p qs
elem_cut p [] qs e = inr e
elem_cut p (x ∷ ps) qs (inl e) = inl (inl e)
elem_cut p (x ∷ ps) qs (inr e) = more (elem_cut p ps qs e)
  where
    more : Elem p ps ⊎ Elem p qs → Elem p (x ∷ ps) ⊎ Elem p qs
    more (inl f) = inl (inr f)
    more (inr f) = inr f

once_left : (ps qs : List Place) → Once (ps ++ qs) → Once ps
once_left [] qs o = tt
once_left (p ∷ ps) qs o = (λ q e same. o.0 q (elem_left q ps qs e) same, once_left ps qs o.1)

once_right : (ps qs : List Place) → Once (ps ++ qs) → Once qs
once_right [] qs o = o
once_right (p ∷ ps) qs o = once_right ps qs o.1

-- a child is a node of the tree
pub child_place : (parent : ℕ) (grove : Grove) (p : Place) → Elem p (children parent grove)
    → Elem p (places parent grove)
child_place parent Bare p e = e
child_place parent (Tree name side image inner beside) p (inl e) = inl e
child_place parent (Tree name side image inner beside) p (inr e) =
    inr (elem_right p (places name inner) (places parent beside) (child_place parent beside p e))

-- a child has its parent
pub child_of : (parent : ℕ) (grove : Grove) (p : Place) → Elem p (children parent grove)
    → p.parent ≡ parent
child_of parent Bare p e = absurd e
child_of parent (Tree name side image inner beside) p (inl e) = ap (λ q. q.parent) e
child_of parent (Tree name side image inner beside) p (inr e) = child_of parent beside p e

-- each node of the tree is a child of the root or of another node
abbrev pub HasOver : ℕ → Grove → Place → Type 0
HasOver parent grove p =
    Elem p (children parent grove)
    ⊎ ((q : Place) × Elem q (places parent grove) × Elem p (children q.name q.inner))

pub over_it : (parent : ℕ) (grove : Grove) (p : Place) → Elem p (places parent grove)
    → HasOver parent grove p
over_it parent Bare p e = absurd e
over_it parent (Tree name side image inner beside) p (inl e) = inl (inl e)
over_it parent (Tree name side image inner beside) p (inr e) =
    by (elem_cut p (places name inner) (places parent beside) e) (over_it name inner p)
    (over_it parent beside p)
  where
    from_inner : HasOver name inner p → HasOver parent (Tree name side image inner beside) p
    from_inner (inl f) =
        inr (
          record { name = name; parent = parent; side = side; image = image; inner = inner },
          inl refl,
          f,
        )
    from_inner (inr (q, f, g)) =
        inr (q, inr (elem_left q (places name inner) (places parent beside) f), g)

    from_beside : HasOver parent beside p → HasOver parent (Tree name side image inner beside) p
    from_beside (inl f) = inl (inr f)
    from_beside (inr (q, f, g)) =
        inr (q, inr (elem_right q (places name inner) (places parent beside) f), g)

    by : Elem p (places name inner) ⊎ Elem p (places parent beside)
        → (Elem p (places name inner) → HasOver name inner p)
        → (Elem p (places parent beside) → HasOver parent beside p)
        → HasOver parent (Tree name side image inner beside) p
    by (inl f) inside_it beside_it = from_inner (inside_it f)
    by (inr f) inside_it beside_it = from_beside (beside_it f)

-- the children of a node of the tree are nodes of the tree
pub inner_place : (parent : ℕ) (grove : Grove) (q p : Place) → Elem q (places parent grove)
    → Elem p (children q.name q.inner) → Elem p (places parent grove)
inner_place parent Bare q p e f = absurd e
inner_place parent (Tree name side image inner beside) q p (inl e) f =
    inr (elem_left p (places name inner) (places parent beside)
    (child_place name inner p (subst (λ z. Elem p (children z.name z.inner)) e f)))
inner_place parent (Tree name side image inner beside) q p (inr e) f =
    by (elem_cut q (places name inner) (places parent beside) e)
    (λ g. inner_place name inner q p g f) (λ g. inner_place parent beside q p g f)
  where
    by : Elem q (places name inner) ⊎ Elem q (places parent beside)
        → (Elem q (places name inner) → Elem p (places name inner))
        → (Elem q (places parent beside) → Elem p (places parent beside))
        → Elem p (places parent (Tree name side image inner beside))
    by (inl g) one two = inr (elem_left p (places name inner) (places parent beside) (one g))
    by (inr g) one two = inr (elem_right p (places name inner) (places parent beside) (two g))

pub once_children : (parent : ℕ) (grove : Grove) → Once (places parent grove)
    → Once (children parent grove)
once_children parent Bare o = o
once_children parent (Tree name side image inner beside) o = (
  λ q e same. o.0 q (elem_right q (places name inner) (places parent beside)
      (child_place parent beside q e)) same,
  once_children parent beside (once_right (places name inner) (places parent beside) o.1),
)

pub once_inner : (parent : ℕ) (grove : Grove) (q : Place) → Once (places parent grove)
    → Elem q (places parent grove) → Once (children q.name q.inner)
once_inner parent Bare q o e = absurd e
once_inner parent (Tree name side image inner beside) q o (inl e) =
    subst (λ z. Once (children z.name z.inner)) (sym e)
    (once_children name inner (once_left (places name inner) (places parent beside) o.1))
once_inner parent (Tree name side image inner beside) q o (inr e) =
    by (elem_cut q (places name inner) (places parent beside) e)
    (once_inner name inner q (once_left (places name inner) (places parent beside) o.1))
    (once_inner parent beside q (once_right (places name inner) (places parent beside) o.1))
  where
    by : Elem q (places name inner) ⊎ Elem q (places parent beside)
        → (Elem q (places name inner) → Once (children q.name q.inner))
        → (Elem q (places parent beside) → Once (children q.name q.inner))
        → Once (children q.name q.inner)
    by (inl g) one two = one g
    by (inr g) one two = two g

-- ---- how deep a node lies

pick_no : (b : Bool) (x y : ℕ) → b ≡ false → (if b then x else y) ≡ y
pick_no b x y e = rw e refl

pick_yes : (b : Bool) (x y : ℕ) → b ≡ true → (if b then x else y) ≡ x
pick_yes b x y e = rw e refl

once_apart : (ps qs : List Place) (p q : Place) → Once (ps ++ qs) → Elem p ps → Elem q qs
    → q.name ≡ p.name → ⊥
once_apart [] qs p q o e f same = absurd e
once_apart (x ∷ ps) qs p q o (inl e) f same =
    o.0 q (elem_right q ps qs f) (same ∙ ap (λ z. z.name) e)
once_apart (x ∷ ps) qs p q o (inr e) f same = once_apart ps qs p q o.1 e f same

pub absent : (name parent depth : ℕ) (grove : Grove)
    → ((p : Place) → Elem p (places parent grove) → p.name ≡ name → ⊥)
    → depth_in name depth grove ≡ 0
absent name parent depth Bare none = refl
absent name parent depth (Tree node side image inner beside) none =
    pick_no (node == name) _ _ (ne_eqb node name (none (record
    { name = node; parent = parent; side = side; image = image; inner = inner }) (inl refl)))
    ∙ ap₂ (λ a b. a + b) (absent name node (suc depth) inner
    (λ p e. none p (inr (elem_left p (places node inner) (places parent beside) e))))
    (absent name parent depth beside
    (λ p e. none p (inr (elem_right p (places node inner) (places parent beside) e))))

-- a child lies as deep as the subtrees
pub child_deep : (parent depth : ℕ) (grove : Grove) (p : Place) → Once (places parent grove)
    → Elem p (children parent grove) → depth_in p.name depth grove ≡ depth
child_deep parent depth Bare p o e = absurd e
child_deep parent depth (Tree node side image inner beside) p o (inl e) =
    pick_yes (node == p.name) depth _ (eq-eqb node p.name (sym (ap (λ z. z.name) e)))
child_deep parent depth (Tree node side image inner beside) p o (inr e) =
    let there = child_place parent beside p e in
    let outside : depth_in p.name (suc depth) inner ≡ 0 =
    absent p.name node (suc depth) inner (λ q f same. once_apart (places node inner)
    (places parent beside) q p o.1 f there (sym same)) in
    let deep : depth_in p.name depth beside ≡ depth = child_deep parent depth beside p
    (once_right (places node inner) (places parent beside) o.1) e in
    pick_no (node == p.name) _ _ (ne_eqb node p.name
    (λ same. o.0 p (elem_right p (places node inner) (places parent beside) there) (sym same)))
    ∙ omega (arith, outside, deep)

-- and the child of a node of the tree by one deeper
pub inner_deep : (parent depth : ℕ) (grove : Grove) (q p : Place) → Once (places parent grove)
    → Elem q (places parent grove) → Elem p (children q.name q.inner)
    → depth_in p.name depth grove ≡ suc (depth_in q.name depth grove)
inner_deep parent depth Bare q p o e f = absurd e
inner_deep parent depth (Tree node side image inner beside) q p o (inl e) f =
    let mine : Elem p (children node inner) = subst (λ z. Elem p (children z.name z.inner)) e f in
    let there = child_place node inner p mine in
    let outside : depth_in p.name depth beside ≡ 0 = absent p.name parent depth beside
    (λ r g same. once_apart (places node inner) (places parent beside) p r o.1 there g same) in
    let deep : depth_in p.name (suc depth) inner ≡ suc depth = child_deep node (suc depth) inner p
    (once_left (places node inner) (places parent beside) o.1) mine in
    pick_no (node == p.name) _ _ (ne_eqb node p.name
    (λ same. o.0 p (elem_left p (places node inner) (places parent beside) there) (sym same)))
    ∙ (let both : depth_in p.name (suc depth) inner + depth_in p.name depth beside
    ≡ suc depth = omega (arith, outside, deep) in both)
    ∙ ap suc
    (sym (pick_yes (node == q.name) depth _ (eq-eqb node q.name (sym (ap (λ z. z.name) e)))))
inner_deep parent depth (Tree node side image inner beside) q p o (inr e) f =
    by (elem_cut q (places node inner) (places parent beside) e)
    (λ g. inner_deep node (suc depth) inner q p
    (once_left (places node inner) (places parent beside) o.1) g f)
    (λ g. inner_deep parent depth beside q p
    (once_right (places node inner) (places parent beside) o.1) g f)
  where
    here : (r : Place) → Elem r (places node inner ++ places parent beside)
        → depth_in r.name depth (Tree node side image inner beside)
        ≡ depth_in r.name (suc depth) inner + depth_in r.name depth beside
    here r g =
        pick_no (node == r.name) depth (depth_in r.name (suc depth) inner
        + depth_in r.name depth beside) (ne_eqb node r.name (λ same. o.0 r g (sym same)))

    by : Elem q (places node inner) ⊎ Elem q (places parent beside) → (Elem q (places node inner)
        → depth_in p.name (suc depth) inner ≡ suc (depth_in q.name (suc depth) inner))
        → (Elem q (places parent beside)
        → depth_in p.name depth beside ≡ suc (depth_in q.name depth beside))
        → depth_in p.name depth (Tree node side image inner beside)
        ≡ suc (depth_in q.name depth (Tree node side image inner beside))
    by (inl g) first second =
        let there = inner_place node inner q p g f in
        let deep = first g in
        let none : (r : Place) → Elem r (places node inner) → depth_in r.name depth beside ≡ 0 =
        λ r h. absent r.name parent depth beside
        (λ s i same. once_apart (places node inner) (places parent beside) r s o.1 h i same) in
        here p (elem_left p (places node inner) (places parent beside) there)
        ∙ (let both : depth_in p.name (suc depth) inner + depth_in p.name depth beside
        ≡ suc (depth_in q.name (suc depth) inner + depth_in q.name depth beside) =
        omega (arith, deep, none p there, none q g) in both)
        ∙ ap suc (sym (here q e))
    by (inr g) first second =
        let there = inner_place parent beside q p g f in
        let deep = second g in
        let none : (r : Place) → Elem r (places parent beside) → depth_in r.name (suc depth) inner
        ≡ 0 = λ r h. absent r.name node (suc depth) inner (λ s i same.
        once_apart (places node inner) (places parent beside) s r o.1 i h (sym same)) in
        here p (elem_right p (places node inner) (places parent beside) there)
        ∙ (let both : depth_in p.name (suc depth) inner + depth_in p.name depth beside
        ≡ suc (depth_in q.name (suc depth) inner + depth_in q.name depth beside) =
        omega (arith, deep, none p there, none q g) in both)
        ∙ ap suc (sym (here q e))

-- a node of the tree is found by its name
pub finds : (ps : List Place) (p : Place) → Once ps → Elem p ps → found p.name ps ≡ Some p
finds [] p o e = absurd e
finds (q ∷ ps) p o (inl e) =
    pick (q.name == p.name) (eq-eqb q.name p.name (ap (λ z. z.name) (sym e)))
  where
    pick : (b : Bool) → b ≡ true → (if b then Some q else found p.name ps) ≡ Some p
    pick b f = rw f (ap Some (sym e))
finds (q ∷ ps) p o (inr e) =
    pick (q.name == p.name) (ne_eqb q.name p.name (λ f. o.0 p e (sym f))) (finds ps p o.1 e)
  where
    pick : (b : Bool) → b ≡ false → found p.name ps ≡ Some p
        → (if b then Some q else found p.name ps) ≡ Some p
    pick b f g = rw f g

-- and what is found has the name
pub found_there : (ps : List Place) (name : ℕ) (p : Place) → found name ps ≡ Some p
    → Elem p ps × (p.name ≡ name)
found_there [] name p e = absurd (none-some p e)
found_there (q ∷ ps) name p e = by (q.name == name) refl e (found_there ps name p)
  where
    by : (b : Bool) → (q.name == name) ≡ b → (if b then Some q else found name ps) ≡ Some p
        → (found name ps ≡ Some p → Elem p ps × (p.name ≡ name)) → Elem p (q ∷ ps) × (p.name ≡ name)
    by true f g on =
        let same : q ≡ p = same_Some q p g in
        (inl (sym same), ap (λ z. z.name) (sym same) ∙ eqb-true q.name name f)
    by false f g on = (inr (on g).0, (on g).1)

-- The words for the children at a side.
abbrev pub sent_to : (Place → List ℕ) → Side → List Place → List ℕ
sent_to words to ps = flat_map (λ p. at_side p.side to (words p)) ps

abbrev pub words_of : Part → Place → List ℕ
words_of part p = sent part p.name p.side p.image (pumps part p.inner)

pub words_sent : (part : Part) (parent : ℕ) (to : Side) (grove : Grove)
    → words_to part to grove ≡ sent_to (words_of part) to (children parent grove)
words_sent part parent to Bare = refl
words_sent part parent to (Tree name side image inner beside) =
    ap (λ l. at_side side to (sent part name side image (pumps part inner)) ++ l)
    (words_sent part parent to beside)

pub at_same : (side : Side) (words : List ℕ) → at_side side side words ≡ words
at_same side words =
    pick (side_bit side == side_bit side) (eq-eqb (side_bit side) (side_bit side) refl)
  where
    pick : (b : Bool) → b ≡ true → (if b then words else []) ≡ words
    pick b e = rw e refl

pub at_other : (side to : Side) (words : List ℕ) → (side ≡ to → ⊥) → at_side side to words ≡ []
at_other side to words apart =
    pick (side_bit side == side_bit to)
    (ne_eqb (side_bit side) (side_bit to) (λ e. apart (same_bit side to e)))
  where
    pick : (b : Bool) → b ≡ false → (if b then words else []) ≡ []
    pick b e = rw e refl

-- no child at the side
pub none_sent : (words : Place → List ℕ) (to : Side) (ps : List Place)
    → ((p : Place) → Elem p ps → p.side ≡ to → ⊥) → sent_to words to ps ≡ []
none_sent words to [] apart = refl
none_sent words to (p ∷ ps) apart =
    ap₂ (λ a b. a ++ b) (at_other p.side to (words p) (apart p (inl refl)))
    (none_sent words to ps (λ q e. apart q (inr e)))

-- one child at the side
pub one_sent : (words : Place → List ℕ) (ps : List Place) (parent : ℕ) (p : Place) → Once ps
    → ((q : Place) → Elem q ps → neighbour_of parent q.side ≡ Some q.name) → Elem p ps
    → sent_to words p.side ps ≡ words p
one_sent words [] parent p o there e = absurd e
one_sent words (q ∷ ps) parent p o there (inl e) =
    ap₂ (λ a b. a ++ b) (ap (λ z. at_side z.side p.side (words z)) (sym e)
    ∙ at_same p.side (words p))
    (none_sent words p.side ps (λ r f same. o.0 r f (same_Some r.name q.name (sym (there r (inr f))
    ∙ ap (neighbour_of parent) (same ∙ ap (λ z. z.side) e) ∙ there q (inl refl)))))
    ∙ append-nil (words p)
one_sent words (q ∷ ps) parent p o there (inr e) =
    ap₂ (λ a b. a ++ b) (at_other q.side p.side (words q) (λ same. o.0 p e (same_Some p.name q.name
    (sym (there p (inr e)) ∙ ap (neighbour_of parent) (sym same) ∙ there q (inl refl)))))
    (one_sent words ps parent p o.1 (λ r f. there r (inr f)) e)

-- each node of the tree, and its parent, is a node
pub named_all : (parent : ℕ) (grove : Grove) → IsNodeName parent
    → ((p : Place) → Elem p (places parent grove) → neighbour_of p.parent p.side ≡ Some p.name)
    → (p : Place) → Elem p (places parent grove) → IsNodeName p.name × IsNodeName p.parent
named_all parent Bare named there p e = absurd e
named_all parent (Tree name side image inner beside) named there p (inl e) =
    let here : neighbour_of parent side ≡ Some name = there (record
    { name = name; parent = parent; side = side; image = image; inner = inner }) (inl refl) in
    subst (λ q. IsNodeName q.name × IsNodeName q.parent) (sym e)
    (neighbour_of-IsNodeName parent name side named here, named)
named_all parent (Tree name side image inner beside) named there p (inr e) =
    let here : neighbour_of parent side ≡ Some name = there (record
    { name = name; parent = parent; side = side; image = image; inner = inner }) (inl refl) in
    by (elem_cut p (places name inner) (places parent beside) e)
    (λ f. named_all name inner (neighbour_of-IsNodeName parent name side named here)
    (λ q g. there q (inr (elem_left q (places name inner) (places parent beside) g))) p f)
    (λ f. named_all parent beside named
    (λ q g. there q (inr (elem_right q (places name inner) (places parent beside) g))) p f)
  where
    by : Elem p (places name inner) ⊎ Elem p (places parent beside)
        → (Elem p (places name inner) → IsNodeName p.name × IsNodeName p.parent)
        → (Elem p (places parent beside) → IsNodeName p.name × IsNodeName p.parent)
        → IsNodeName p.name × IsNodeName p.parent
    by (inl f) one two = one f
    by (inr f) one two = two f
