-- The plan of a tree is a plan of a chip whose root was given the two parts.
use Rattle.ga_path.specs.declared.parts.Part.TheVariants.{Load, Start}
use Rattle.std.proofs.Common.{arith, ◌==◌, false, ◌≤◌, ◌≡◌, ℕ, suc, ◌==◌, ◌<◌, ◌≤◌, ◌^◌, zero-le, Bool, true, false, List, [], ◌∷◌, ◌++◌, ◌⊎◌, inl, inr, length, map, option_map, Option, Some, None, is_some, refl, sym, ap, ap₂, ◌∙◌, subst, append_assoc}
use Rattle.std.specs.Prelude.{if◌then◌else◌}
use Rattle.std.specs.Option.{option_map_or}
use Rattle.std.proofs.lemmas.Grind.{common_steps}
use Rattle.std.proofs.lemmas.Bool.{cases_eq, eq-eqb, ne_eqb}
use Rattle.std.proofs.lemmas.Option.{same_Some, none-some}
use Rattle.std.proofs.lemmas.List.Concat.{flat_map-append}
use Rattle.ga_place.specs.Node.{IsNodeName}
use Rattle.ga_place.specs.Address.{port_address_of}
use Rattle.ga_place.specs.Side.{one_side, neighbour_of, has_side}
use Rattle.ga_place.specs.declared.side.Side.{Side}
use Rattle.ga_place.specs.declared.side.Sides.{Sides}
use Rattle.ga_place.proofs.SideLemmas.{shared_port}
use Rattle.ga_node.specs.State.{reset_state, booting_state}
use Rattle.ga_node.specs.Need.{wants}
use Rattle.ga_node.specs.Slot.{moved}
use Rattle.ga_frame.specs.Frame.{MORE}
use Rattle.ga_node.specs.declared.need.Need.TheVariants as need
use Rattle.ga_node.specs.declared.place.Place.TheVariants.{Slot0}
use Rattle.ga_chip.specs.Part.{Part}
use Rattle.ga_chip.specs.Chip.{Chip, part_of}
use Rattle.ga_chip.proofs.Kept.{has_name}
use Rattle.ga_asm.specs.Image.{ImageView}
use Rattle.ga_path.specs.Sequences.{Grove, Bare, Tree, SET_A, NOPS, jump_to, start_address, image_words, frame}
use Rattle.ga_boot.specs.inner.Local.{Local, Own, Feed, Take, lived, Goes, Calm, taken_at, posted_at, taken, posted, fed}
use Rattle.ga_boot.specs.inner.Script.{load_moves, subtree_moves, load_script, start_script, subtree_frames, root_script}
use Rattle.ga_boot.specs.inner.Plan.{Plan, script, first_of, IsRoot, IsInside, IsOutside, IsPlan, Prepares}
use Rattle.ga_boot.specs.Tree.{Place, places, Elem, found, HasRoom, IsTree}
use Rattle.ga_boot.specs.inner.TreePlan.{children, loading_by, starting_by, plan_of, IsGiven}
use Rattle.ga_boot.proofs.Bare.{bare}
use Rattle.ga_boot.proofs.Steps.{both, goes-append, lived-append, in_slot}
use Rattle.ga_boot.proofs.Pump.{Comes}
use Rattle.ga_boot.proofs.Store.{Leaves, holding}
use Rattle.ga_boot.proofs.Idle.{idle_apart, idle_low, idle_wants}
use Rattle.ga_boot.proofs.Node.{loads_node, starts_node}
use Rattle.ga_boot.proofs.Root.{waiting, sends_frames, loads_root, starts_root}
use Rattle.ga_boot.proofs.Words.{words_to, taken_loading, taken_starting, posted_loading, posted_starting, posted_root, taken_root, fed_inside}
use Rattle.ga_boot.proofs.Places.{absent, child_deep, inner_deep, named_all, child_of, child_place, HasOver, over_it, inner_place, once_children, once_inner, finds, found_there, words_of, words_sent, at_same, at_other, none_sent, one_sent}
use Rattle.ga_boot.proofs.Wires.{wire}
use Rattle.ga_boot.proofs.Steps.{fetching}

abbrev over_of : Place → ℕ × Side
over_of p = (p.parent, p.side)

module _ (root : ℕ) (image : Option ImageView) (trees : Grove) (is : IsTree root image trees) where
  abbrev all : List Place
  all = places root trees

  abbrev plan : Plan
  plan = plan_of root image trees

  -- the plan of a node of the tree
  pick_false : {A : Type 0} (b : Bool) (x y : A) → b ≡ false → (if b then x else y) ≡ y
  pick_false b x y e = rw e refl

  pick_true : {A : Type 0} (b : Bool) (x y : A) → b ≡ true → (if b then x else y) ≡ x
  pick_true b x y e = rw e refl

  pub has_parent : (p : Place) → Elem p all → plan.parent p.name ≡ Some (p.parent, p.side)
  has_parent p e = ap (option_map over_of) (finds all p is.once e)

  loads_place : (p : Place) → Elem p all → plan.loads p.name ≡ load_script p.side p.image p.inner
  loads_place p e =
      pick_false (p.name == root) (root_script Load root image trees)
      (loading_by (found p.name all)) (ne_eqb p.name root (is.apart p e))
      ∙ ap loading_by (finds all p is.once e)

  starts_place : (p : Place) → Elem p all
      → plan.starts p.name ≡ start_script p.name p.side p.image p.inner
  starts_place p e =
      pick_false (p.name == root) (root_script Start root image trees)
      (starting_by (found p.name all)) (ne_eqb p.name root (is.apart p e))
      ∙ ap starting_by (finds all p is.once e)

  pub loads_it : plan.loads root ≡ root_script Load root image trees
  loads_it =
      pick_true (root == root) (root_script Load root image trees) (loading_by (found root all))
      (eq-eqb root root refl)

  starts_it : plan.starts root ≡ root_script Start root image trees
  starts_it =
      pick_true (root == root) (root_script Start root image trees) (starting_by (found root all))
      (eq-eqb root root refl)

  not_found : (name : ℕ) (ps : List Place) → ((p : Place) → Elem p ps → p.name ≡ name → ⊥)
      → found name ps ≡ None
  not_found name [] none = refl
  not_found name (p ∷ ps) none =
      pick_false (p.name == name) (Some p) (found name ps) (ne_eqb p.name name (none p (inl refl)))
      ∙ not_found name ps (λ q e. none q (inr e))

  root_alone : found root all ≡ None
  root_alone = not_found root all is.apart

  -- a node that has a parent is of the tree
  of_tree : (name parent : ℕ) (side : Side) → plan.parent name ≡ Some (parent, side)
      → (p : Place) × Elem p all × (p.name ≡ name) × (p.parent ≡ parent) × (p.side ≡ side)
  of_tree name parent side e = by (found name all) refl e
    where
      by : (o : Option Place) → found name all ≡ o → option_map over_of o ≡ Some (parent, side)
          → (p : Place) × Elem p all × (p.name ≡ name) × (p.parent ≡ parent) × (p.side ≡ side)
      by None f g = absurd (none-some (parent, side) g)
      by (Some p) f g =
          let at = found_there all name p f in
          let same = same_Some (p.parent, p.side) (parent, side) g in
          (p, at.0, at.1, ap (λ z. z.0) same, ap (λ z. z.1) same)

  -- what the parent of a node of the tree posts at its side
  over_posts : (p : Place) → Elem p all → HasOver root trees p
      → (posted p.side (plan.loads p.parent) ≡ words_of Load p)
      × (posted p.side (plan.starts p.parent) ≡ words_of Start p)
  over_posts p e (inl f) =
      let at = child_of root trees p f in
      let there : (q : Place) → Elem q (children root trees) → neighbour_of root q.side
      ≡ Some q.name = λ q g. ap (λ n. neighbour_of n q.side) (sym (child_of root trees q g))
      ∙ is.there q (child_elem q g) in (
        ap (λ n. posted p.side (plan.loads n)) at ∙ ap (posted p.side) loads_it
            ∙ posted_root Load p.side root image trees ∙ words_sent Load root p.side trees
            ∙ one_sent (words_of Load) (children root trees) root p
            (once_children root trees is.once) there f,
        ap (λ n. posted p.side (plan.starts n)) at ∙ ap (posted p.side) starts_it
            ∙ posted_root Start p.side root image trees ∙ words_sent Start root p.side trees
            ∙ one_sent (words_of Start) (children root trees) root p
            (once_children root trees is.once) there f,
      )
    where
      child_elem : (q : Place) → Elem q (children root trees) → Elem q all
      child_elem q g = child_place root trees q g
  over_posts p e (inr (q, f, g)) =
      let at = child_of q.name q.inner p g in
      let there : (r : Place) → Elem r (children q.name q.inner) → neighbour_of q.name r.side
      ≡ Some r.name = λ r h. ap (λ n. neighbour_of n r.side) (sym (child_of q.name q.inner r h))
      ∙ is.there r (inner_place root trees q r f h) in (
        ap (λ n. posted p.side (plan.loads n)) at ∙ ap (posted p.side) (loads_place q f)
            ∙ posted_loading q.side p.side q.image q.inner ∙ words_sent Load q.name p.side q.inner
            ∙ one_sent (words_of Load) (children q.name q.inner) q.name p
            (once_inner root trees q is.once f) there g,
        ap (λ n. posted p.side (plan.starts n)) at ∙ ap (posted p.side) (starts_place q f)
            ∙ posted_starting q.name q.side p.side q.image q.inner
            ∙ words_sent Start q.name p.side q.inner ∙ one_sent (words_of Start)
            (children q.name q.inner) q.name p (once_inner root trees q is.once f) there g,
      )

  -- A node of the tree, which is as after reset.
  module _ (chip : Chip) (is_given : IsGiven root chip) where
    starts_low : (name : ℕ) (image : Option ImageView) → HasRoom image
        → start_address name image < 2 ^ 10
    starts_low name (Some image) h = let near = h.entry_near in grind (arith, common_steps, near)
    starts_low name None h = idle_low name

    -- no start address is the completion that announces another frame
    starts_end : (name : ℕ) (image : Option ImageView) → HasRoom image
        → (start_address name image == MORE) ≡ false
    starts_end name (Some image) h =
        let near = h.entry_near in ne_eqb image.entry MORE (λ e. omega (arith, e, near))
    starts_end name None h = idle_apart name

    pub named_place : (p : Place) → Elem p all → IsNodeName p.name × IsNodeName p.parent
    named_place p e = named_all root trees is.named is.there p e

    has_it : (p : Place) → Elem p all → has_side p.name p.side ≡ true
    has_it p e = ap is_some (shared_port p.parent p.name p.side (named_place p e).1 (is.there p e))

    -- the load and the start of a node of the tree
    load_node : (p : Place) → Elem p all → Leaves (in_slot p.side NOPS Slot0)
        (moved (reset_state p.name) (Some (jump_to (port_address_of p.side))))
        (Own ∷ (subtree_moves Load p.side p.inner
        ++ (load_moves p.side p.image ++ Take p.side NOPS ∷ []))) (holding (image_words p.image))
    load_node p e =
        loads_node p.name p.side p.image p.inner (reset_state p.name) (has_it p e)
        (is.images p e) refl

    start_node : (p : Place) (e : Elem p all)
        → Comes (Unit {0}) (fetching (start_address p.name p.image)) (in_slot p.side NOPS Slot0
        (load_node p e).rest) (start_script p.name p.side p.image p.inner)
    start_node p e =
        starts_node p.name p.side p.image p.inner (load_node p e).rest
        (starts_low p.name p.image (is.images p e))

    -- its state when its load is taken
    load_to : (p : Place) (e : Elem p all) → lived (reset_state p.name)
        (load_script p.side p.image p.inner) ≡ in_slot p.side NOPS Slot0 (load_node p e).rest
    load_to p e = (load_node p e).way.to

    goes_all : (p : Place) (e : Elem p all)
        → Goes (moved (reset_state p.name) (Some (jump_to (port_address_of p.side))))
        ((Own ∷ (subtree_moves Load p.side p.inner ++ (load_moves p.side p.image ++ Take p.side NOPS
        ∷ []))) ++ start_script p.name p.side p.image p.inner)
    goes_all p e =
        goes-append (moved (reset_state p.name) (Some (jump_to (port_address_of p.side))))
        (Own ∷ (subtree_moves Load p.side p.inner ++ (load_moves p.side p.image ++ Take p.side NOPS
        ∷ []))) (start_script p.name p.side p.image p.inner)
        (load_node p e).way.goes (subst (λ s. Goes s (start_script p.name p.side p.image p.inner))
        (sym (load_to p e)) (start_node p e).way.goes)

    -- its load ends with a word that it takes
    load_last : (side : Side) (image : Option ImageView) (inner : Grove) → (front : List Local)
        × (word : ℕ) × (load_script side image inner ≡ front ++ Take side word ∷ [])
    load_last side image inner = (
      Take side (jump_to (port_address_of side)) ∷ Own
          ∷ (subtree_moves Load side inner ++ load_moves side image),
      NOPS,
      ap (λ l. Take side (jump_to (port_address_of side)) ∷ Own ∷ l) (sym (append_assoc
          (subtree_moves Load side inner) (load_moves side image) (Take side NOPS ∷ []))),
    )

    -- and it starts with a word that it takes before it posts one
    start_first : (name : ℕ) (side : Side) (image : Option ImageView) (inner : Grove)
        → (front : List Local) × (word : ℕ) × (more : List Local)
        × (start_script name side image inner ≡ front ++ Take side word ∷ more)
        × ((to : Side) → posted to front ≡ [])
    start_first name side image Bare =
        (Own ∷ Own ∷ Own ∷ Own ∷ [], jump_to (start_address name image), Own ∷ [], refl, λ to. refl)
    start_first name side image (Tree n out i inner beside) =
        (Own ∷ Own ∷ Own ∷ Own ∷ [], SET_A, _, refl, λ to. refl)

    -- the node above it
    over : (p : Place) → Elem p all → HasOver root trees p
        → ((p.parent ≡ root) ⊎ ((above : ℕ × Side) × (plan.parent p.parent ≡ Some above)))
        × (plan.depth p.name ≡ suc (plan.depth p.parent))
    over p e (inl f) =
        let at = child_of root trees p f in (
          inl at,
          child_deep root 1 trees p is.once f ∙ ap suc (sym (absent root root 1 trees is.apart))
              ∙ ap (λ n. suc (plan.depth n)) (sym at),
        )
    over p e (inr (q, f, g)) =
        let at = child_of q.name q.inner p g in (
          inr (over_of q, ap plan.parent at ∙ has_parent q f),
          inner_deep root 1 trees q p is.once f g ∙ ap (λ n. suc (plan.depth n)) (sym at),
        )

    idle_sides : (name : ℕ) → IsNodeName name
        → (sides : Sides) × (wants (reset_state name) ≡ need.Take sides) × (one_side sides ≡ None)
    idle_sides name named = idle_wants name (reset_state name) named

    pub script_is : (p : Place) → Elem p all → script plan p.name
        ≡ load_script p.side p.image p.inner ++ start_script p.name p.side p.image p.inner
    script_is p e = ap₂ (λ a b. a ++ b) (loads_place p e) (starts_place p e)

    inside_place : (p : Place) (part : Part) → Elem p all → part_of chip p.name ≡ Some part
        → IsInside plan p.name p.parent p.side part
    inside_place p part e there =
        let first : first_of part ≡ reset_state p.name =
        ap bare (is_given.others p.name part there (is.apart p e)) in
        let above = over p e (over_it root trees p e) in
        let posts = over_posts p e (over_it root trees p e) in
        let last = load_last p.side p.image p.inner in
        let next = start_first p.name p.side p.image p.inner in
        record {
          there = is.there p e;
          wire = wire p.parent p.name p.side (named_place p e).1 (is.there p e);
          above = above.0;
          deeper = above.1;
          idle = subst (λ s. (sides : Sides) × (wants s ≡ need.Take sides)
              × (one_side sides ≡ None)) (sym first) (idle_sides p.name (named_place p e).0);
          first = (
            jump_to (port_address_of p.side),
            _,
            script_is p e,
            subst (λ s. Goes (moved s (Some (jump_to (port_address_of p.side))))
                ((Own ∷ (subtree_moves Load p.side p.inner ++ (load_moves p.side p.image
                ++ Take p.side NOPS ∷ []))) ++ start_script p.name p.side p.image p.inner))
                (sym first) (goes_all p e),
          );
          last = (last.0, last.1, loads_place p e ∙ last.2);
          next = (next.0, next.1, next.2, starts_place p e ∙ next.3, next.4);
          only = λ from apart. ap (taken from) (script_is p e) ∙ flat_map-append (taken_at from)
              (load_script p.side p.image p.inner) (start_script p.name p.side p.image p.inner)
              ∙ ap₂ (λ a b. a ++ b) (taken_loading p.name p.side from p.image p.inner
              ∙ at_other p.side from _ (λ f. apart (sym f))) (taken_starting p.name p.side from
              p.image p.inner ∙ at_other p.side from _ (λ f. apart (sym f)));
          feeds = ap fed (script_is p e) ∙ fed_inside p.name p.side p.image p.inner;
          loaded = posts.0 ∙ sym (at_same p.side (words_of Load p))
              ∙ sym (taken_loading p.name p.side p.side p.image p.inner)
              ∙ ap (taken p.side) (sym (loads_place p e));
          started = posts.1 ∙ sym (at_same p.side (words_of Start p))
              ∙ sym (taken_starting p.name p.side p.side p.image p.inner)
              ∙ ap (taken p.side) (sym (starts_place p e));
          settled = ap₂ (λ s l. (lived s l).posted) first (loads_place p e)
              ∙ ap (λ s. s.posted) (load_to p e);
        }

    -- The root.
    load_root : Leaves waiting (booting_state root) (root_script Load root image trees)
        (holding (image_words image))
    load_root =
        let one : Comes ⊥ waiting (waiting (booting_state root)) (subtree_frames Load trees) =
        sends_frames Load trees (booting_state root) in
        let two = loads_root (image_words image) one.rest (short image is.loads) one.ram in
        record {
          rest = two.rest;
          way = both _ _ _ (subtree_frames Load trees)
              (map Feed (frame MORE 0 (image_words image))) one.way two.way;
          memory = two.memory;
        }
      where
        short : (image : Option ImageView) → HasRoom image → length (image_words image) ≤ 64
        short None h = zero-le
        short (Some image) h = h.most

    start_root : Comes (Unit {0}) (fetching (start_address root image)) (waiting load_root.rest)
        (root_script Start root image trees)
    start_root =
        let one : Comes (Unit {0}) waiting (waiting load_root.rest) (subtree_frames Start trees) =
        sends_frames Start trees load_root.rest in
        let two : Comes (Unit {0}) (fetching (start_address root image)) (waiting one.rest)
        (map Feed (frame (start_address root image) 0 [])) = starts_root (start_address root image)
        one.rest (starts_low root image is.loads) (starts_end root image is.loads) in
        record {
          rest = two.rest;
          way = both _ _ _ (subtree_frames Start trees)
              (map Feed (frame (start_address root image) 0 [])) one.way two.way;
          ram = two.ram ∙ one.ram;
        }

    goes_root : Goes (booting_state root)
        (root_script Load root image trees ++ root_script Start root image trees)
    goes_root =
        goes-append (booting_state root) (root_script Load root image trees)
        (root_script Start root image trees) load_root.way.goes (subst (λ s. Goes s
        (root_script Start root image trees)) (sym load_root.way.to) start_root.way.goes)

    feeds_last : (front : List Local) (word : ℕ) (words : List ℕ) → (fore : List Local) × (last : ℕ)
        × (front ++ map Feed (word ∷ words) ≡ fore ++ Feed last ∷ [])
    feeds_last front word [] = (front, word, refl)
    feeds_last front word (next ∷ words) =
        let more = feeds_last (front ++ Feed word ∷ []) next words in (
          more.0,
          more.1,
          sym (append_assoc front (Feed word ∷ []) (map Feed (next ∷ words))) ∙ more.2,
        )

    pub script_root : script plan root ≡ root_script Load root image trees
        ++ root_script Start root image trees
    script_root = ap₂ (λ a b. a ++ b) loads_it starts_it

    root_place : (part : Part) → part_of chip root ≡ Some part → IsRoot plan part
    root_place part there =
        let first : first_of part ≡ booting_state root = ap bare (is_given.booting part there) in
        let last = feeds_last (subtree_frames Load trees) MORE
        (0 ∷ length (image_words image) ∷ image_words image) in
        record {
          goes = subst (λ s. Goes s (script plan root)) (sym first)
              (subst (Goes (booting_state root)) (sym script_root) goes_root);
          last = (last.0, last.1, loads_it ∙ last.2);
          takes = λ side. ap (taken side) script_root ∙ taken_root side root image trees;
          settled =
              ap₂ (λ s l. (lived s l).posted) first loads_it ∙ ap (λ s. s.posted) load_root.way.to;
        }

    -- A node that isn't of the tree.
    outside_place : (name : ℕ) (part : Part) → plan.parent name ≡ None → (name ≡ root → ⊥)
        → part_of chip name ≡ Some part → IsOutside plan name part
    outside_place name part alone apart there =
        let first : first_of part ≡ reset_state name =
        ap bare (is_given.others name part there apart) in
        let none : found name all ≡ None = by (found name all) alone in
        record {
          nothing = ap₂ (λ a b. a ++ b)
              (pick_false (name == root) (root_script Load root image trees)
              (loading_by (found name all)) (ne_eqb name root apart) ∙ ap loading_by none)
              (pick_false (name == root) (root_script Start root image trees)
              (starting_by (found name all)) (ne_eqb name root apart) ∙ ap starting_by none);
          idle =
              subst (λ s. (sides : Sides) × (wants s ≡ need.Take sides) × (one_side sides ≡ None))
              (sym first) (idle_sides name (has_name chip name part is_given.legal there));
        }
      where
        by : (o : Option Place) → option_map over_of o ≡ None → o ≡ None
        by None e = refl
        by (Some p) e = absurd (none-some (over_of p) (sym e))

    -- In the plan a word is posted only to a child.
    posts_at : (name : ℕ) (side : Side) (grove : Grove)
        → ((p : Place) → Elem p (children name grove) → p.side ≡ side → ⊥)
        → (words_to Load side grove ≡ []) × (words_to Start side grove ≡ [])
    posts_at name side grove apart = (
      words_sent Load name side grove
          ∙ none_sent (words_of Load) side (children name grove) apart,
      words_sent Start name side grove
          ∙ none_sent (words_of Start) side (children name grove) apart,
    )

    child_there : (name other : ℕ) (side : Side) (p : Place) → Elem p all → p.parent ≡ name
        → p.side ≡ side → neighbour_of name side ≡ Some other
        → (plan.parent other ≡ Some (name, side) → ⊥) → ⊥
    child_there name other side p e at same there other_parent =
        let is_other : p.name ≡ other =
        same_Some p.name other (sym (is.there p e) ∙ ap₂ neighbour_of at same ∙ there) in
        other_parent (ap plan.parent (sym is_other) ∙ has_parent p e
        ∙ ap₂ (λ a b. Some (a, b)) at same)

    to_children : (name other : ℕ) (side : Side) → neighbour_of name side ≡ Some other
        → (plan.parent other ≡ Some (name, side) → ⊥) → posted side (script plan name) ≡ []
    to_children name other side there other_parent = by (cases_eq name root) (found name all) refl
      where
        by : (name ≡ root) ⊎ (name ≡ root → ⊥) → (o : Option Place) → found name all ≡ o
            → posted side (script plan name) ≡ []
        by (inl same) o e =
            let none = posts_at root side trees (λ p f g. child_there name other side p (child_place
            root trees p f) (child_of root trees p f ∙ sym same) g there other_parent) in
            ap (λ n. posted side (script plan n)) same ∙ ap (posted side) script_root
            ∙ flat_map-append (posted_at side) (root_script Load root image trees)
            (root_script Start root image trees)
            ∙ ap₂ (λ a b. a ++ b) (posted_root Load side root image trees
            ∙ none.0) (posted_root Start side root image trees ∙ none.1)
        by (inr apart) None e = ap (posted side) (ap₂ (λ a b. a ++ b)
            (pick_false (name == root) (root_script Load root image trees)
            (loading_by (found name all)) (ne_eqb name root apart) ∙ ap loading_by e)
            (pick_false (name == root) (root_script Start root image trees)
            (starting_by (found name all)) (ne_eqb name root apart) ∙ ap starting_by e))
        by (inr apart) (Some q) e =
            let at = found_there all name q e in
            let none = posts_at q.name side q.inner
            (λ p f g. child_there name other side p (inner_place root trees q p at.0 f)
            (child_of q.name q.inner p f ∙ at.1) g there other_parent) in
            ap (λ n. posted side (script plan n)) (sym at.1) ∙ ap (posted side) (script_is q at.0)
            ∙ flat_map-append (posted_at side) (load_script q.side q.image q.inner)
            (start_script q.name q.side q.image q.inner)
            ∙ ap₂ (λ a b. a ++ b) (posted_loading q.side side q.image q.inner
            ∙ none.0) (posted_starting q.name q.side side q.image q.inner ∙ none.1)

    inside_named : (name parent : ℕ) (side : Side) → plan.parent name ≡ Some (parent, side)
        → IsNodeName name × IsNodeName parent
    inside_named name parent side e =
        let p = of_tree name parent side e in
        let both_named = named_place p.0 p.1 in
        (subst IsNodeName p.2 both_named.0, subst IsNodeName p.3 both_named.1)

    inside_it : (name parent : ℕ) (side : Side) (part : Part)
        → plan.parent name ≡ Some (parent, side) → part_of chip name ≡ Some part
        → IsInside plan name parent side part
    inside_it name parent side part e there =
        let p = of_tree name parent side e in
        subst (λ s. IsInside plan name parent s part) p.4
        (subst (λ n. IsInside plan name n p.0.side part) p.3 (subst (λ n. IsInside plan n p.0.parent
        p.0.side part) p.2 (inside_place p.0 part p.1 (ap (part_of chip) p.2 ∙ there))))

    -- THE PLAN OF A TREE IS A PLAN of the chip
    pub is_plan : IsPlan plan chip
    is_plan = record {
      legal = is_given.legal;
      empty = is_given.empty;
      root = root_place;
      root_named = is.named;
      inside = inside_it;
      inside_named = inside_named;
      rootless = ap (option_map over_of) root_alone;
      outside = outside_place;
      to_children = to_children;
    }

    -- and each node of it is prepared for its image
    pub prepares_root : (part : Part) → part_of chip root ≡ Some part
        → Prepares plan root part (holding (image_words image)) (start_address root image)
    prepares_root part there =
        let first : first_of part ≡ booting_state root = ap bare (is_given.booting part there) in
        let at : lived (first_of part) (plan.loads root) ≡ waiting load_root.rest =
        ap₂ lived first loads_it ∙ load_root.way.to in
        record {
          memory = ap (λ s. s.ram) at ∙ load_root.memory;
          calm = subst (λ s. Calm s (plan.starts root)) (sym at)
              (subst (Calm (waiting load_root.rest)) (sym starts_it) (start_root.way.calm tt));
          at = ap (λ s. s.p) (lived-append (first_of part) (plan.loads root) (plan.starts root)
              ∙ ap₂ lived at starts_it ∙ start_root.way.to);
        }

    pub prepares : (p : Place) (part : Part) → Elem p all → part_of chip p.name ≡ Some part
        → Prepares plan p.name part (holding (image_words p.image)) (start_address p.name p.image)
    prepares p part e there =
        let first : first_of part ≡ reset_state p.name =
        ap bare (is_given.others p.name part there (is.apart p e)) in
        let at : lived (first_of part) (plan.loads p.name) ≡ in_slot p.side NOPS Slot0
        (load_node p e).rest = ap₂ lived first (loads_place p e) ∙ load_to p e in
        record {
          memory = ap (λ s. s.ram) at ∙ (load_node p e).memory;
          calm = subst (λ s. Calm s (plan.starts p.name)) (sym at)
              (subst (Calm (in_slot p.side NOPS Slot0 (load_node p e).rest))
              (sym (starts_place p e)) ((start_node p e).way.calm tt));
          at = ap (λ s. s.p) (lived-append (first_of part) (plan.loads p.name) (plan.starts p.name)
              ∙ ap₂ lived at (starts_place p e) ∙ (start_node p e).way.to);
        }
