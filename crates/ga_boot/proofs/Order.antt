-- Once a node goes on behind its load, all nodes of the tree have taken their load words whole.
use Rattle.std.proofs.Common.{◌≡◌, ℕ, zero, suc, ◌+◌, ◌≤◌, ◌<◌, true, List, [], ◌∷◌, ◌++◌, ◌⊎◌, inl, inr, length, Option, Some, None, refl, sym, ap, ◌∙◌, subst, append_assoc, length-append, arith}
use Rattle.std.specs.Option.{option_to_list}
use Rattle.std.proofs.lemmas.Option.{same_Some, none-some}
use Rattle.std.proofs.lemmas.List.Concat.{flat_map-append}
use Rattle.ga_place.specs.Node.{IsNodeName}
use Rattle.ga_place.specs.declared.side.Side.{Side}
use Rattle.ga_place.specs.declared.side.Side.TheVariants.{Right, Down, Left, Up}
use Rattle.ga_node.specs.State.{State}
use Rattle.ga_node.specs.Need.{wants, need_of}
use Rattle.ga_node.specs.Slot.{moved, step}
use Rattle.ga_node.specs.declared.need.Need.{Need}
use Rattle.ga_node.specs.declared.need.Need.TheVariants as need
use Rattle.ga_chip.specs.Part.{Part}
use Rattle.ga_chip.specs.Chip.{Chip, part_of, pending}
use Rattle.ga_chip.specs.Run.{Event, ran}
use Rattle.ga_chip.specs.Laws.{AgreesWith}
use Rattle.ga_place.proofs.Cells.{reader_there}
use Rattle.ga_node.proofs.Rows.{step_posted, post_after, is_running}
use Rattle.ga_chip.proofs.Lists.{agree_after}
use Rattle.ga_chip.proofs.Kept.{legal_ran}
use Rattle.ga_chip.proofs.Numbers.{part_there}
use Rattle.ga_boot.specs.inner.Local.{Local, Own, Feed, Take, Post, Check, given, lived, Answers, Lives, taken_at, posted_at, taken, posted, history}
use Rattle.ga_boot.specs.inner.Plan.{Plan, script, first_of, IsInside, IsPlan}
use Rattle.ga_boot.proofs.Bare.{bare, wants_bare, moved_bare}
use Rattle.ga_boot.proofs.Steps.{lived-append}
use Rattle.ga_boot.proofs.History.{stood_ran}
use Rattle.ga_boot.proofs.Flow.{hands_over}
use Rattle.ga_boot.proofs.Booting.{reached, past_front, takes_first, own_take}

-- What a node has posted after a move.
abbrev post_of : Local → Option (Side × ℕ) → Option (Side × ℕ)
post_of (Post side word) before = Some (side, word)
post_of (Check side) before = None
post_of _ before = before

moved_post : (state : State) (taken : Option ℕ) (n : Need) → wants state ≡ n → is_running n ≡ true
    → (moved state taken).posted ≡ post_after n state.posted
unfolding step need_of
moved_post state taken n e running =
    let is : need_of (bare state) ≡ n = wants_bare state ∙ e in
    ap (λ s. s.posted) (sym (moved_bare state taken))
    ∙ step_posted (bare state) taken (ap is_running is ∙ running)
    ∙ ap (λ m. post_after m state.posted) is

posted_by : (m : Local) (state : State) → Answers m (wants state)
    → (moved state (given m)).posted ≡ post_of m state.posted
posted_by Own state p = moved_post state None need.Own p refl
posted_by (Feed word) state p = moved_post state (Some word) need.Input p refl
posted_by (Take side word) state p = moved_post state (Some word) (need.Take p.0) p.1 refl
posted_by (Post side word) state p = moved_post state None (need.Post side word) p refl
posted_by (Check side) state p = moved_post state None (need.Check side) p refl

own_post : (side : Side) (word : ℕ) → posted_at side (Post side word) ≡ word ∷ []
own_post Right word = refl
own_post Down word = refl
own_post Left word = refl
own_post Up word = refl

-- a node at a check has posted a word there
posts_in : (state : State) (ms : List Local) (side : Side) (word : ℕ) → Lives state ms
    → (lived state ms).posted ≡ Some (side, word)
    → (state.posted ≡ Some (side, word)) ⊎ (1 ≤ length (posted side ms))
posts_in state [] side word g e = inl e
posts_in state (m ∷ ms) side word g e = by (posts_in (moved state (given m)) ms side word g.1 e)
  where
    long : length (posted side (m ∷ ms)) ≡ length (posted_at side m) + length (posted side ms)
    long = length-append (posted_at side m) (posted side ms)

    here : (x : Local) → post_of x state.posted ≡ Some (side, word)
        → (state.posted ≡ Some (side, word)) ⊎ (1 ≤ length (posted_at side x))
    here Own f = inl f
    here (Feed w) f = inl f
    here (Take s w) f = inl f
    here (Post s w) f =
        let same : s ≡ side = ap (λ z. z.0) (same_Some (s, w) (side, word) f) in
        inr (subst (λ z. 1 ≤ length (posted_at side (Post z w))) (sym same)
        (omega (arith, ap (λ l. length l) (own_post side w))))
    here (Check s) f = absurd (none-some (side, word) f)

    more : (state.posted ≡ Some (side, word)) ⊎ (1 ≤ length (posted_at side m))
        → (state.posted ≡ Some (side, word)) ⊎ (1 ≤ length (posted side (m ∷ ms)))
    more (inl f) = inl f
    more (inr f) = inr (omega (arith, long, f))

    by : ((moved state (given m)).posted ≡ Some (side, word)) ⊎ (1 ≤ length (posted side ms))
        → (state.posted ≡ Some (side, word)) ⊎ (1 ≤ length (posted side (m ∷ ms)))
    by (inl f) = more (here m (sym (posted_by m state g.0) ∙ f))
    by (inr f) = inr (omega (arith, long, f))

lives_behind : (state : State) (ms more : List Local) → Lives state (ms ++ more)
    → Lives (lived state ms) more
lives_behind state [] more g = g
lives_behind state (m ∷ ms) more g = lives_behind (moved state (given m)) ms more g.1

module _ (plan : Plan) (chip : Chip) (is : IsPlan plan chip) (events : List Event)
    (agrees : (name : ℕ) → AgreesWith (history chip events name) (script plan name)) where
  -- the state of a node now
  abbrev did : ℕ → List Local
  did name = history chip events name

  -- the words that a node took from its parent are those that the parent posted, apart from one
  -- that is pending
  pub handed : (name parent : ℕ) (side : Side) (part : Part)
      → plan.parent name ≡ Some (parent, side) → (i : IsInside plan name parent side part)
      → posted side (did parent) ≡ taken side (did name)
      ++ option_to_list (pending (ran chip events) i.wire.0)
  handed name parent side part e i =
      let named = is.inside_named name parent side e in
      hands_over chip events parent name i.wire.0 side is.legal (is.empty i.wire.0) named.1 named.0
      i.wire.1 (reader_there parent name i.wire.0 side named.1 i.wire.1 i.there)

  -- the node has taken its load words, as its history shows
  abbrev pub Loaded : ℕ → Type 0
  Loaded name = (rest : List Local) × (did name ≡ plan.loads name ++ rest)

  -- a loaded parent's child has taken as many words as its load words have
  passes : (name parent : ℕ) (side : Side) (part over : Part)
      → plan.parent name ≡ Some (parent, side) → IsInside plan name parent side part
      → part_of chip parent ≡ Some over → (lived (first_of over) (plan.loads parent)).posted ≡ None
      → Loaded parent → length (posted side (plan.loads parent)) ≤ length (taken side (did name))
  passes name parent side part over e i there settled (rest, f) =
      by (pending (ran chip events) i.wire.0) refl
    where
      cut : length (posted side (did parent)) ≡ length (posted side (plan.loads parent))
          + length (posted side rest)
      cut =
          ap (λ l. length (posted side l)) f
          ∙ ap (λ l. length l) (flat_map-append (posted_at side) (plan.loads parent) rest)
          ∙ length-append (posted side (plan.loads parent)) (posted side rest)

      flow : (o : Option ℕ) → pending (ran chip events) i.wire.0 ≡ o
          → length (posted side (did parent)) ≡ length (taken side (did name))
          + length (option_to_list o)
      flow o g =
          ap (λ l. length l)
          (handed name parent side part e i ∙ ap (λ o. taken side (did name) ++ option_to_list o) g)
          ∙ length-append (taken side (did name)) (option_to_list o)

      by : (o : Option ℕ) → pending (ran chip events) i.wire.0 ≡ o
          → length (posted side (plan.loads parent)) ≤ length (taken side (did name))
      by None g = omega (arith, cut, flow None g)
      by (Some word) g =
          let s = stood_ran chip events parent over is.legal there in
          let at = (legal_ran chip events is.legal).checked parent i.wire.0 word side s.now i.wire.1
          s.there g in
          let stands : (lived (lived (first_of over) (plan.loads parent)) rest).posted
          ≡ Some (side, at.0) =
          ap (λ x. x.posted) (sym (lived-append (first_of over) (plan.loads parent) rest)
          ∙ ap (lived (first_of over)) (sym f) ∙ sym s.state) ∙ at.1 in
          let lives : Lives (lived (first_of over) (plan.loads parent)) rest = lives_behind
          (first_of over) (plan.loads parent) rest (subst (Lives (first_of over)) f s.lives) in
          some word g at.0
          (posts_in (lived (first_of over) (plan.loads parent)) rest side at.0 lives stands)
        where
          some : (word : ℕ) → pending (ran chip events) i.wire.0 ≡ Some word → (w : ℕ)
              → ((lived (first_of over) (plan.loads parent)).posted ≡ Some (side, w))
              ⊎ (1 ≤ length (posted side rest))
              → length (posted side (plan.loads parent)) ≤ length (taken side (did name))
          some word g w (inl h) = absurd (none-some (side, w) (sym settled ∙ h))
          some word g w (inr h) = omega (arith, cut, flow (Some word) g, h)

  -- so the child is loaded too
  child_loaded : (name parent : ℕ) (side : Side) (part over : Part)
      → plan.parent name ≡ Some (parent, side) → IsInside plan name parent side part
      → part_of chip parent ≡ Some over → (lived (first_of over) (plan.loads parent)).posted ≡ None
      → Loaded parent → Loaded name
  child_loaded name parent side part over e i there settled loaded =
      let last = i.last in
      let many : length (taken side (last.0 ++ Take side last.1 ∷ []))
      ≤ length (taken side (did name)) =
      subst (λ l. length l ≤ length (taken side (did name))) (i.loaded ∙ ap (taken side) last.2)
      (passes name parent side part over e i there settled loaded) in
      let has : AgreesWith (did name) ((last.0 ++ Take side last.1 ∷ []) ++ plan.starts name) =
      subst (λ l. AgreesWith (did name) (l ++ plan.starts name)) last.2 (agrees name) in
      let at = reached (taken_at side) (did name) last.0 (plan.starts name)
      (Take side last.1) has many (omega (arith, ap (λ l. length l) (own_take side last.1))) in
      (at.0, at.1 ∙ ap (λ l. l ++ at.0) (sym last.2))

  none_deep : (n : ℕ) → zero ≡ suc n → ⊥
  none_deep n e = omega arith

  one_less : (m n : ℕ) → suc m ≡ suc n → m ≡ n
  one_less m n e = omega arith

  down_once : (name parent : ℕ) (side : Side) (part : Part) → plan.parent name ≡ Some (parent, side)
      → part_of chip name ≡ Some part → Loaded plan.root → ((p : Part) (above : ℕ × Side)
      → plan.parent parent ≡ Some above → part_of chip parent ≡ Some p → Loaded parent)
      → Loaded name
  down_once name parent side part e there root on = by i.above
    where
      i : IsInside plan name parent side part
      i = is.inside name parent side part e there

      over : (p : Part) × (part_of chip parent ≡ Some p)
      over = part_there chip parent is.legal (is.inside_named name parent side e).1

      by : (parent ≡ plan.root) ⊎ ((above : ℕ × Side) × (plan.parent parent ≡ Some above))
          → Loaded name
      by (inl same) =
          let settled : (lived (first_of over.0) (plan.loads parent)).posted ≡ None =
          ap (λ n. (lived (first_of over.0) (plan.loads n)).posted) same
          ∙ (is.root over.0 (ap (part_of chip) (sym same) ∙ over.1)).settled in
          child_loaded name parent side part over.0 e i over.1 settled
          (subst Loaded (sym same) root)
      by (inr (above, f)) =
          let settled = (is.inside parent above.0 above.1 over.0 f over.1).settled in
          child_loaded name parent side part over.0 e i over.1 settled (on over.0 above f over.1)

  -- DOWN THE TREE: if the root is loaded, each node of the tree is
  pub down : (depth name parent : ℕ) (side : Side) (part : Part) → plan.depth name ≡ depth
      → plan.parent name ≡ Some (parent, side) → part_of chip name ≡ Some part → Loaded plan.root
      → Loaded name
  down zero name parent side part d e there root =
      absurd
      (none_deep (plan.depth parent) (sym d ∙ (is.inside name parent side part e there).deeper))
  down (suc depth) name parent side part d e there root =
      down_once name parent side part e there root
      (λ p above f at. down depth parent above.0 above.1 p (one_less (plan.depth parent) depth
      (sym (is.inside name parent side part e there).deeper ∙ d)) f at root)

  -- a node that went on behind its load has taken a word more than its load words
  takes_more : (name parent : ℕ) (side to : Side) (part : Part)
      → IsInside plan name parent side part
      → length (posted to (plan.loads name)) < length (posted to (did name))
      → length (taken side (plan.loads name)) < length (taken side (did name))
  takes_more name parent side to part i more =
      let at = past_front (posted_at to) (did name) (plan.loads name) (plan.starts name)
      (agrees name) more in
      let next = i.next in
      let behind : AgreesWith at.0 (next.0 ++ Take side next.1 ∷ next.2) =
      subst (AgreesWith at.0) next.3 (agree_after (plan.loads name) at.0 (plan.starts name)
      (subst (λ l. AgreesWith l (script plan name)) at.1 (agrees name))) in
      let posts : length (posted to (did name)) ≡ length (posted to (plan.loads name))
      + length (posted to at.0) = ap (λ l. length (posted to l)) at.1
      ∙ ap (λ l. length l) (flat_map-append (posted_at to) (plan.loads name) at.0)
      ∙ length-append (posted to (plan.loads name)) (posted to at.0) in
      let takes : length (taken side (did name)) ≡ length (taken side (plan.loads name))
      + length (taken side at.0) = ap (λ l. length (taken side l)) at.1
      ∙ ap (λ l. length l) (flat_map-append (taken_at side) (plan.loads name) at.0)
      ∙ length-append (taken side (plan.loads name)) (taken side at.0) in
      let one : 1 ≤ length (taken side at.0) = takes_first at.0 next.0 next.2 side to next.1 behind
      (next.4 to) (omega (arith, more, posts)) in
      omega (arith, takes, one)

  -- and its parent has posted more than the parent's load
  posts_more : (name parent : ℕ) (side : Side) (part : Part)
      → plan.parent name ≡ Some (parent, side) → IsInside plan name parent side part
      → length (taken side (plan.loads name)) < length (taken side (did name))
      → length (posted side (plan.loads parent)) < length (posted side (did parent))
  posts_more name parent side part e i more =
      let flow : length (posted side (did parent)) ≡ length (taken side (did name))
      + length (option_to_list (pending (ran chip events) i.wire.0)) =
      ap (λ l. length l) (handed name parent side part e i) ∙ length-append (taken side (did name))
      (option_to_list (pending (ran chip events) i.wire.0)) in
      let same : length (posted side (plan.loads parent)) ≡ length (taken side (plan.loads name)) =
      ap (λ l. length l) i.loaded in
      omega (arith, flow, same, more)

  -- UP THE TREE: if a node posts more than its load, the root is loaded
  pub up : (depth name : ℕ) (to : Side) → plan.depth name ≡ depth → IsNodeName name
      → (name ≡ plan.root) ⊎ ((over : ℕ × Side) × (plan.parent name ≡ Some over))
      → length (posted to (plan.loads name)) < length (posted to (did name)) → Loaded plan.root
  up depth name to d named (inl same) more =
      subst Loaded same
      (past_front (posted_at to) (did name) (plan.loads name) (plan.starts name) (agrees name) more)
  up zero name to d named (inr (over, e)) more =
      let part = part_there chip name is.legal named in absurd (none_deep (plan.depth over.0)
      (sym d ∙ (is.inside name over.0 over.1 part.0 e part.1).deeper))
  up (suc depth) name to d named (inr (over, e)) more =
      let part = part_there chip name is.legal named in
      let i : IsInside plan name over.0 over.1 part.0 =
      is.inside name over.0 over.1 part.0 e part.1 in
      up depth over.0 over.1 (one_less (plan.depth over.0) depth (sym i.deeper ∙ d))
      (is.inside_named name over.0 over.1 e).1 i.above
      (posts_more name over.0 over.1 part.0 e i (takes_more name over.0 over.1 to part.0 i more))

  -- A NODE THAT HAS GONE ALONG ITS SCRIPT: the root is loaded
  pub whole : (name parent : ℕ) (side : Side) (part : Part) → plan.parent name ≡ Some (parent, side)
      → part_of chip name ≡ Some part → (rest : List Local) → did name ≡ script plan name ++ rest
      → Loaded plan.root
  whole name parent side part e there rest f =
      let i : IsInside plan name parent side part = is.inside name parent side part e there in
      let next = i.next in
      let all : taken side (did name) ≡ taken side (plan.loads name)
      ++ ((taken side next.0 ++ (next.1 ∷ taken side next.2)) ++ taken side rest) =
      ap (taken side) (f ∙ append_assoc (plan.loads name) (plan.starts name) rest)
      ∙ flat_map-append (taken_at side) (plan.loads name) (plan.starts name ++ rest)
      ∙ ap (λ l. taken side (plan.loads name) ++ l)
      (flat_map-append (taken_at side) (plan.starts name) rest ∙ ap (λ l. l ++ taken side rest)
      (ap (taken side) next.3 ∙ flat_map-append (taken_at side) next.0 (Take side next.1 ∷ next.2)
      ∙ ap (λ l. taken side next.0 ++ (l ++ taken side next.2)) (own_take side next.1))) in
      let long : length (taken side (did name)) ≡ length (taken side (plan.loads name)) + ((length
      (taken side next.0) + suc (length (taken side next.2))) + length (taken side rest)) =
      ap (λ l. length l) all ∙ length-append (taken side (plan.loads name)) _
      ∙ ap (λ n. length (taken side (plan.loads name)) + n) (length-append (taken side next.0
      ++ (next.1 ∷ taken side next.2)) (taken side rest) ∙ ap (λ n. n + length (taken side rest))
      (length-append (taken side next.0) (next.1 ∷ taken side next.2))) in
      up (plan.depth parent) parent side refl (is.inside_named name parent side e).1 i.above
      (posts_more name parent side part e i (omega (arith, long)))
