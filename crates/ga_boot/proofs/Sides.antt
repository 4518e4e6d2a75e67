-- The sides of the multiport reads in a run that keeps to a plan: for a node of the tree its
-- parent's first, and no other until the node has gone along its script.
use Rattle.std.proofs.Common.{◌≡◌, ◌∙◌, ◌⊎◌, inl, inr, ℕ, Bool, true, false, List, [], ◌∷◌, ◌++◌, flat_map, Some, None, refl, sym, ap, ap₂, subst, append-nil, append_assoc}
use Rattle.std.specs.Prelude.{if◌then◌else◌}
use Rattle.std.proofs.lemmas.List.Concat.{flat_map-append}
use Rattle.std.proofs.lemmas.Option.{none-some, same_Some}
use Rattle.ga_place.specs.Side.{is_among, one_side, side_bit, sides_with}
use Rattle.ga_place.specs.declared.side.Side.{Side}
use Rattle.ga_place.specs.declared.side.Side.TheVariants.{Right, Down, Left, Up}
use Rattle.ga_place.specs.declared.side.Sides.{Sides}
use Rattle.ga_node.specs.Need.{need_of, wants}
use Rattle.ga_node.specs.Slot.{moved}
use Rattle.ga_node.specs.declared.need.Need.{Need}
use Rattle.ga_node.specs.declared.need.Need.TheVariants as need
use Rattle.ga_chip.specs.Part as asked
use Rattle.ga_chip.specs.Part.{Part, asks_by, looked_at, picked_by, picked_of, take_from}
use Rattle.ga_chip.specs.Chip.{Chip, part_of}
use Rattle.ga_chip.specs.Run.{Event, Move, move_in, moves, moves_of, ran, sides_of}
use Rattle.ga_chip.specs.Laws.{AgreesWith, IsPrefix}
use Rattle.ga_chip.specs.Legal.{IsLegal}
use Rattle.ga_chip.proofs.Lists.{agree_first}
use Rattle.ga_chip.proofs.Moments.{Makes, makes_event, one_at_most}
use Rattle.ga_chip.proofs.Runs.{moves-append, moves_of-append}
use Rattle.ga_boot.specs.inner.Local.{Check, Feed, Goes, Local, Own, Post, Suits, Take, given, history, lived, local_of}
use Rattle.ga_boot.specs.inner.Plan.{Booting, IsFed, IsInside, IsPlan, Plan, first_of, script}
use Rattle.ga_boot.proofs.Bare.{bare}
use Rattle.ga_boot.proofs.Booting.{goes_from}
use Rattle.ga_boot.proofs.History.{from_side, need_wanted, stood_ran}
use Rattle.ga_boot.proofs.Keeps.{booting_first, kept, none_more, one_more, sooner, take_by}

-- a move that answers only one side names none
one_named : (side s : Side) → picked_of (one_side (sides_with (side_bit side))) s ≡ []
one_named Right s = refl
one_named Down s = refl
one_named Left s = refl
one_named Up s = refl

none_picked : (m : Local) (n : Need) (s : Side) → Suits m n → picked_by n s ≡ []
none_picked Own n s e = ap (λ n. picked_by n s) e
none_picked (Feed word) n s e = ap (λ n. picked_by n s) e
none_picked (Take side word) n s e = ap (λ n. picked_by n s) e ∙ one_named side s
none_picked (Post side word) n s e = ap (λ n. picked_by n s) e
none_picked (Check side) n s e = ap (λ n. picked_by n s) e

-- a multiport read names the side at which it takes
looked_by : (b : Bool) (s t : Side) → (if b then Some s else None) ≡ Some t → s ≡ t
looked_by true s t e = same_Some s t e
looked_by false s t e = absurd (none-some t e)

named_side : (chip : Chip) (name : ℕ) (m : Move) (a : Makes chip name m) (t : Side) (word : ℕ)
    (sides : Sides) → local_of m ≡ Take t word → wants (bare a.part.state) ≡ need.Take sides
    → one_side sides ≡ None → m.picked ≡ t ∷ []
named_side chip name m a t word sides took e several =
    let n : need_of a.part.state ≡ need.Take sides = need_wanted chip name m a ∙ e in
    let it = take_by m.asked m.found t word took in
    let asks : asked.Take t it.0 ≡ take_from a.part.state.node (looked_at (one_side sides) sides
    a.side) = sym it.1 ∙ a.asked ∙ ap (λ n. asks_by n a.part.state.node a.part.stream a.side) n in
    let looks : looked_at (one_side sides) sides a.side ≡ Some t =
    from_side a.part.state.node it.0 t (looked_at (one_side sides) sides a.side) asks in
    let same : a.side ≡ t = looked_by (is_among a.side sides) a.side t
    (ap (λ o. looked_at o sides a.side) (sym several) ∙ looks) in
    a.picks ∙ ap (λ n. picked_by n a.side) n ∙ ap (λ o. picked_of o a.side) several
    ∙ ap (λ s. s ∷ []) same

-- the sides behind one more event
sides_more : (chip : Chip) (events : List Event) (event : Event) (name : ℕ)
    → sides_of chip (events ++ event ∷ []) name ≡ sides_of chip events name
    ++ flat_map (λ move. move.picked) (moves_of name (move_in (ran chip events) event))
sides_more chip events event name =
    ap (λ ms. flat_map (λ move. move.picked) (moves_of name ms)) (moves-append chip events
    (event ∷ []) ∙ ap (λ l. moves chip events ++ l) (append-nil (move_in (ran chip events) event)))
    ∙ ap (flat_map (λ move. move.picked))
    (moves_of-append name (moves chip events) (move_in (ran chip events) event))
    ∙ flat_map-append (λ move. move.picked) (moves_of name (moves chip events))
    (moves_of name (move_in (ran chip events) event))

sides_same : (chip : Chip) (events : List Event) (event : Event) (name : ℕ)
    → moves_of name (move_in (ran chip events) event) ≡ []
    → sides_of chip (events ++ event ∷ []) name ≡ sides_of chip events name
sides_same chip events event name f =
    sides_more chip events event name
    ∙ ap (λ ms. sides_of chip events name ++ flat_map (λ move. move.picked) ms) f
    ∙ append-nil (sides_of chip events name)

sides_one : (chip : Chip) (events : List Event) (event : Event) (name : ℕ) (m : Move)
    → moves_of name (move_in (ran chip events) event) ≡ m ∷ []
    → sides_of chip (events ++ event ∷ []) name ≡ sides_of chip events name ++ m.picked
sides_one chip events event name m made =
    sides_more chip events event name
    ∙ ap (λ ms. sides_of chip events name ++ flat_map (λ move. move.picked) ms) made
    ∙ ap (λ l. sides_of chip events name ++ l) (append-nil m.picked)

-- the state of a node that makes a move
stands_at : (chip : Chip) (events : List Event) (name : ℕ) (part : Part) (m : Move)
    (a : Makes (ran chip events) name m) → IsLegal chip → part_of chip name ≡ Some part
    → bare a.part.state ≡ lived (first_of part) (history chip events name)
stands_at chip events name part m a legal there =
    let s = stood_ran chip events name part legal there in
    ap (λ p. bare p.state) (same_Some a.part s.now (sym a.there ∙ s.there)) ∙ s.state

-- The sides that a node of the tree names: none as long as it waits for its first word; then its
-- parent's, and after that others only once it has gone along its script.
abbrev pub NamesSides : Plan → Chip → List Event → ℕ → Side → Type 0
NamesSides plan chip events name side =
    ((history chip events name ≡ []) × (sides_of chip events name ≡ []))
    ⊎ ((z : Local) × (h : List Local) × (rest : List Side) × (history chip events name ≡ z ∷ h)
    × (sides_of chip events name ≡ side ∷ rest) × (IsPrefix (z ∷ h) (script plan name) → rest ≡ []))

module _ (plan : Plan) (chip : Chip) (is : IsPlan plan chip) (name parent : ℕ) (side : Side)
    (part : Part)
    (e : plan.parent name ≡ Some (parent, side)) (there : part_of chip name ≡ Some part) where
  i : IsInside plan name parent side part
  i = is.inside name parent side part e there

  module _ (events : List Event) (b : Booting plan chip events) (event : Event)
      (feeding : IsFed plan chip (events ++ event ∷ [])) where
    abbrev now : Chip
    now = ran chip events

    abbrev all : List Event
    all = events ++ event ∷ []

    agrees : AgreesWith (history chip all name) (script plan name)
    agrees = (kept plan chip is events b event feeding).agrees name

    module _ (m : Move) (made : moves_of name (move_in now event) ≡ m ∷ []) where
      a : Makes now name m
      a = makes_event now event name m made

      did : history chip all name ≡ history chip events name ++ local_of m ∷ []
      did = one_more plan chip is events b event feeding name m made

      sides : sides_of chip all name ≡ sides_of chip events name ++ m.picked
      sides = sides_one chip events event name m made

      stands : bare a.part.state ≡ lived (first_of part) (history chip events name)
      stands = stands_at chip events name part m a is.legal there

      -- its first move takes a word from its parent
      first : history chip events name ≡ [] → sides_of chip events name ≡ []
          → NamesSides plan chip all name side
      first none unnamed =
          let did_it : history chip all name ≡ local_of m ∷ [] =
          did ∙ ap (λ l. l ++ local_of m ∷ []) none in
          let starts : AgreesWith (local_of m ∷ []) (Take side i.first.0 ∷ i.first.1) =
          subst (AgreesWith (local_of m ∷ [])) i.first.2
          (subst (λ l. AgreesWith l (script plan name)) did_it agrees) in
          let took : local_of m ≡ Take side i.first.0 =
          agree_first (local_of m) (Take side i.first.0) [] i.first.1 starts in
          let waits : wants (bare a.part.state) ≡ need.Take i.idle.0 =
          ap wants (stands ∙ ap (lived (first_of part)) none) ∙ i.idle.1 in
          let picked : m.picked ≡ side ∷ [] =
          named_side now name m a side i.first.0 i.idle.0 took waits i.idle.2 in
          inr
          (local_of m, [], [], did_it, sides ∙ ap₂ (λ x y. x ++ y) unnamed picked, λ within. refl)

      -- a later one that its script has names none
      later : (z : Local) (h : List Local) (rest : List Side) → history chip events name ≡ z ∷ h
          → sides_of chip events name ≡ side ∷ rest
          → (IsPrefix (z ∷ h) (script plan name) → rest ≡ []) → NamesSides plan chip all name side
      later z h rest some named alone =
          inr (
            z,
            h ++ local_of m ∷ [],
            rest ++ m.picked,
            did ∙ ap (λ l. l ++ local_of m ∷ []) some,
            sides ∙ ap (λ l. l ++ m.picked) named,
            within,
          )
        where
          picked : (more : List Local) → script plan name ≡ z ∷ (h ++ local_of m ∷ more)
              → m.picked ≡ []
          picked more next =
              let f : Take side i.first.0 ∷ i.first.1 ≡ z ∷ (h ++ local_of m ∷ more) =
              sym i.first.2 ∙ next in
              let first_is : Take side i.first.0 ≡ z = cc in
              let tail : i.first.1 ≡ h ++ local_of m ∷ more = cc in
              let goes : Goes (moved (first_of part) (given z)) (h ++ local_of m ∷ more) =
              subst (λ x. Goes (moved (first_of part) (given x)) (h ++ local_of m ∷ more)) first_is
              (subst (Goes (moved (first_of part) (Some i.first.0))) tail i.first.3) in
              let suits : Suits (local_of m) (wants (lived (first_of part) (z ∷ h))) =
              goes_from (moved (first_of part) (given z)) h (local_of m) more goes in
              let waits : wants (bare a.part.state) ≡ wants (lived (first_of part) (z ∷ h)) =
              ap wants (stands ∙ ap (lived (first_of part)) some) in
              a.picks ∙ ap (λ n. picked_by n a.side) (need_wanted now name m a ∙ waits)
              ∙ none_picked (local_of m) (wants (lived (first_of part) (z ∷ h))) a.side suits

          within : IsPrefix (z ∷ (h ++ local_of m ∷ [])) (script plan name) → rest ++ m.picked ≡ []
          within (more, next) =
              let next_is : script plan name ≡ z ∷ (h ++ local_of m ∷ more) =
              next ∙ ap (λ l. z ∷ l) (append_assoc h (local_of m ∷ []) more) in
              ap₂ (λ x y. x ++ y) (alone (local_of m ∷ more, next_is)) (picked more next_is)

    -- an event keeps it
    names_more : NamesSides plan chip events name side → NamesSides plan chip all name side
    names_more n = by (one_at_most now event name) n
      where
        by : (moves_of name (move_in now event) ≡ [])
            ⊎ ((m : Move) × (moves_of name (move_in now event) ≡ m ∷ []))
            → NamesSides plan chip events name side → NamesSides plan chip all name side
        by (inl f) (inl (none, unnamed)) =
            inl (
              none_more plan chip is events b event feeding name f ∙ none,
              sides_same chip events event name f ∙ unnamed,
            )
        by (inl f) (inr (z, h, rest, some, named, alone)) =
            inr (
              z,
              h,
              rest,
              none_more plan chip is events b event feeding name f ∙ some,
              sides_same chip events event name f ∙ named,
              alone,
            )
        by (inr (m, f)) (inl (none, unnamed)) = first m f none unnamed
        by (inr (m, f)) (inr (z, h, rest, some, named, alone)) = later m f z h rest some named alone

  names_on : (done events : List Event) → IsFed plan chip (done ++ events) → Booting plan chip done
      → NamesSides plan chip done name side → NamesSides plan chip (done ++ events) name side
  names_on done [] feeding b n =
      subst (λ l. NamesSides plan chip l name side) (sym (append-nil done)) n
  names_on done (event ∷ events) feeding b n =
      let fed_all : IsFed plan chip ((done ++ event ∷ []) ++ events) =
      subst (IsFed plan chip) (sym (append_assoc done (event ∷ []) events)) feeding in
      let fed_one : IsFed plan chip (done ++ event ∷ []) =
      sooner plan chip (done ++ event ∷ []) events fed_all in
      subst (λ l. NamesSides plan chip l name side) (append_assoc done (event ∷ []) events)
      (names_on (done ++ event ∷ []) events fed_all (kept plan chip is done b event fed_one)
      (names_more done b event fed_one n))

  -- IT HOLDS in every run
  pub names_sides : (events : List Event) → IsFed plan chip events
      → NamesSides plan chip events name side
  names_sides events feeding =
      names_on [] events feeding (booting_first plan chip) (inl (refl, refl))

-- The root names none as long as it keeps to its script.
module _ (plan : Plan) (chip : Chip) (is : IsPlan plan chip) (part : Part)
    (there : part_of chip plan.root ≡ Some part) where
  abbrev NamesNone : List Event → Type 0
  NamesNone events =
      IsPrefix (history chip events plan.root) (script plan plan.root)
      → sides_of chip events plan.root ≡ []

  none_more_named : (events : List Event) → Booting plan chip events → (event : Event)
      → IsFed plan chip (events ++ event ∷ []) → NamesNone events → NamesNone (events ++ event ∷ [])
  none_more_named events b event feeding before (more, front) =
      by (one_at_most (ran chip events) event plan.root)
    where
      by : (moves_of plan.root (move_in (ran chip events) event) ≡ [])
          ⊎ ((m : Move) × (moves_of plan.root (move_in (ran chip events) event) ≡ m ∷ []))
          → sides_of chip (events ++ event ∷ []) plan.root ≡ []
      by (inl f) =
          sides_same chip events event plan.root f ∙ before (
            more,
            front ∙ ap (λ l. l ++ more) (none_more plan chip is events b event feeding plan.root f),
          )
      by (inr (m, f)) =
          let a = makes_event (ran chip events) event plan.root m f in
          let next : script plan plan.root ≡ history chip events plan.root ++ local_of m ∷ more =
          front ∙ ap (λ l. l ++ more) (one_more plan chip is events b event feeding plan.root m f)
          ∙ append_assoc (history chip events plan.root) (local_of m ∷ []) more in
          let suits = goes_from (first_of part) (history chip events plan.root) (local_of m) more
          (subst (Goes (first_of part)) next (is.root part there).goes) in
          let waits = ap wants (stands_at chip events plan.root part m a is.legal there) in
          let picked : m.picked ≡ [] = a.picks
          ∙ ap (λ n. picked_by n a.side) (need_wanted (ran chip events) plan.root m a ∙ waits)
          ∙ none_picked (local_of m) _ a.side suits in
          sides_one chip events event plan.root m f
          ∙ ap₂ (λ x y. x ++ y) (before (local_of m ∷ more, next)) picked

  none_on : (done events : List Event) → IsFed plan chip (done ++ events) → Booting plan chip done
      → NamesNone done → NamesNone (done ++ events)
  none_on done [] feeding b n = subst NamesNone (sym (append-nil done)) n
  none_on done (event ∷ events) feeding b n =
      let fed_all : IsFed plan chip ((done ++ event ∷ []) ++ events) =
      subst (IsFed plan chip) (sym (append_assoc done (event ∷ []) events)) feeding in
      let fed_one : IsFed plan chip (done ++ event ∷ []) =
      sooner plan chip (done ++ event ∷ []) events fed_all in
      subst NamesNone (append_assoc done (event ∷ []) events) (none_on (done ++ event ∷ []) events
      fed_all (kept plan chip is done b event fed_one) (none_more_named done b event fed_one n))

  pub names_none : (events : List Event) → IsFed plan chip events → NamesNone events
  names_none events feeding = none_on [] events feeding (booting_first plan chip) (λ front. refl)
