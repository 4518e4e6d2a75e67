-- From the invariant: a node of the tree that hasn't started holds its image once the load part was
-- taken, and it starts at its address.
use Rattle.std.proofs.Common.{◌≡◌, ℕ, ◌≤◌, List, [], ◌∷◌, ◌++◌, inl, inr, length, Some, refl, sym, ap, ◌∙◌, subst, append_assoc, le_refl}
use Rattle.std.proofs.lemmas.Option.{same_Some}
use Rattle.ga_place.specs.declared.side.Side.{Side}
use Rattle.ga_node.specs.State.{State}
use Rattle.ga_chip.specs.Part.{Part}
use Rattle.ga_chip.specs.Chip.{Chip, part_of}
use Rattle.ga_chip.specs.Run.{Event, ran}
use Rattle.ga_chip.specs.Laws.{AgreesWith}
use Rattle.ga_chip.proofs.Lists.{agree_after}
use Rattle.ga_boot.specs.inner.Local.{Local, Feed, given, lived, Calm, fed_by, fed, history}
use Rattle.ga_boot.specs.inner.Plan.{Plan, script, first_of, IsRoot, IsPlan, IsFed, Booting, LoadTaken, Begun, Prepares}
use Rattle.ga_node.specs.Slot.{moved}
use Rattle.ga_boot.proofs.Steps.{lived-append, calm_ram}
use Rattle.ga_boot.proofs.History.{Stood, stood_ran}
use Rattle.ga_boot.proofs.Booting.{reached}
use Rattle.ga_boot.proofs.Order.{Loaded, down}
use Rattle.ga_boot.proofs.Keeps.{booting}

calm_front : (state : State) (ms more : List Local) → Calm state (ms ++ more) → Calm state ms
calm_front state [] more c = tt
calm_front state (m ∷ ms) more c = (c.0, calm_front (moved state (given m)) ms more c.1)

module _ (plan : Plan) (chip : Chip) (is : IsPlan plan chip) (events : List Event)
    (feeding : IsFed plan chip events) where
  b : Booting plan chip events
  b = booting plan chip is events feeding

  -- the root has taken its load part
  root_loaded : (part : Part) → part_of chip plan.root ≡ Some part → LoadTaken plan chip events
      → Loaded plan chip is events b.agrees plan.root
  root_loaded part there taken =
      let i : IsRoot plan part = is.root part there in
      let last = i.last in
      let at = reached fed_by (history chip events plan.root) last.0 (plan.starts plan.root)
      (Feed last.1) (subst (λ l. AgreesWith (history chip events plan.root)
      (l ++ plan.starts plan.root)) last.2 (b.agrees plan.root)) (subst (λ l. length (fed l)
      ≤ length (fed (history chip events plan.root))) last.2 taken) (le_refl 1) in
      (at.0, at.1 ∙ ap (λ l. l ++ at.0) (sym last.2))

  -- the memory of a loaded node that hasn't started
  holds : (name : ℕ) (part now : Part) (ram : List ℕ) (address : ℕ) → part_of chip name ≡ Some part
      → part_of (ran chip events) name ≡ Some now → Prepares plan name part ram address
      → Loaded plan chip is events b.agrees name → (Begun plan chip events name → ⊥)
      → now.state.ram ≡ ram
  holds name part now ram address there there' p (rest, f) not_begun =
      by (agree_after (plan.loads name) rest (plan.starts name)
      (subst (λ l. AgreesWith l (script plan name)) f (b.agrees name)))
    where
      s : Stood (ran chip events) name part (history chip events name)
      s = stood_ran chip events name part is.legal there

      by : AgreesWith rest (plan.starts name) → now.state.ram ≡ ram
      by (inl (more, g)) =
          let calm : Calm (lived (first_of part) (plan.loads name)) rest =
          calm_front (lived (first_of part) (plan.loads name)) rest more
          (subst (Calm (lived (first_of part) (plan.loads name))) g p.calm) in
          ap (λ x. x.state.ram) (same_Some now s.now (sym there' ∙ s.there))
          ∙ ap (λ x. x.ram) (s.state ∙ ap (lived (first_of part)) f
          ∙ lived-append (first_of part) (plan.loads name) rest)
          ∙ calm_ram (lived (first_of part) (plan.loads name)) rest calm ∙ p.memory
      by (inr (more, g)) =
          absurd (not_begun (
            more,
            f ∙ ap (λ l. plan.loads name ++ l) g
                ∙ sym (append_assoc (plan.loads name) (plan.starts name) more),
          ))

  -- BOOT IN EVERY SCHEDULE, for a node of a plan: its memory is so until it begins, whatever the
  -- other nodes did
  pub holds_root : (part now : Part) (ram : List ℕ) (address : ℕ)
      → part_of chip plan.root ≡ Some part → part_of (ran chip events) plan.root ≡ Some now
      → Prepares plan plan.root part ram address → LoadTaken plan chip events
      → (Begun plan chip events plan.root → ⊥) → now.state.ram ≡ ram
  holds_root part now ram address there there' p taken not_begun =
      holds plan.root part now ram address there there' p (root_loaded part there taken) not_begun

  pub holds_inside : (name parent : ℕ) (side : Side) (part root now : Part) (ram : List ℕ)
      (address : ℕ) → plan.parent name ≡ Some (parent, side) → part_of chip name ≡ Some part
      → part_of chip plan.root ≡ Some root → part_of (ran chip events) name ≡ Some now
      → Prepares plan name part ram address → LoadTaken plan chip events
      → (Begun plan chip events name → ⊥) → now.state.ram ≡ ram
  holds_inside name parent side part root now ram address e there root_there there' p taken
      not_begun =
      holds name part now ram address there there' p
      (down plan chip is events b.agrees (plan.depth name) name parent side part refl e there
      (root_loaded root root_there taken)) not_begun

  -- and it starts at the address of its start word
  pub begins : (name : ℕ) (part now : Part) (ram : List ℕ) (address : ℕ)
      → part_of chip name ≡ Some part → part_of (ran chip events) name ≡ Some now
      → Prepares plan name part ram address → history chip events name ≡ script plan name
      → now.state.p ≡ address
  begins name part now ram address there there' p whole =
      let s = stood_ran chip events name part is.legal there in
      ap (λ x. x.state.p) (same_Some now s.now (sym there' ∙ s.there))
      ∙ ap (λ x. x.p) (s.state ∙ ap (lived (first_of part)) whole) ∙ p.at
