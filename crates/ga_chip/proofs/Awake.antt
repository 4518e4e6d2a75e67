-- Nodes that can't move stay so until a neighbour passes them a word, or takes theirs.
use Rattle.ga_place.specs.inner.Index.{index_back}
use Rattle.std.proofs.Common.{◌≡◌, ◌≢◌, ℕ, ◌<◌, ◌==◌, ◌⊎◌, inl, inr, Bool, true, false, List, set, slice_get, Option, Some, None, refl, sym, ap, ◌∙◌, subst}
use Rattle.std.specs.Prelude.{if◌then◌else◌, option_map}
use Rattle.std.proofs.lemmas.Bool.{cases_eq, eqb-true, eqb-false, false≢true}
use Rattle.std.proofs.lemmas.Option.{same_Some}
use Rattle.ga_place.specs.Cell.{index_of, name_at}
use Rattle.ga_place.specs.Node.{IsNodeName}
use Rattle.ga_place.specs.declared.side.Side.{Side}
use Rattle.ga_place.specs.declared.side.Side.TheVariants.{Right}
use Rattle.ga_node.specs.Need.{need_of}
use Rattle.ga_chip.specs.declared.node_set.NodeSet.{NodeSet}
use Rattle.ga_chip.specs.declared.outcome.Outcome.{Outcome}
use Rattle.ga_chip.specs.declared.outcome.Outcome.TheVariants.{Moved, Waits, Held, Stopped}
use Rattle.ga_chip.specs.inner.Awake.{Knows, is_in, partner_of, port_by}
use Rattle.ga_chip.specs.Part.{Part, after, asks}
use Rattle.ga_chip.specs.Chip.{Chip, cells_after, found_by, part_of, tried}
use Rattle.ga_chip.specs.Legal.{IsLegal}
use Rattle.ga_chip.proofs.Kept.{has_name}
use Rattle.ga_chip.proofs.Lists.{get-set_else, get-set_here}
use Rattle.ga_chip.proofs.Parts.{Fits, asks_fits, moved_asks}
use Rattle.ga_chip.proofs.Stays.{Ports, Stays, finds_same, ports_by}
use Rattle.ga_chip.proofs.Tries.{legal_tried, tried_none, tried_still, tried_there}

-- the outcome of a try, by the node's part and the cells
abbrev comes_of : Option Part → List (Option ℕ) → Side → Outcome
comes_of None cells side = Waits
comes_of (Some part) cells side = (after part side (found_by (asks part side) cells)).0

outcome_of : (chip : Chip) (name : ℕ) (side : Side)
    → (tried chip name side).0 ≡ comes_of (part_of chip name) chip.cells side
outcome_of chip name side = by (part_of chip name) refl
  where
    by : (o : Option Part) → part_of chip name ≡ o
        → (tried chip name side).0 ≡ comes_of (part_of chip name) chip.cells side
    by None e =
        ap (λ r. r.0) (tried_none chip name side e) ∙ ap (λ o. comes_of o chip.cells side) (sym e)
    by (Some part) e =
        ap (λ r. r.0) (tried_there chip name side part e)
        ∙ ap (λ o. comes_of o chip.cells side) (sym e)

-- If one node's part and the cells were changed, another node's try has the same outcome as before
-- if it finds the same.
else_same : (chip : Chip) (index other : ℕ) (side : Side) (next : Part) (cells : List (Option ℕ))
    → other < 144 → (index ≡ other → ⊥) → ((part : Part) → part_of chip (name_at other) ≡ Some part
    → found_by (asks part side) cells ≡ found_by (asks part side) chip.cells)
    → (tried (record { parts = set chip.parts index next; cells = cells }) (name_at other) side).0
    ≡ (tried chip (name_at other) side).0
else_same chip index other side next cells below apart same =
    outcome_of (record { parts = set chip.parts index next; cells = cells }) (name_at other) side
    ∙ ap (λ o. comes_of o cells side) (get-set_else chip.parts index (index_of (name_at other)) next
    (λ e. apart (e ∙ index_back other below)))
    ∙ found (part_of chip (name_at other)) refl
    ∙ sym (outcome_of chip (name_at other) side)
  where
    found : (o : Option Part) → part_of chip (name_at other) ≡ o
        → comes_of (part_of chip (name_at other)) cells side
        ≡ comes_of (part_of chip (name_at other)) chip.cells side
    found None e = ap (λ o. comes_of o cells side) e ∙ sym (ap (λ o. comes_of o chip.cells side) e)
    found (Some part) e =
        ap (λ o. comes_of o cells side) e ∙ ap (λ f. (after part side f).0) (same part e)
        ∙ sym (ap (λ o. comes_of o chip.cells side) e)

-- what is known if a node's part was changed, and this node is awake
pub part_knows : (chip : Chip) (awake now : NodeSet) (index : ℕ) (next : Part) → Knows chip awake
    → ((other : ℕ) → is_in other now ≡ false → (index ≡ other → ⊥) × (is_in other awake ≡ false))
    → IsLegal (record chip { parts = set chip.parts index next })
    → Knows (record chip { parts = set chip.parts index next }) now
part_knows chip awake now index next knows slept legal = record {
  legal = legal;
  still = λ other side below asleep e. knows.still other side below (slept other asleep).1
      (sym (else_same chip index other side next chip.cells below (slept other asleep).0
      (λ part there. refl)) ∙ e);
}

-- all nodes are awake
pub all_knows : (chip : Chip) (awake : NodeSet) → IsLegal chip
    → ((place : ℕ) → place < 144 → is_in place awake ≡ true) → Knows chip awake
all_knows chip awake legal all = record {
  legal = legal;
  still = λ index side below asleep. absurd (false≢true (sym asleep ∙ all index below));
}

-- who sleeps after a node was put into the set, and after one was taken out of it
asleep_else : (place other : ℕ) (awake now : NodeSet)
    → is_in other now ≡ (if other == place then true else is_in other awake)
    → is_in other now ≡ false → (other ≢ place) × (is_in other awake ≡ false)
asleep_else place other awake now e asleep = by (other == place) refl
  where
    by : (b : Bool) → (other == place) ≡ b → (other ≢ place) × (is_in other awake ≡ false)
    by true same =
        absurd (false≢true (sym asleep ∙ e ∙ ap (λ b. if b then true else is_in other awake) same))
    by false apart = (
      eqb-false other place apart,
      sym (ap (λ b. if b then true else is_in other awake) apart) ∙ sym e ∙ asleep,
    )

asleep_or : (place other : ℕ) (awake now : NodeSet)
    → is_in other now ≡ (if other == place then false else is_in other awake)
    → is_in other now ≡ false → (other ≡ place) ⊎ (is_in other awake ≡ false)
asleep_or place other awake now e asleep = by (other == place) refl
  where
    by : (b : Bool) → (other == place) ≡ b → (other ≡ place) ⊎ (is_in other awake ≡ false)
    by true same = inl (eqb-true other place same)
    by false apart =
        inr (sym (ap (λ b. if b then false else is_in other awake) apart) ∙ sym e ∙ asleep)

-- a node is put into the set, if its part was changed
pub placed_knows : (chip : Chip) (awake now : NodeSet) (index : ℕ) (next : Part) → Knows chip awake
    → ((other : ℕ) → is_in other now ≡ (if other == index then true else is_in other awake))
    → IsLegal (record chip { parts = set chip.parts index next })
    → Knows (record chip { parts = set chip.parts index next }) now
placed_knows chip awake now index next knows puts legal =
    part_knows chip awake now index next knows
    (λ other asleep. let else_ = asleep_else index other awake now (puts other) asleep in
    (λ e. else_.0 (sym e), else_.1)) legal

-- a sleeping node's part was changed so that it stays where it stayed
pub stays_knows : (chip : Chip) (awake : NodeSet) (index : ℕ) (part next : Part) → Knows chip awake
    → index < 144 → part_of chip (name_at index) ≡ Some part
    → ((side : Side) → Stays part chip.cells side → Stays next chip.cells side)
    → IsLegal (record chip { parts = set chip.parts index next })
    → Knows (record chip { parts = set chip.parts index next }) awake
stays_knows chip awake index part next knows within there stays legal = record {
  legal = legal;
  still = λ other side below asleep. by other side below asleep (cases_eq index other);
}
  where
    changed : Chip
    changed = record chip { parts = set chip.parts index next }

    here : part_of changed (name_at index) ≡ Some next
    here =
        ap (λ i. slice_get (set chip.parts i next) (index_of (name_at index)))
        (sym (index_back index within))
        ∙ get-set_here chip.parts (index_of (name_at index)) next part there

    by : (other : ℕ) (side : Side) → other < 144 → is_in other awake ≡ false
        → (index ≡ other) ⊎ (index ≡ other → ⊥) → (tried changed (name_at other) side).0 ≢ Moved
    by other side below asleep (inl same) e =
        stays side (λ moved. knows.still index side within (ap (λ i. is_in i awake) same
        ∙ asleep) (ap (λ r. r.0) (tried_there chip (name_at index) side part there) ∙ moved))
        (sym (ap (λ r. r.0) (tried_there changed (name_at index) side next here))
        ∙ ap (λ i. (tried changed (name_at i) side).0) same ∙ e)
    by other side below asleep (inr apart) e =
        knows.still other side below asleep
        (sym (else_same chip index other side next chip.cells below apart (λ it at. refl)) ∙ e)

-- a node's own work moves it at every side, so it was awake
pub own_knows : (chip : Chip) (awake : NodeSet) (index : ℕ) (next : Part) → Knows chip awake
    → index < 144 → ((side : Side) → (tried chip (name_at index) side).0 ≡ Moved)
    → IsLegal (record chip { parts = set chip.parts index next })
    → Knows (record chip { parts = set chip.parts index next }) awake
own_knows chip awake index next knows within moves legal =
    part_knows chip awake awake index next knows (λ other asleep. (
      λ same. knows.still index Right within (ap (λ i. is_in i awake) same ∙ asleep) (moves Right),
      asleep,
    )) legal

-- a node goes to sleep
pub slept_knows : (chip : Chip) (awake now : NodeSet) (index : ℕ) → Knows chip awake
    → ((other : ℕ) → is_in other now ≡ (if other == index then false else is_in other awake))
    → ((side : Side) → (tried chip (name_at index) side).0 ≢ Moved) → Knows chip now
slept_knows chip awake now index knows takes still = record {
  legal = knows.legal;
  still = λ other side below asleep. by other side below
      (asleep_or index other awake now (takes other) asleep);
}
  where
    by : (other : ℕ) (side : Side) → other < 144 → (other ≡ index) ⊎ (is_in other awake ≡ false)
        → (tried chip (name_at other) side).0 ≢ Moved
    by other side below (inl same) =
        subst (λ i. (tried chip (name_at i) side).0 ≢ Moved) (sym same) (still side)
    by other side below (inr asleep) = knows.still other side below asleep

-- A sleeping node still sleeps after a try of another node that moved, except the neighbour at the
-- port.
pub far_knows : (chip : Chip) (awake now : NodeSet) (index : ℕ) (side : Side) (part : Part)
    → Knows chip awake → index < 144 → part_of chip (name_at index) ≡ Some part
    → (tried chip (name_at index) side).0 ≡ Moved
    → ((other : ℕ) → other < 144 → is_in other now ≡ false → (is_in other awake ≡ false)
    × (partner_of part.state.node (need_of part.state) side ≡ Some (name_at other) → ⊥))
    → Knows (tried chip (name_at index) side).1 now
far_knows chip awake now index side part knows within there moved slept =
    record { legal = legal_tried chip (name_at index) side knows.legal; still = still }
  where
    named : part.state.node ≡ name_at index
    named = knows.legal.named (name_at index) part there

    goes : (after part side (found_by (asks part side) chip.cells)).0 ≡ Moved
    goes = ap (λ r. r.0) (sym (tried_there chip (name_at index) side part there)) ∙ moved

    ports : Ports (asks part side) (port_by (need_of part.state) side)
    ports =
        subst (λ q. Ports q (port_by (need_of part.state) side))
        (sym (moved_asks part side (found_by (asks part side) chip.cells) goes))
        (ports_by (need_of part.state) part.state.node part.stream side)

    same : (other : ℕ) → other < 144 → (index ≡ other → ⊥)
        → (partner_of part.state.node (need_of part.state) side ≡ Some (name_at other) → ⊥)
        → (at : Side) (it : Part) → part_of chip (name_at other) ≡ Some it → found_by (asks it at)
        (cells_after (asks part side) chip.cells) ≡ found_by (asks it at) chip.cells
    same other below apart far at it here =
        finds_same part.state.node (name_at other) (asks part side) (asks it at)
        (need_of part.state) (need_of it.state) (port_by (need_of part.state) side) chip.cells
        (subst IsNodeName (sym named) (has_name chip (name_at index) part knows.legal there))
        (has_name chip (name_at other) it knows.legal here)
        (λ e. apart (sym (index_back index within) ∙ ap index_of (sym named ∙ e)
        ∙ index_back other below)) far
        (asks_fits part side) (subst (λ n. Fits (asks it at) (need_of it.state) n)
        (knows.legal.named (name_at other) it here) (asks_fits it at)) ports

    still : (other : ℕ) (at : Side) → other < 144 → is_in other now ≡ false
        → (tried (tried chip (name_at index) side).1 (name_at other) at).0 ≢ Moved
    still other at below asleep e =
        let s = slept other below asleep in
        let apart : index ≡ other → ⊥ =
        λ same_. knows.still index side within (ap (λ i. is_in i awake) same_ ∙ s.0) moved in
        knows.still other at below s.0
        (sym (else_same chip (index_of (name_at index)) other at (after part side
        (found_by (asks part side) chip.cells)).1 (cells_after (asks part side) chip.cells) below
        (λ same_. apart (sym (index_back index within) ∙ same_)) (same other below apart s.1 at))
        ∙ ap (λ r. (tried r.1 (name_at other) at).0)
        (sym (tried_there chip (name_at index) side part there)) ∙ e)

-- the sleeping nodes, if the neighbour at the port was put into the set
pub one_woken : (awake now : NodeSet) (place : ℕ) (wakes : Option ℕ) → wakes ≡ Some place
    → ((other : ℕ) → is_in other now ≡ (if other == place then true else is_in other awake))
    → (other : ℕ) → other < 144 → is_in other now ≡ false
    → (is_in other awake ≡ false) × (wakes ≡ Some other → ⊥)
one_woken awake now place wakes is puts other below asleep =
    let else_ = asleep_else place other awake now (puts other) asleep in
    (else_.1, λ e. else_.0 (same_Some other place (sym e ∙ is)))

-- and if there is none
pub none_woken : (awake : NodeSet) (wakes : Option ℕ) → ((place : ℕ) → wakes ≡ Some place → ⊥)
    → (other : ℕ) → other < 144 → is_in other awake ≡ false
    → (is_in other awake ≡ false) × (wakes ≡ Some other → ⊥)
none_woken awake wakes none other below asleep = (asleep, none other)

-- What is known after a try of a node whose need isn't its own: if it would move at no side and was
-- put to sleep,
pub far_slept : (chip next : Chip) (awake now : NodeSet) (index : ℕ) (side : Side) (part : Part)
    (outcome : Outcome) → Knows chip awake → part_of chip (name_at index) ≡ Some part
    → ◌≡◌ {A = Outcome × Chip} (outcome, next) (tried chip (name_at index) side)
    → ((at : Side) → Stays part chip.cells at)
    → ((other : ℕ) → is_in other now ≡ (if other == index then false else is_in other awake))
    → Knows next now
far_slept chip next awake now index side part outcome knows there is still takes =
    let stays : (at : Side) → (tried chip (name_at index) at).0 ≢ Moved =
    λ at e. still at (sym (ap (λ r. r.0) (tried_there chip (name_at index) at part there)) ∙ e) in
    subst (λ z. Knows z now)
    (sym (ap (λ r. r.1) is ∙ tried_still chip (name_at index) side (stays side)))
    (slept_knows chip awake now index knows takes stays)

-- and else, with the neighbour at the port woken if the node moved.
pub far_woken : (chip next : Chip) (awake now : NodeSet) (index : ℕ) (side : Side) (part : Part)
    (outcome : Outcome) (wakes : Option ℕ) → Knows chip awake → index < 144
    → part_of chip (name_at index) ≡ Some part
    → ◌≡◌ {A = Outcome × Chip} (outcome, next) (tried chip (name_at index) side) → (outcome ≡ Moved
    → wakes ≡ option_map index_of (partner_of part.state.node (need_of part.state) side))
    → ((other : ℕ) → other < 144 → is_in other now ≡ false
    → (is_in other awake ≡ false) × (wakes ≡ Some other → ⊥)) → Knows next now
far_woken chip next awake now index side part outcome wakes knows within there is partner slept =
    subst (λ z. Knows z now) (sym (ap (λ r. r.1) is)) (by outcome (sym (ap (λ r. r.0) is)) partner)
  where
    still : (tried chip (name_at index) side).0 ≢ Moved
        → Knows (tried chip (name_at index) side).1 now
    still stays =
        subst (λ z. Knows z now) (sym (tried_still chip (name_at index) side stays)) (record {
          legal = knows.legal;
          still = λ other at below asleep. knows.still other at below (slept other below asleep).0;
        })

    by : (o : Outcome) → (tried chip (name_at index) side).0 ≡ o → (o ≡ Moved
        → wakes ≡ option_map index_of (partner_of part.state.node (need_of part.state) side))
        → Knows (tried chip (name_at index) side).1 now
    by Moved e known =
        far_knows chip awake now index side part knows within there e
        (λ other below asleep. let s = slept other below asleep in (
          s.0,
          λ f. s.1 (known refl ∙ ap (option_map index_of) f ∙ ap Some (index_back other below)),
        ))
    by Waits e known = still (λ f. let no_ : Waits ≡ Moved = sym e ∙ f in cc)
    by Held e known = still (λ f. let no_ : Held ≡ Moved = sym e ∙ f in cc)
    by Stopped e known = still (λ f. let no_ : Stopped ≡ Moved = sym e ∙ f in cc)
