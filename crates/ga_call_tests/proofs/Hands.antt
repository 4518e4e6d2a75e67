-- Tries made by hand keep the parts and what the seat has of them in step.
use Rattle.std.proofs.Common.{◌≡◌, ◌≢◌, ℕ, ◌<◌, ◌⊎◌, inl, inr, Bool, true, false, List, [], Option, Some, None, get_or, length, set, slice_get, refl, sym, ap, subst, ◌∙◌, arith}
use Rattle.std.proofs.lemmas.Bool.{cases_eq}
use Rattle.std.proofs.lemmas.List.{length-set}
use Rattle.std.proofs.lemmas.Option.{same_Some, slice_get_read, slice_get_within}
use Rattle.ga_place.specs.Cell.{index_of, name_at}
use Rattle.ga_place.specs.declared.side.Side.{Side}
use Rattle.ga_place.proofs.Cells.{one_place}
use Rattle.ga_place.specs.inner.Index.{index_back}
use Rattle.ga_chip.specs.declared.outcome.Outcome.{Outcome}
use Rattle.ga_chip.specs.declared.outcome.Try.{Try}
use Rattle.ga_chip.specs.declared.asks.Asks as told
use Rattle.ga_chip.specs.Asks.{asked_of}
use Rattle.ga_chip.specs.Part.{Part, after}
use Rattle.ga_chip.specs.Chip.{Chip}
use Rattle.ga_chip.specs.Legal.{IsLegal}
use Rattle.ga_chip.proofs.Lists.{get-set_here, get-set_else}
use Rattle.ga_port.specs.declared.seat.Holding.{Holding}
use Rattle.ga_port.specs.Seat.{kept, kept_after, tried_in, untried}
use Rattle.ga_port.proofs.Nodes.{tried_else, tried_here, untried_there}
use Rattle.ga_call_tests.specs.inner.Hands.{AreKept}

-- the part that a caller reads at the node's place
there : (nodes : List (Option Holding)) (parts : List Part) (node index : ℕ) (part : Part)
    → AreKept nodes parts → index ≡ index_of node → index < 144 → part ≡ get_or parts index part
    → slice_get parts (index_of node) ≡ Some part
there nodes parts node index part are index_is below read =
    ap (slice_get parts) (sym index_is)
    ∙ slice_get_read parts 144 index part (sym are.count) below read

-- the seat has the node of the part at the node's place
has_node : (nodes : List (Option Holding)) (parts : List Part) (node : ℕ) (part : Part)
    → AreKept nodes parts → index_of node < 144 → slice_get parts (index_of node) ≡ Some part
    → (one : Holding) × (kept nodes node ≡ Some one) × (one.part ≡ part)
has_node nodes parts node part are below there =
    let mine = are.has (index_of node) part there in
    let same : node ≡ part.state.node =
    one_place node part.state.node below (sym (are.placed (index_of node) part there)) in
    (mine.0, ap (kept nodes) same ∙ mine.1, mine.2)

-- what its try asks for
pub asks_of : (nodes : List (Option Holding)) (parts : List Part) (node index : ℕ) (part : Part)
    (side : Side) (asked : told.Asks) → AreKept nodes parts → index ≡ index_of node → index < 144
    → part ≡ get_or parts index part → asked ≡ asked_of part side
    → (one : Holding) × (kept nodes node ≡ Some one) × (asked_of one.part side ≡ asked)
asks_of nodes parts node index part side asked are index_is below read asked_is =
    let mine = has_node nodes parts node part are (subst (λ i. i < 144) index_is below)
    (there nodes parts node index part are index_is below read) in
    (mine.0, mine.1, ap (λ p. asked_of p side) mine.2 ∙ sym asked_is)

-- after a try of it
tries_kept : (nodes next : List (Option Holding)) (parts more : List Part) (what : Try)
    (part new : Part) (found : Option ℕ) (outcome : Outcome) → AreKept nodes parts
    → index_of what.node < 144 → slice_get parts (index_of what.node) ≡ Some part
    → next ≡ tried_in nodes what found → (outcome, new) ≡ after part what.side found
    → new.state.node ≡ part.state.node → more ≡ set parts (index_of what.node) new
    → AreKept next more
tries_kept nodes next parts more what part new found outcome are below there nodes_are made named
    parts_are =
    subst (AreKept next) (sym parts_are)
    (subst (λ n. AreKept n (set parts (index_of what.node) new)) (sym nodes_are) (record {
      count = length-set parts (index_of what.node) new ∙ are.count;
      placed = λ index other e. placed index other e (cases_eq index (index_of what.node));
      has = λ index other e. has index other e (cases_eq index (index_of what.node));
    }))
  where
    mine : (one : Holding) × (kept nodes what.node ≡ Some one) × (one.part ≡ part)
    mine = has_node nodes parts what.node part are below there

    node_is : new.state.node ≡ what.node
    node_is =
        named ∙ sym (one_place what.node part.state.node below
        (sym (are.placed (index_of what.node) part there)))

    here : (index : ℕ) (other : Part)
        → slice_get (set parts (index_of what.node) new) index ≡ Some other
        → index ≡ index_of what.node → new ≡ other
    here index other e same =
        same_Some new other (sym (get-set_here parts (index_of what.node) new part there)
        ∙ ap (slice_get (set parts (index_of what.node) new)) (sym same) ∙ e)

    away : (index : ℕ) (other : Part)
        → slice_get (set parts (index_of what.node) new) index ≡ Some other
        → index ≢ index_of what.node → slice_get parts index ≡ Some other
    away index other e apart =
        sym (get-set_else parts (index_of what.node) index new (λ f. apart (sym f))) ∙ e

    placed : (index : ℕ) (other : Part)
        → slice_get (set parts (index_of what.node) new) index ≡ Some other
        → (index ≡ index_of what.node) ⊎ (index ≡ index_of what.node → ⊥)
        → index_of other.state.node ≡ index
    placed index other e (inl same) =
        ap (λ (p : Part). index_of p.state.node) (sym (here index other e same))
        ∙ ap index_of node_is ∙ sym same
    placed index other e (inr apart) = are.placed index other (away index other e apart)

    has : (index : ℕ) (other : Part)
        → slice_get (set parts (index_of what.node) new) index ≡ Some other
        → (index ≡ index_of what.node) ⊎ (index ≡ index_of what.node → ⊥) → (one : Holding)
        × (kept (tried_in nodes what found) other.state.node ≡ Some one) × (one.part ≡ other)
    has index other e (inl same) =
        let is = here index other e same in (
          kept_after mine.0 what.side found,
          ap (λ (p : Part). kept (tried_in nodes what found) p.state.node) (sym is)
              ∙ ap (kept (tried_in nodes what found)) node_is
              ∙ tried_here nodes what found mine.0 mine.1,
          ap (λ p. (after p what.side found).1) mine.2 ∙ ap (λ r. r.1) (sym made) ∙ is,
        )
    has index other e (inr apart) =
        let old = are.has index other (away index other e apart) in
        let place = are.placed index other (away index other e apart) in (
          old.0,
          tried_else nodes what found other.state.node (λ f. apart (sym place ∙ f)) ∙ old.1,
          old.2,
        )

pub tries_at : (nodes next : List (Option Holding)) (parts : List Part) (node index : ℕ)
    (side : Side) (part new : Part) (found : Option ℕ) (outcome : Outcome) → AreKept nodes parts
    → index ≡ index_of node → index < 144 → part ≡ get_or parts index part
    → next ≡ tried_in nodes (record { node = node; side = side }) found
    → (outcome, new) ≡ after part side found → new.state.node ≡ part.state.node
    → AreKept next (set parts index new)
tries_at nodes next parts node index side part new found outcome are index_is below read nodes_are
    made named =
    tries_kept nodes next parts (set parts index new) (record { node = node; side = side }) part new
    found outcome are (subst (λ i. i < 144) index_is below) (there nodes parts node index part are
    index_is below read) nodes_are made named (ap (λ i. set parts i new) index_is)

-- after a try that checks
pub checks_at : (nodes next : List (Option Holding)) (parts : List Part) (node index : ℕ)
    (side : Side) (part new : Part) (empty : Bool) (outcome : Outcome) → AreKept nodes parts
    → index ≡ index_of node → index < 144 → part ≡ get_or parts index part
    → (empty ≡ true → next ≡ tried_in nodes (record { node = node; side = side }) None)
    → (empty ≡ false → next ≡ tried_in nodes (record { node = node; side = side }) (Some 0))
    → (empty ≡ true → (outcome, new) ≡ after part side None)
    → (empty ≡ false → (outcome, new) ≡ after part side (Some 0)) → new.state.node ≡ part.state.node
    → AreKept next (set parts index new)
checks_at nodes next parts node index side part new true outcome are index_is below read yes_nodes
    no_nodes yes_made no_made named =
    tries_at nodes next parts node index side part new None outcome are index_is below read
    (yes_nodes refl) (yes_made refl) named
checks_at nodes next parts node index side part new false outcome are index_is below read yes_nodes
    no_nodes yes_made no_made named =
    tries_at nodes next parts node index side part new (Some 0) outcome are index_is below read
    (no_nodes refl) (no_made refl) named

-- at the start
pub starts_kept : (chip : Chip) (nodes : List (Option Holding)) (parts : List Part) → IsLegal chip
    → nodes ≡ untried chip.parts → parts ≡ chip.parts → AreKept nodes parts
starts_kept chip nodes parts legal nodes_are parts_are =
    subst (AreKept nodes) (sym parts_are)
    (subst (λ n. AreKept n chip.parts) (sym nodes_are) (record {
      count = legal.parts;
      placed = placed;
      has = λ index part e. (
        record { part = part; sides = [] },
        untried_there chip.parts part.state.node part
            (ap (slice_get chip.parts) (placed index part e) ∙ e),
        refl,
      );
    }))
  where
    placed : (index : ℕ) (part : Part) → slice_get chip.parts index ≡ Some part
        → index_of part.state.node ≡ index
    placed index part e =
        let below : index < 144 =
        subst (λ n. index < n) legal.parts (slice_get_within chip.parts index part e) in
        let back = index_back index below in
        ap index_of (legal.named (name_at index) part (ap (slice_get chip.parts) back ∙ e)) ∙ back
