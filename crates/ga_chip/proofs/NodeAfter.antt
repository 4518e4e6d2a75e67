-- The state of a node after its k-th move, by its moves.
use Rattle.std.proofs.Common.{◌≡◌, ℕ, zero, suc, ◌≤◌, List, [], ◌∷◌, ◌++◌, ◌⊎◌, inl, inr, length, take, option_map, Option, Some, None, refl, sym, ap, ◌∙◌, subst, zero-le, suc-le-suc}
use Rattle.std.specs.Prelude.{if◌then◌else◌}
use Rattle.std.proofs.lemmas.Option.{same_Some, none-some}
use Rattle.ga_chip.specs.Part.{Part}
use Rattle.ga_chip.specs.Chip.{Chip, part_of}
use Rattle.ga_chip.specs.Run.{Event, happened, Move, move_in, moves, moves_of, node_after, is_some_move}
use Rattle.ga_node.specs.State.{State}
use Rattle.ga_chip.specs.Legal.{IsLegal}
use Rattle.ga_chip.proofs.Events.{replay}
use Rattle.ga_chip.proofs.Kept.{legal_kept}
use Rattle.ga_chip.proofs.Runs.{moves_of-append, part_before, stand_event}
use Rattle.ga_chip.proofs.Moments.{one_at_most}

-- the node has made k moves, and its state is that after its first k moves
pub record StandsAfter (chip : Chip) (name k : ℕ) (here : State) (ms : List Move) : Type 0 where
  pub part : Part
  pub there : part_of chip name ≡ Some part
  pub many : k ≤ length ms
  pub stands : here ≡ replay part.state (take k ms)

first : (chip : Chip) (name : ℕ) (here : State) (ms : List Move) (o : Option Part)
    → part_of chip name ≡ o → option_map (λ p. p.state) o ≡ Some here
    → StandsAfter chip name zero here ms
first chip name here ms None there e = absurd (none-some here e)
first chip name here ms (Some part) there e = record
    { part = part; there = there; many = zero-le; stands = sym (same_Some part.state here e) }

-- from what follows an event
before_it : (chip : Chip) (event : Event) (events : List Event) (name k : ℕ) (here : State)
    (front : List Move) → IsLegal chip → moves_of name (move_in chip event) ≡ front → (n : ℕ)
    → n ≤ length (front ++ moves_of name (moves (happened chip event) events)) → (next : StandsAfter
    (happened chip event) name k here (moves_of name (moves (happened chip event) events)))
    → ((at : State)
    → replay (replay at front) (take k (moves_of name (moves (happened chip event) events)))
    ≡ replay at (take n (front ++ moves_of name (moves (happened chip event) events))))
    → StandsAfter chip name n here (moves_of name (moves chip (event ∷ events)))
before_it chip event events name k here front legal e n many next on =
    let old = part_before chip event name next.part legal next.there in
    let one = stand_event chip event name old.0 legal old.1 in
    let whole : front ++ moves_of name (moves (happened chip event) events)
    ≡ moves_of name (moves chip (event ∷ events)) =
    ap (λ l. l ++ moves_of name (moves (happened chip event) events)) (sym e)
    ∙ sym (moves_of-append name (move_in chip event) (moves (happened chip event) events)) in
    let stood : next.part.state ≡ replay old.0.state front =
    ap (λ p. p.state) (same_Some next.part one.now (sym next.there ∙ one.there)) ∙ one.stands
    ∙ ap (replay old.0.state) e in
    record {
      part = old.0;
      there = old.1;
      many = subst (λ l. n ≤ length l) whole many;
      stands = next.stands
          ∙ ap (λ at. replay at (take k (moves_of name (moves (happened chip event) events)))) stood
          ∙ on old.0.state ∙ ap (λ l. replay old.0.state (take n l)) whole;
    }

by_event : (chip : Chip) (event : Event) (events : List Event) (name k : ℕ) (here : State)
    → IsLegal chip → (node_after (happened chip event) events name k ≡ Some here → StandsAfter
    (happened chip event) name k here (moves_of name (moves (happened chip event) events)))
    → (node_after (happened chip event) events name (suc k) ≡ Some here → StandsAfter
    (happened chip event) name (suc k) here (moves_of name (moves (happened chip event) events)))
    → node_after chip (event ∷ events) name (suc k) ≡ Some here
    → (moves_of name (move_in chip event) ≡ [])
    ⊎ ((m : Move) × (moves_of name (move_in chip event) ≡ m ∷ []))
    → StandsAfter chip name (suc k) here (moves_of name (moves chip (event ∷ events)))
by_event chip event events name k here legal one more e (inl none) =
    let next = more (ap (λ l. if is_some_move l then node_after (happened chip event) events name k
    else node_after (happened chip event) events name (suc k)) (sym none) ∙ e) in
    before_it chip event events name (suc k) here [] legal none (suc k) next.many next (λ at. refl)
by_event chip event events name k here legal one more e (inr (m, some)) =
    let next = one (ap (λ l. if is_some_move l then node_after (happened chip event) events name k
    else node_after (happened chip event) events name (suc k)) (sym some) ∙ e) in
    before_it chip event events name k here (m ∷ []) legal some (suc k) (suc-le-suc next.many) next
    (λ at. refl)

pub stands_after_moves : (chip : Chip) (events : List Event) (name k : ℕ) (here : State)
    → IsLegal chip → node_after chip events name k ≡ Some here
    → StandsAfter chip name k here (moves_of name (moves chip events))
stands_after_moves chip [] name zero here legal e =
    first chip name here [] (part_of chip name) refl e
stands_after_moves chip (event ∷ events) name zero here legal e =
    first chip name here (moves_of name (moves chip (event ∷ events))) (part_of chip name) refl e
stands_after_moves chip [] name (suc k) here legal e = absurd (none-some here e)
stands_after_moves chip (event ∷ events) name (suc k) here legal e =
    by_event chip event events name k here legal
    (stands_after_moves (happened chip event) events name k here (legal_kept chip event legal))
    (stands_after_moves (happened chip event) events name (suc k) here
    (legal_kept chip event legal))
    e (one_at_most chip event name)
