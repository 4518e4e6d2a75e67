-- Room for an event: a run makes the steps that another run makes with one more event.
use Rattle.std.proofs.Common.{◌≡◌, ℕ, ◌+◌, ◌≤◌, List, [], ◌∷◌, ◌++◌, ◌⊎◌, inl, inr, length, refl, sym, ap, ◌∙◌, subst, append-nil, length-append, arith}
use Rattle.std.proofs.lemmas.Bool.{cases_eq}
use Rattle.ga_chip.specs.Chip.{Chip}
use Rattle.ga_chip.specs.Run.{Event, move_in, moves, moves_of, ran}
use Rattle.ga_race.specs.Clocks.{steps_in}
use Rattle.ga_race.proofs.Prefixes.{One, its_own, next_of, not_its, one_or_none, prefix_long}
use Rattle.ga_race.proofs.Embedded.{IsEmbedded}

module _ (chip : Chip) (done others : List Event) (event : Event)
    (inside : IsEmbedded chip done others) where
  -- there is room for a node that the event doesn't move
  room_else : (name : ℕ) → moves_of name (move_in (ran chip done) event) ≡ []
      → steps_in chip (done ++ event ∷ []) name ≤ steps_in chip others name
  room_else name none =
      let long = prefix_long _ _ (inside name) in
      let same : steps_in chip (done ++ event ∷ []) name ≡ steps_in chip done name =
      ap (λ l. length l) (next_of chip done event name
      ∙ ap (λ l. moves_of name (moves chip done) ++ l) none
      ∙ append-nil (moves_of name (moves chip done))) in
      omega arith

  -- there is room for each node if there is one more step of the node that the event moves
  pub room_by : ((o : One (ran chip done) event)
      → steps_in chip done o.move.node + 1 ≤ steps_in chip others o.move.node) → (name : ℕ)
      → steps_in chip (done ++ event ∷ []) name ≤ steps_in chip others name
  room_by more name = by (one_or_none (ran chip done) event)
    where
      at : (o : One (ran chip done) event) → (name ≡ o.move.node) ⊎ (name ≡ o.move.node → ⊥)
          → steps_in chip (done ++ event ∷ []) name ≤ steps_in chip others name
      at o (inl its) =
          let one : steps_in chip (done ++ event ∷ []) o.move.node ≡ steps_in chip done o.move.node
          + 1 =
          ap (λ l. length l) (next_of chip done event o.move.node
          ∙ ap (λ l. moves_of o.move.node (moves chip done) ++ l)
          (ap (moves_of o.move.node) o.made ∙ its_own o.move.node o.move refl))
          ∙ length-append (moves_of o.move.node (moves chip done)) (o.move ∷ []) in
          let some = more o in
          let it : steps_in chip (done ++ event ∷ []) o.move.node
          ≤ steps_in chip others o.move.node = omega arith in
          subst (λ n. steps_in chip (done ++ event ∷ []) n ≤ steps_in chip others n) (sym its) it
      at o (inr apart) = room_else name (ap (moves_of name) o.made ∙ not_its name o.move apart)

      by : (move_in (ran chip done) event ≡ []) ⊎ One (ran chip done) event
          → steps_in chip (done ++ event ∷ []) name ≤ steps_in chip others name
      by (inl none) = room_else name (ap (moves_of name) none)
      by (inr o) = at o (cases_eq name o.move.node)
