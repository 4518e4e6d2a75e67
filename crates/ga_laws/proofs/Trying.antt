-- The try of a node in a turn.
use Rattle.std.proofs.Common.{◌≡◌, ◌∙◌, ℕ, zero, suc, ◌+◌, ◌<◌, ◌≤◌, ◌⊎◌, inl, inr, Bool, List, [], ◌∷◌, ◌++◌, flat_map, map, Option, Some, None, option_map, refl, sym, ap, arith}
use Rattle.std.specs.Prelude.{if◌then◌else◌}
use Rattle.std.specs.List.{range_with_len}
use Rattle.std.proofs.lemmas.Bool.{cases_eq, eq-eqb, ne_eqb}
use Rattle.ga_place.specs.Cell.{index_of, name_at}
use Rattle.ga_place.specs.declared.side.Side.{Side}
use Rattle.ga_place.specs.inner.Index.{index_back}
use Rattle.ga_node.specs.Need.{need_of}
use Rattle.ga_chip.specs.Chip.{Chip, found_by, part_of, state_of}
use Rattle.ga_chip.specs.Legal.{IsLegal}
use Rattle.ga_chip.specs.Part.{Part, after, asks, picked_by}
use Rattle.ga_chip.specs.Run.{Event, Move, Try, happened, if_moved, move_at, move_in, ran}
use Rattle.ga_chip.specs.declared.outcome.Outcome.{Outcome}
use Rattle.ga_chip.specs.declared.outcome.Outcome.TheVariants.{Moved, Waits, Held, Stopped}
use Rattle.ga_chip.proofs.Kept.{legal_kept}
use Rattle.ga_chip.proofs.Tries.{tried_still, tried_there}
use Rattle.ga_chip.proofs.Turns.{happened_try}
use Rattle.ga_observe.specs.Seen.{numbered, step_of, steps_by, steps_in, steps_seen}
use Rattle.ga_observe.specs.declared.step.Step.{Step}
use Rattle.ga_observe.proofs.Tried.{no_node, part_else, tried_leaves}
use Rattle.ga_trace.specs.Last.{last_by}
use Rattle.ga_trace.proofs.LastSteps.{last_by-append}

-- ---- a try

-- the move that a try is, if it is moved
abbrev pub move_by : Chip → ℕ → Side → Part → Move
move_by chip name side part = record {
  node = name;
  asked = asks part side;
  found = found_by (asks part side) chip.cells;
  picked = picked_by (need_of part.state) side;
}

-- a try that is moved makes one step
pub record Stepped (chip : Chip) (name turn : ℕ) (side : Side) : Type 0 where
  pub part : Part
  pub there : part_of chip name ≡ Some part
  pub moved : (after part side (found_by (asks part side) chip.cells)).0 ≡ Moved
  pub one : steps_in turn chip (Try name side)
      ≡ step_of turn part.state (move_by chip name side part) ∷ []

-- and any other makes none, and changes nothing
abbrev pub Tries : Chip → ℕ → ℕ → Side → Type 0
Tries chip name turn side =
    ((steps_in turn chip (Try name side) ≡ []) × (happened chip (Try name side) ≡ chip))
    ⊎ Stepped chip name turn side

pub tries : (chip : Chip) (name turn : ℕ) (side : Side) → Tries chip name turn side
unfolding steps_in move_in
tries chip name turn side = by (part_of chip name) refl
  where
    steps : List Move → List Step
    steps all = flat_map (λ (move : Move). steps_by turn (state_of chip move.node) move) all

    still : (part : Part) (o : Outcome) → part_of chip name ≡ Some part
        → (after part side (found_by (asks part side) chip.cells)).0 ≡ o → (o ≡ Moved → ⊥)
        → happened chip (Try name side) ≡ chip
    still part o there e not =
        happened_try chip name side ∙ tried_still chip name side (λ moved. not (sym e
        ∙ sym (ap (λ r. r.0) (tried_there chip name side part there)) ∙ moved))

    outcome : (part : Part) (o : Outcome) → part_of chip name ≡ Some part
        → (after part side (found_by (asks part side) chip.cells)).0 ≡ o
        → steps_in turn chip (Try name side) ≡ steps (if_moved o (move_by chip name side part))
        → Tries chip name turn side
    outcome part Moved there e is = inr (record {
      part = part;
      there = there;
      moved = e;
      one = is ∙ ap (λ o. steps_by turn (option_map (λ (p : Part). p.state) o)
          (move_by chip name side part) ++ []) there;
    })
    outcome part Waits there e is = inl (is, still part Waits there e (λ m. cc))
    outcome part Held there e is = inl (is, still part Held there e (λ m. cc))
    outcome part Stopped there e is = inl (is, still part Stopped there e (λ m. cc))

    by : (o : Option Part) → part_of chip name ≡ o → Tries chip name turn side
    by None e =
        inl (ap (λ o. steps (move_at o chip name side)) e, no_node chip name side e)
    by (Some part) e =
        outcome part (after part side (found_by (asks part side) chip.cells)).0 e refl
        (ap (λ o. steps (move_at o chip name side)) e)

-- the last step of a node behind a step of it, and behind one of another node
last_own : (name : ℕ) (found : Option Step) (step : Step) → step.node ≡ name
    → last_by name found (step ∷ []) ≡ Some step
last_own name found step same =
    ap (λ (b : Bool). if b then Some step else found) (eq-eqb step.node name same)

last_other : (name : ℕ) (found : Option Step) (step : Step) → (step.node ≡ name → ⊥)
    → last_by name found (step ∷ []) ≡ found
last_other name found step apart =
    ap (λ (b : Bool). if b then Some step else found) (ne_eqb step.node name apart)

-- the tries of some nodes from an index on
abbrev pub tries_from : Side → ℕ → ℕ → List Event
tries_from side from n = map (λ index. Try (name_at index) side) (range_with_len from n)

module _ (name turn : ℕ) (side : Side) where
  -- a try of another node is no step of this one, and leaves its part
  other_steps : (chip : Chip) (other : ℕ) (found : Option Step) → (other ≡ name → ⊥)
      → last_by name found (steps_in turn chip (Try other side)) ≡ found
  other_steps chip other found apart = elim (tries chip other turn side) [
    | inl (none, still) ↦ ap (last_by name found) none
    | inr its ↦ ap (last_by name found) its.one ∙ last_other name found _ apart
  ]

  pub other_part : (chip : Chip) (other : ℕ) → IsLegal chip → (other ≡ name → ⊥)
      → part_of (happened chip (Try other side)) name ≡ part_of chip name
  other_part chip other legal apart = by (part_of chip other) refl
    where
      by : (o : Option Part) → part_of chip other ≡ o
          → part_of (happened chip (Try other side)) name ≡ part_of chip name
      by None e = ap (λ c. part_of c name) (no_node chip other side e)
      by (Some part) e =
          part_else chip other side part _ (asks part side) (tried_leaves chip other side part e)
          legal name apart

  -- ---- a turn

  -- the node's last step in the tries of the nodes from an index on
  abbrev last : Option Step → Chip → ℕ → ℕ → Option Step
  last found chip from n =
      last_by name found (steps_seen chip (numbered turn (tries_from side from n)))

  next_last : (found : Option Step) (chip : Chip) (from n : ℕ) → last found chip from (suc n)
      ≡ last (last_by name found (steps_in turn chip (Try (name_at from) side)))
      (happened chip (Try (name_at from) side)) (from + 1) n
  next_last found chip from n =
      last_by-append name found (steps_in turn chip (Try (name_at from) side))
      (steps_seen (happened chip (Try (name_at from) side))
      (numbered turn (tries_from side (from + 1) n)))

  -- other nodes alone
  pub others : (n from : ℕ) (chip : Chip) (found : Option Step) → IsLegal chip
      → ((at : ℕ) → from ≤ at → at < from + n → name_at at ≡ name → ⊥)
      → (last found chip from n ≡ found)
      × (part_of (ran chip (tries_from side from n)) name ≡ part_of chip name)
  others zero from chip found legal apart = (refl, refl)
  others (suc n) from chip found legal apart =
      let next = happened chip (Try (name_at from) side) in
      let here = apart from (omega arith) (omega arith) in
      let rest = others n (from + 1) next found (legal_kept chip (Try (name_at from) side) legal)
      (λ at low high. apart at (omega (arith, low)) (omega (arith, high))) in (
        next_last found chip from n
            ∙ ap (λ f. last f next (from + 1) n) (other_steps chip (name_at from) found here)
            ∙ rest.0,
        rest.1 ∙ other_part chip (name_at from) legal here,
      )

  -- The node makes no step, and stays; or it makes one, by a try on a chip that has it as at first.
  pub record Made (chip end : Chip) (found : Option Step) : Type 0 where
    pub mid : Chip
    pub its : Stepped mid name turn side
    pub there : part_of mid name ≡ part_of chip name
    pub leads : part_of end name ≡ part_of (happened mid (Try name side)) name
    pub is : found ≡ Some (step_of turn its.part.state (move_by mid name side its.part))

  abbrev pub InTurn : Chip → Chip → Option Step → Type 0
  InTurn chip end found =
      ((found ≡ None) × (part_of end name ≡ part_of chip name)) ⊎ Made chip end found

  pub in_tries : (n from : ℕ) (chip : Chip) → IsLegal chip → from + n ≤ 144
      → InTurn chip (ran chip (tries_from side from n)) (last None chip from n)
  in_tries zero from chip legal within = inl (refl, refl)
  in_tries (suc n) from chip legal within =
      by (cases_eq (name_at from) name)
      (in_tries n (from + 1) next (legal_kept chip (Try (name_at from) side) legal)
      (omega (arith, within)))
    where
      next : Chip
      next = happened chip (Try (name_at from) side)

      end : Chip
      end = ran next (tries_from side (from + 1) n)

      later : name_at from ≡ name → (found : Option Step)
          → (last found next (from + 1) n ≡ found) × (part_of end name ≡ part_of next name)
      later same found =
          others n (from + 1) next found (legal_kept chip (Try (name_at from) side) legal)
          (λ at low high also.
          let back = index_back at (omega (arith, high, within)) in
          let here = index_back from (omega (arith, within)) in
          let equal : at ≡ from = sym back ∙ ap index_of (also ∙ sym same) ∙ here in
          omega (arith, low, equal))

      by : (name_at from ≡ name) ⊎ (name_at from ≡ name → ⊥)
          → InTurn next end (last None next (from + 1) n)
          → InTurn chip end (last None chip from (suc n))
      by (inl same) rest =
          let made : steps_in turn chip (Try (name_at from) side)
          ≡ steps_in turn chip (Try name side) = ap (λ n. steps_in turn chip (Try n side)) same in
          let leads : part_of next name ≡ part_of (happened chip (Try name side)) name =
          ap (λ n. part_of (happened chip (Try n side)) name) same in
          let first : (steps : List Step) → steps_in turn chip (Try name side) ≡ steps
          → last None chip from (suc n) ≡ last_by name None steps = λ steps is.
          next_last None chip from n ∙ (later same _).0 ∙ ap (last_by name None) (made ∙ is) in
          elim (tries chip name turn side) [
            | inl (none, still) ↦
                inl (
                  first [] none,
                  (later same None).1 ∙ leads ∙ ap (λ c. part_of c name) still,
                )
            | inr its ↦
                inr (record {
                  mid = chip;
                  its = its;
                  there = refl;
                  leads = (later same None).1 ∙ leads;
                  is = first _ its.one ∙ last_own name None _ refl;
                })
          ]
      by (inr apart) (inl rest) = inl (
        next_last None chip from n
            ∙ ap (λ f. last f next (from + 1) n) (other_steps chip (name_at from) None apart)
            ∙ rest.0,
        rest.1 ∙ other_part chip (name_at from) legal apart,
      )
      by (inr apart) (inr made) = inr (record {
        mid = made.mid;
        its = made.its;
        there = made.there ∙ other_part chip (name_at from) legal apart;
        leads = made.leads;
        is = next_last None chip from n
            ∙ ap (λ f. last f next (from + 1) n) (other_steps chip (name_at from) None apart)
            ∙ made.is;
      })
