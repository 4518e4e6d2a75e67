-- Turns that move only nodes that spin.
use Rattle.std.proofs.Common.{◌≡◌, ◌≢◌, ◌∙◌, ℕ, zero, suc, ◌+◌, ◌-◌, ◌<◌, ◌≤◌, ◌%◌, ◌^◌, ◌⊎◌, inl, inr, Bool, true, false, List, [], ◌∷◌, length, length-append, flat_map, get_or, set, Option, Some, None, option_map, refl, sym, ap, ap₂, subst, arith}
use Rattle.std.specs.Prelude.{◌&&◌, not, if◌then◌else◌}
use Rattle.std.specs.List.{range_with_len}
use Rattle.std.specs.Option.{option_map_or}
use Rattle.std.proofs.lemmas.Bool.{and_parts, cases_eq, false≢true, ne_eqb}
use Rattle.std.proofs.lemmas.Option.{get_or_from_slice_get, slice_get-get_or}
use Rattle.ga_place.specs.Cell.{index_of, name_at}
use Rattle.ga_place.specs.declared.side.Side.{Side}
use Rattle.ga_place.specs.inner.Index.{index_back}
use Rattle.ga_place.proofs.Cells.{index_below}
use Rattle.ga_node.specs.Need.{need_of, wants}
use Rattle.ga_node.specs.Slot.{step}
use Rattle.ga_node.specs.Spins.{is_spinning}
use Rattle.ga_node.specs.State.{State, is_fetch}
use Rattle.ga_node.specs.declared.need.Need.TheVariants as need
use Rattle.ga_node.specs.declared.need.Stop.TheVariants.{Counted}
use Rattle.ga_node.proofs.Spun.{spinning_Decides}
use Rattle.ga_node.proofs.Uncounted.{spins_next, spins_own}
use Rattle.ga_chip.specs.Chip.{Chip, found_by, part_of, reset_part, tried}
use Rattle.ga_chip.specs.Legal.{IsLegal}
use Rattle.ga_chip.specs.Outcome.{moved_by}
use Rattle.ga_chip.specs.Part.{Part, Own, after, asks, is_held, stepped}
use Rattle.ga_chip.specs.Run.{Try, happened, move_in, moves, ran}
use Rattle.ga_chip.specs.declared.outcome.Outcome.TheVariants.{Moved}
use Rattle.ga_chip.proofs.Kept.{has_name, legal_kept}
use Rattle.ga_chip.proofs.Lists.{get-set_here}
use Rattle.ga_chip.proofs.Plain.{free_asks}
use Rattle.ga_chip.proofs.Tries.{own_at, tried_still, tried_there}
use Rattle.ga_chip.proofs.Turns.{count_moves, happened_try}
use Rattle.ga_trace.specs.Rest.{are_unbroken, if_spins, spins, spins_with}
use Rattle.ga_trace.proofs.Unbroken.{unbroken_next}
use Rattle.ga_laws.proofs.Trying.{other_part, others, tries_from}

-- ---- a node that spins

-- whether a node spins, by its part
abbrev breaks_of : Option Part → ℕ → Bool
breaks_of found at = option_map_or (λ part. get_or part.breaks at false) found false

abbrev pub spin_of : Option Part → Bool
spin_of found =
    option_map_or (spins_with (breaks_of found)) (option_map (λ part. part.state) found) false

-- its step is counted
abbrev pub MayCount : Part → Type 0
MayCount part = part.state.steps ≢ 2 ^ 64 - 1

unheld : (fetches pass broken : Bool) → not (fetches && broken) ≡ true
    → (fetches && (not pass && broken)) ≡ false
unheld true true broken e = refl
unheld true false true e = absurd (false≢true e)
unheld true false false e = refl
unheld false pass broken e = refl

needs_own : (state : State) → state.steps ≢ 2 ^ 64 - 1 → wants state ≡ need.Own
    → need_of state ≡ need.Own
unfolding need_of
needs_own state few own =
    ap (λ (full : Bool). if full then need.Stopped Counted else wants state)
    (ne_eqb state.steps (2 ^ 64 - 1) few) ∙ own

spin_asks : (part : Part) (side : Side) → MayCount part → spin_of (Some part) ≡ true
    → asks part side ≡ Own
unfolding spins_with are_unbroken
spin_asks part side few spins =
    let parts = and_parts (is_spinning part.state) _ spins in
    let own = needs_own part.state few
    (spins_own part.state ((spinning_Decides part.state).0 parts.0).0) in
    let free : is_held part ≡ false =
    unheld (is_fetch part.state.place) part.pass (get_or part.breaks (part.state.p % 2 ^ 9) false)
    (and_parts _ _ parts.1).0 in
    free_asks part side need.Own free (sym own)

-- behind its step it still spins
pub spin_next : (part : Part) → spin_of (Some part) ≡ true
    → spin_of (Some (stepped None part)) ≡ true
unfolding spins_with spins_next
spin_next part spins =
    let parts = and_parts (is_spinning part.state) _ spins in
    let within = (spinning_Decides part.state).0 parts.0 in
    ap₂ (λ one two. one && two)
    ((spinning_Decides (step part.state None)).1 (spins_next part.state within.0, within.1))
    (unbroken_next (breaks_of (Some part)) part.state parts.0 ∙ parts.1)

-- ---- a try

-- a try moves a node, by what it has and what the cells hold
abbrev pub Moves : Part → Side → List (Option ℕ) → Type 0
Moves part side cells = (after part side (found_by (asks part side) cells)).0 ≡ Moved

-- a node that spins moves by its own work
pub record Spun (chip : Chip) (name : ℕ) (side : Side) (part : Part) : Type 0 where
  pub leads : part_of (happened chip (Try name side)) name ≡ Some (stepped None part)
  pub cells : (happened chip (Try name side)).cells ≡ chip.cells
  pub moved : length (move_in chip (Try name side)) ≡ 1

pub spun : (chip : Chip) (name : ℕ) (side : Side) (part : Part) → IsLegal chip
    → part_of chip name ≡ Some part → MayCount part → spin_of (Some part) ≡ true
    → Spun chip name side part
spun chip name side part legal there few spins =
    let made = own_at chip name (index_of name) side part (stepped None part) legal refl
    (index_below name (has_name chip name part legal there))
    (sym (get_or_from_slice_get chip.parts (index_of name) part part there))
    (spin_asks part side few spins) refl in
    let leads : happened chip (Try name side)
    ≡ record chip { parts = set chip.parts (index_of name) (stepped None part) } =
    happened_try chip name side ∙ sym (ap (λ r. r.1) made) in
    record {
      leads = ap (λ c. part_of c name) leads
          ∙ get-set_here chip.parts (index_of name) (stepped None part) part there;
      cells = ap (λ c. c.cells) leads;
      moved = count_moves chip name side ∙ sym (ap (λ r. moved_by r.0) made);
    }

-- ---- counts

-- how many nodes spin, of some from an index on
abbrev spin_from : Chip → ℕ → ℕ → ℕ
spin_from chip from n =
    length (flat_map (λ index. if_spins chip (name_at index)) (range_with_len from n))

abbrev moves_from : Side → Chip → ℕ → ℕ → ℕ
moves_from side chip from n = length (moves chip (tries_from side from n))

abbrev one_if : Bool → ℕ
one_if spins = if spins then 1 else 0

spin_more : (chip : Chip) (from n : ℕ) → spin_from chip from (suc n)
    ≡ one_if (spins chip (name_at from)) + spin_from chip (from + 1) n
spin_more chip from n =
    length-append (if_spins chip (name_at from)) _
    ∙ ap (λ l. l + spin_from chip (from + 1) n) (one (spins chip (name_at from)))
  where
    one : (b : Bool) → length (if b then name_at from ∷ [] else []) ≡ one_if b
    one true = refl
    one false = refl

moves_more : (side : Side) (chip : Chip) (from n : ℕ) → moves_from side chip from (suc n)
    ≡ length (move_in chip (Try (name_at from) side))
    + moves_from side (happened chip (Try (name_at from) side)) (from + 1) n
moves_more side chip from n = length-append (move_in chip (Try (name_at from) side)) _

-- nodes spin as before whose parts are as before
spin_same : (n from : ℕ) (chip next : Chip) → ((at : ℕ) → from ≤ at → at < from + n
    → part_of next (name_at at) ≡ part_of chip (name_at at))
    → spin_from next from n ≡ spin_from chip from n
spin_same zero from chip next same = refl
spin_same (suc n) from chip next same =
    spin_more next from n
    ∙ ap₂ (λ one more. one_if one + more) (ap spin_of (same from (omega arith) (omega arith)))
    (spin_same n (from + 1) chip next
    (λ at low high. same at (omega (arith, low)) (omega (arith, high))))
    ∙ sym (spin_more chip from n)

module _ (side : Side) where
  abbrev tried_next : Chip → ℕ → Chip
  tried_next chip from = happened chip (Try (name_at from) side)

  apart : (from at : ℕ) → from < at → at < 144 → name_at from ≡ name_at at → ⊥
  apart from at low high same =
      let here = index_back from (omega (arith, low, high)) in
      let there = index_back at high in
      let equal : from ≡ at = sym here ∙ ap index_of same ∙ there in
      omega (arith, low, equal)

  -- the nodes behind the one that is tried are as before
  later_part : (chip : Chip) (from at : ℕ) → IsLegal chip → from < at → at < 144
      → part_of (tried_next chip from) (name_at at) ≡ part_of chip (name_at at)
  later_part chip from at legal low high =
      other_part (name_at at) 0 side chip (name_at from) legal (apart from at low high)

  later_spin : (n from : ℕ) (chip : Chip) → IsLegal chip → from + suc n ≤ 144
      → spin_from (tried_next chip from) (from + 1) n ≡ spin_from chip (from + 1) n
  later_spin n from chip legal within =
      spin_same n (from + 1) chip (tried_next chip from)
      (λ at low high. later_part chip from at legal (omega (arith, low))
      (omega (arith, high, within)))

  -- the steps of some nodes can be counted
  abbrev CountFrom : Chip → ℕ → ℕ → Type 0
  CountFrom chip from n =
      (at : ℕ) (part : Part) → from ≤ at → at < from + n → part_of chip (name_at at) ≡ Some part
      → MayCount part

  count_later : (n from : ℕ) (chip : Chip) → IsLegal chip → from + suc n ≤ 144
      → CountFrom chip from (suc n) → CountFrom (tried_next chip from) (from + 1) n
  count_later n from chip legal within counts at part low high there =
      counts at part (omega (arith, low)) (omega (arith, high))
      (sym (later_part chip from at legal (omega (arith, low)) (omega (arith, high, within)))
      ∙ there)

  there_is : (chip : Chip) (from : ℕ) → IsLegal chip → from < 144
      → (part : Part) × (part_of chip (name_at from) ≡ Some part)
  there_is chip from legal below = (
    get_or chip.parts (index_of (name_at from)) (reset_part 0),
    slice_get-get_or chip.parts (index_of (name_at from)) (reset_part 0)
        (subst (λ n. n < length chip.parts) (sym (index_back from below))
        (subst (λ n. from < n) (sym legal.parts) below)),
  )

  -- What a turn leaves of a node that makes a step only if it spins.
  abbrev pub CalmNode : List (Option ℕ) → Option Part → Option Part → Type 0
  CalmNode cells old new =
      (part : Part) × (old ≡ Some part)
      × (((spin_of (Some part) ≡ true) × (new ≡ Some (stepped None part)))
      ⊎ ((spin_of (Some part) ≡ false) × (new ≡ Some part) × (Moves part side cells → ⊥)))

  pub record Calm (chip end : Chip) (from n : ℕ) : Type 0 where
    pub cells : end.cells ≡ chip.cells
    pub each : (at : ℕ) → from ≤ at → at < from + n
        → CalmNode chip.cells (part_of chip (name_at at)) (part_of end (name_at at))

  -- behind its try a node stays as it is
  rest_part : (n from : ℕ) (next : Chip) → IsLegal next → from + suc n ≤ 144
      → part_of (ran next (tries_from side (from + 1) n)) (name_at from)
      ≡ part_of next (name_at from)
  rest_part n from next legal within =
      (others (name_at from) 0 side n (from + 1) next None legal
      (λ at low high same. apart from at (omega (arith, low)) (omega (arith, high, within))
      (sym same))).1

  calm_more : (n from : ℕ) (chip : Chip) → IsLegal chip → from + suc n ≤ 144
      → (tried_next chip from).cells ≡ chip.cells
      → CalmNode chip.cells (part_of chip (name_at from))
      (part_of (tried_next chip from) (name_at from))
      → Calm (tried_next chip from) (ran (tried_next chip from) (tries_from side (from + 1) n))
      (from + 1) n
      → Calm chip (ran chip (tries_from side from (suc n))) from (suc n)
  calm_more n from chip legal within same first rest = record {
    cells = rest.cells ∙ same;
    each = λ at low high. by at low high (cases_eq at from);
  }
    where
      end : Chip
      end = ran (tried_next chip from) (tries_from side (from + 1) n)

      by : (at : ℕ) → from ≤ at → at < from + suc n → (at ≡ from) ⊎ (at ≡ from → ⊥)
          → CalmNode chip.cells (part_of chip (name_at at)) (part_of end (name_at at))
      by at low high (inl here) =
          subst (λ i. CalmNode chip.cells (part_of chip (name_at i)) (part_of end (name_at i)))
          (sym here) (subst (CalmNode chip.cells (part_of chip (name_at from)))
          (sym (rest_part n from (tried_next chip from)
          (legal_kept chip (Try (name_at from) side) legal) within)) first)
      by at low high (inr later) =
          let past : from < at = omega (arith, low, later) in
          subst (λ cells. CalmNode cells (part_of chip (name_at at)) (part_of end (name_at at)))
          same (subst (λ old. CalmNode (tried_next chip from).cells old (part_of end (name_at at)))
          (later_part chip from at legal past (omega (arith, high, within)))
          (rest.each at (omega (arith, past)) (omega (arith, high))))

  -- Each node that spins moves. If no more are made than these moves, no other node moves.
  pub calm : (n from : ℕ) (chip : Chip) → IsLegal chip → from + n ≤ 144 → CountFrom chip from n
      → (spin_from chip from n ≤ moves_from side chip from n)
      × (moves_from side chip from n ≤ spin_from chip from n
      → Calm chip (ran chip (tries_from side from n)) from n)
  calm zero from chip legal within counts = (
    omega arith,
    λ few. record { cells = refl; each = λ at low high. absurd (omega (arith, low, high)) },
  )
  calm (suc n) from chip legal within counts =
      by (spins chip (name_at from)) refl
      (calm n (from + 1) (tried_next chip from)
      (legal_kept chip (Try (name_at from) side) legal) (omega (arith, within))
      (count_later n from chip legal within counts))
    where
      next : Chip
      next = tried_next chip from

      split : (b : Bool) → spins chip (name_at from) ≡ b
          → spin_from chip from (suc n) ≡ one_if b + spin_from next (from + 1) n
      split b e =
          spin_more chip from n
          ∙ ap₂ (λ b more. one_if b + more) e (sym (later_spin n from chip legal within))

      there : (part : Part) × (part_of chip (name_at from) ≡ Some part)
      there = there_is chip from legal (omega (arith, within))

      by : (b : Bool) → spins chip (name_at from) ≡ b
          → ((spin_from next (from + 1) n ≤ moves_from side next (from + 1) n)
          × (moves_from side next (from + 1) n ≤ spin_from next (from + 1) n
          → Calm next (ran next (tries_from side (from + 1) n)) (from + 1) n))
          → (spin_from chip from (suc n) ≤ moves_from side chip from (suc n))
          × (moves_from side chip from (suc n) ≤ spin_from chip from (suc n)
          → Calm chip (ran chip (tries_from side from (suc n))) from (suc n))
      by true e rest =
          let spin : spin_of (Some there.0) ≡ true = ap spin_of (sym there.1) ∙ e in
          let its = spun chip (name_at from) side there.0 legal there.1
          (counts from there.0 (omega arith) (omega arith) there.1) spin in
          let moved = its.moved in
          let made = moves_more side chip from n in
          let all = split true e in (
            omega (arith, rest.0, moved, made, all),
            λ few. calm_more n from chip legal within its.cells
                (there.0, there.1, inl (spin, its.leads))
                (rest.1 (omega (arith, few, moved, made, all))),
          )
      by false e rest =
          let made = moves_more side chip from n in
          let all = split false e in (
            omega (arith, rest.0, made, all),
            λ few.
                let stays : (tried chip (name_at from) side).0 ≡ Moved → ⊥ = λ moved.
                let one : length (move_in chip (Try (name_at from) side)) ≡ 1 =
                count_moves chip (name_at from) side ∙ ap moved_by moved in
                omega (arith, few, rest.0, made, all, one) in
                let still : next ≡ chip =
                happened_try chip (name_at from) side
                ∙ tried_still chip (name_at from) side stays in
                calm_more n from chip legal within (ap (λ c. c.cells) still) (
                  there.0,
                  there.1,
                  inr (
                    ap spin_of (sym there.1) ∙ e,
                    ap (λ c. part_of c (name_at from)) still ∙ there.1,
                    λ moves. stays (ap (λ r. r.0)
                        (tried_there chip (name_at from) side there.0 there.1) ∙ moves),
                  ),
                ) (rest.1 (omega (arith, few, made, all))),
          )
