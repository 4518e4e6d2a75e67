-- Tries lead chips that are alike by equal moves to chips that are alike.
use Rattle.std.proofs.Common.{◌≡◌, ℕ, zero, suc, ◌<◌, ◌==◌, Bool, true, false, List, [], ◌∷◌, ◌++◌, ◌⊎◌, inl, inr, Option, Some, None, option_map, refl, sym, ap, ap₂, ◌∙◌, subst, arith}
use Rattle.std.specs.Prelude.{◌%◌, ◌^◌, ◌-◌, ◌&&◌, get_or, not, if◌then◌else◌}
use Rattle.std.specs.List.{list_any}
use Rattle.std.proofs.lemmas.Bool.{cases_eq, ne_eqb}
use Rattle.std.proofs.lemmas.Option.{same_Some}
use Rattle.ga_place.specs.declared.side.Side.{Side}
use Rattle.ga_node.specs.State.{State, is_fetch}
use Rattle.ga_node.specs.Need.{need_of, wants}
use Rattle.ga_node.specs.Slot.{step}
use Rattle.ga_node.specs.declared.need.Need.TheVariants as need
use Rattle.ga_node.specs.declared.need.Stop.TheVariants.{Counted}
use Rattle.ga_chip.specs.declared.outcome.Outcome.{Outcome}
use Rattle.ga_chip.specs.Part.{Part, Asks, Nothing, Own, Feed, Post, Check, Take, after, after_asked, asks, asks_by, asks_if, counted, held_by, is_held, picked_by, rest_of, stepped}
use Rattle.ga_chip.specs.Chip.{Chip, cells_after, found_by, part_of, tried, tried_at}
use Rattle.ga_chip.specs.Run.{Event, Try, SetBreak, ClearBreak, PassBreak, Piece, happened, if_moved, move_at, move_in, moves, ran}
use Rattle.ga_chip.specs.Legal.{IsLegal}
use Rattle.ga_chip.proofs.Kept.{legal_kept}
use Rattle.ga_chip.proofs.Runs.{stand_ran}
use Rattle.ga_race.specs.Spins.{IsSpinning}
use Rattle.ga_node.specs.Spins.{uncounted}
use Rattle.ga_race.specs.Rounds.{IsAlike, unnumbered}
use Rattle.ga_node.proofs.Uncounted.{step_same, wants_same}
use Rattle.ga_observe.proofs.Tried.{Leaves, no_node, part_else, part_here, tried_leaves}
use Rattle.ga_race.proofs.Longer.{own_tried, spins_else, spins_here}

-- no node has made as many steps as are counted
abbrev pub IsCounting : Chip → Type 0
IsCounting chip = (name : ℕ) (part : Part) → part_of chip name ≡ Some part
    → part.state.steps < 2 ^ 64 - 1

-- a smaller number of steps is not the largest one
below_counted : (steps : ℕ) → steps < 2 ^ 64 - 1 → (steps == 2 ^ 64 - 1) ≡ false
below_counted steps below = ne_eqb steps (2 ^ 64 - 1) (λ e. absurd (omega arith))

-- a node that has made fewer steps has the need of its place
pub need_wants : (state : State) → state.steps < 2 ^ 64 - 1 → need_of state ≡ wants state
unfolding need_of
need_wants state below =
    ap (λ full. if full then need.Stopped Counted else wants state)
    (below_counted state.steps below)

-- parts that are equal but for numbers have the same need
pub need_alike : (p q : Part) → unnumbered p ≡ unnumbered q → p.state.steps < 2 ^ 64 - 1
    → q.state.steps < 2 ^ 64 - 1 → need_of p.state ≡ need_of q.state
need_alike p q e below below' = need_wants p.state below
    ∙ wants_same p.state q.state (ap (λ (u : Part). u.state) e) ∙ sym (need_wants q.state below')

-- whether there is a breakpoint
abbrev has_any : List Bool → Bool
has_any breaks = list_any (λ break. break) breaks

-- if there is none, no address has one
none_any : (breaks : List Bool) (at : ℕ) → has_any breaks ≡ false → get_or breaks at false ≡ false
none_any [] at none = refl
none_any (false ∷ breaks) zero none = refl
none_any (false ∷ breaks) (suc at) none = none_any breaks at none
none_any (true ∷ breaks) at none = cc

-- so passes that count equally hold equally
held_alike : (fetch one two any at : Bool) → (any ≡ false → at ≡ false) → one && any ≡ two && any
    → fetch && (not one && at) ≡ fetch && (not two && at)
held_alike false one two any at none e = refl
held_alike true true true any at none e = refl
held_alike true false false any at none e = refl
held_alike true true false true at none e = cc
held_alike true false true true at none e = cc
held_alike true true false false at none e = sym (none refl)
held_alike true false true false at none e = none refl

-- a breakpoint holds both of two parts that are equal but for numbers, or neither
holds_alike : (p q : Part) → unnumbered p ≡ unnumbered q → is_held p ≡ is_held q
holds_alike p q e =
    let breaks : p.breaks ≡ q.breaks = ap (λ (u : Part). u.breaks) e in
    let at : ℕ = p.state.p % 2 ^ 9 in
    held_alike (is_fetch p.state.place) p.pass q.pass (has_any p.breaks) (get_or p.breaks at false)
    (none_any p.breaks at)
    (ap (λ (u : Part). u.pass) e ∙ ap (λ l. q.pass && has_any l) (sym breaks))
    ∙ ap₂ (λ (s : State) l. is_fetch s.place && (not q.pass && get_or l (s.p % 2 ^ 9) false))
    (ap (λ (u : Part). u.state) e) breaks

-- a try of such parts asks for the same thing
asks_alike : (p q : Part) (side : Side) → unnumbered p ≡ unnumbered q
    → need_of p.state ≡ need_of q.state → asks p side ≡ asks q side
unfolding asks
asks_alike p q side e n = ap (λ held. asks_if held p side) (holds_alike p q e) ∙ by (is_held q)
  where
    by : (held : Bool) → asks_if held p side ≡ asks_if held q side
    by true = ap held_by n
    by false = ap₂ (λ m (u : Part). asks_by m u.state.node u.stream side) n e

-- a pass that ends counts as before
ends : (pass stays any : Bool) → (pass && stays) && any ≡ (pass && any) && stays
ends false stays any = refl
ends true true true = refl
ends true true false = refl
ends true false true = refl
ends true false false = refl

-- a part without its numbers after a step
abbrev after_step : Option ℕ → Part → Part
after_step word part = record (unnumbered part) {
  state = uncounted (step part.state word);
  pass = (part.pass && has_any part.breaks) && not (is_fetch part.state.place);
}

passed : (word : Option ℕ) (part : Part) → unnumbered (stepped word part) ≡ after_step word part
passed word part = ap (λ pass. record (unnumbered part) {
  state = uncounted (step part.state word);
  pass = pass;
}) (ends part.pass (not (is_fetch part.state.place)) (has_any part.breaks))

-- a step leaves such parts equal but for numbers
stepped_alike : (word : Option ℕ) (p q : Part) → unnumbered p ≡ unnumbered q
    → unnumbered (stepped word p) ≡ unnumbered (stepped word q)
stepped_alike word p q e =
    passed word p
    ∙ ap₂ (λ (s : State) (u : Part). record u
    { state = s; pass = u.pass && not (is_fetch u.state.place) })
    (step_same p.state q.state word (ap (λ (u : Part). u.state) e)) e
    ∙ sym (passed word q)

-- two results have the same outcome, and parts that are equal but for numbers
abbrev ResultsAlike : Outcome × Part → Outcome × Part → Type 0
ResultsAlike one two = (one.0 ≡ two.0) × (unnumbered one.1 ≡ unnumbered two.1)

-- tries of such parts have such results
after_alike : (q : Asks) (found : Option ℕ) (one two : Part) → unnumbered one ≡ unnumbered two
    → ResultsAlike (after_asked q found one) (after_asked q found two)
after_alike (Nothing outcome) found one two e = (refl, e)
after_alike Own found one two e = (refl, stepped_alike None one two e)
after_alike (Feed word) found one two e = (
  refl,
  stepped_alike (Some word) (record one { stream = rest_of one.stream })
      (record two { stream = rest_of two.stream })
      (ap (λ (u : Part). record u { stream = rest_of u.stream }) e),
)
after_alike (Post side cell word) found one two e = (
  refl,
  stepped_alike None (record one { written = counted side one.written })
      (record two { written = counted side two.written }) e,
)
after_alike (Check side cell) None one two e = (refl, stepped_alike None one two e)
after_alike (Check side cell) (Some word) one two e = (refl, e)
after_alike (Take side cell) (Some word) one two e = (
  refl,
  stepped_alike (Some word) (record one { read = counted side one.read })
      (record two { read = counted side two.read }) e,
)
after_alike (Take side cell) None one two e = (refl, e)

-- what move the try is
pub its_move : (chip : Chip) (name : ℕ) (side : Side) (o : Option Part) → part_of chip name ≡ o
    → move_in chip (Try name side) ≡ move_at o chip name side
unfolding move_in
its_move chip name side o there = ap (λ p. move_at p chip name side) there

-- a node of two chips that are alike
abbrev Same : Chip → Chip → ℕ → Type 0
Same one two name =
    (option_map unnumbered (part_of one name) ≡ option_map unnumbered (part_of two name))
    ⊎ (IsSpinning one name × IsSpinning two name)

-- An event is the same move at both chips, and it leaves them alike.
record Both (one two : Chip) (event : Event) : Type 0 where
  moves : move_in one event ≡ move_in two event
  alike : IsAlike (happened one event) (happened two event)

module _ (one two : Chip) (name : ℕ) (side : Side) (legal : IsLegal one) (legal' : IsLegal two)
    (counts : IsCounting one) (counts' : IsCounting two) (alike : IsAlike one two) where
  -- the first chip behind the try
  abbrev next : Chip
  next = happened one (Try name side)

  -- the second chip behind it
  abbrev next' : Chip
  next' = happened two (Try name side)

  -- a try that leaves its node alike leaves the chips alike
  alike_next : (p q p' q' : Part) (asked : Asks) → Leaves one name side p p' asked
      → Leaves two name side q q' asked → Same next next' name → IsAlike next next'
  alike_next p q p' q' asked l l' here = record {
    cells = ap (λ (c : Chip). c.cells) l.leads ∙ ap (cells_after asked) alike.cells
        ∙ sym (ap (λ (c : Chip). c.cells) l'.leads);
    nodes = λ other. by other (cases_eq name other) (alike.nodes other);
  }
    where
      by : (other : ℕ) → (name ≡ other) ⊎ (name ≡ other → ⊥) → Same one two other
          → Same next next' other
      by other (inl same) old = subst (Same next next') same here
      by other (inr apart) (inl e) =
          inl (ap (option_map unnumbered) (part_else one name side p p' asked l legal other apart)
          ∙ e ∙ sym (ap (option_map unnumbered)
          (part_else two name side q q' asked l' legal' other apart)))
      by other (inr apart) (inr (s, t)) =
          inr (
            spins_else one next other (part_else one name side p p' asked l legal other apart) s,
            spins_else two next' other (part_else two name side q q' asked l' legal' other apart) t,
          )

  -- a try of a node that spins at both chips does so
  both_spin : IsSpinning one name → IsSpinning two name → Both one two (Try name side)
  both_spin s t =
      let a = own_tried one name side s
      (below_counted s.part.state.steps (counts name s.part s.there)) in
      let b = own_tried two name side t
      (below_counted t.part.state.steps (counts' name t.part t.there)) in
      record {
        moves = a.made ∙ sym b.made;
        alike = alike_next s.part t.part (stepped None s.part) (stepped None t.part) Own a.leaves
            b.leaves (inr (spins_here one name side s a, spins_here two name side t b));
      }

  -- a try of a node with parts that are equal but for numbers does so
  both_parts : (p q : Part) → part_of one name ≡ Some p → part_of two name ≡ Some q
      → unnumbered p ≡ unnumbered q → Both one two (Try name side)
  unfolding after
  both_parts p q there there' e =
      let n : need_of p.state ≡ need_of q.state =
      need_alike p q e (counts name p there) (counts' name q there') in
      let asked : asks p side ≡ asks q side = asks_alike p q side e n in
      let results : ResultsAlike (after_asked (asks p side) (found_by (asks p side) one.cells) p)
      (after_asked (asks p side) (found_by (asks p side) one.cells) q) =
      after_alike (asks p side) (found_by (asks p side) one.cells) p q e in
      let there_too : after_asked (asks p side) (found_by (asks p side) one.cells) q
      ≡ after q side (found_by (asks q side) two.cells) =
      ap₂ (λ a cells. after_asked a (found_by a cells) q) asked alike.cells in
      let p' : Part = (after p side (found_by (asks p side) one.cells)).1 in
      let q' : Part = (after q side (found_by (asks q side) two.cells)).1 in
      let equal : unnumbered p' ≡ unnumbered q' = results.1 ∙ ap (λ r. unnumbered r.1) there_too in
      let l : Leaves one name side p p' (asks p side) = tried_leaves one name side p there in
      let l' : Leaves two name side q q' (asks p side) =
      subst (Leaves two name side q q') (sym asked) (tried_leaves two name side q there') in
      record {
        moves = its_move one name side (Some p) there
            ∙ ap₂ (λ o n. if_moved o
            (record {
              node = name;
              asked = asks p side;
              found =
                  found_by (asks p side) one.cells;
              picked = picked_by n side;
            }))
            (results.0 ∙ ap (λ r. r.0) there_too) n
            ∙ ap₂ (λ a cells. if_moved (after q side (found_by (asks q side) two.cells)).0
            (record {
              node = name;
              asked = a;
              found = found_by a cells;
              picked =
                  picked_by (need_of q.state) side;
            })) asked alike.cells
            ∙ sym (its_move two name side (Some q) there');
        alike = alike_next p q p' q' (asks p side) l l'
            (inl (ap (option_map unnumbered) (part_here one name side p p' (asks p side) l)
            ∙ ap Some equal
            ∙ sym (ap (option_map unnumbered) (part_here two name side q q' (asks p side) l'))));
      }

  -- so does each try
  try_alike : Both one two (Try name side)
  try_alike = by (alike.nodes name)
    where
      parts : (o o' : Option Part) → part_of one name ≡ o → part_of two name ≡ o'
          → option_map unnumbered o ≡ option_map unnumbered o' → Both one two (Try name side)
      parts None None e e' same = record {
        moves = its_move one name side None e ∙ sym (its_move two name side None e');
        alike = subst (λ c. IsAlike c next') (sym (no_node one name side e))
            (subst (IsAlike one) (sym (no_node two name side e')) alike);
      }
      parts (Some p) (Some q) e e' same =
          both_parts p q e e' (same_Some (unnumbered p) (unnumbered q) same)
      parts None (Some q) e e' same = cc
      parts (Some p) None e e' same = cc

      by : Same one two name → Both one two (Try name side)
      by (inl e) = parts (part_of one name) (part_of two name) refl refl e
      by (inr (s, t)) = both_spin s t

-- an event is a try
abbrev pub IsTry : Event → Type 0
IsTry (Try name side) = Unit {0}
IsTry _ = ⊥

-- all events are tries
abbrev pub AreTries : List Event → Type 0
AreTries [] = Unit {0}
AreTries (event ∷ events) = IsTry event × AreTries events

-- the events of a prefix of tries are tries
pub tries_front : (events more : List Event) → AreTries (events ++ more) → AreTries events
tries_front [] more tries = tt
tries_front (event ∷ events) more tries = (tries.0, tries_front events more tries.1)

-- tries and more tries are tries
pub tries_join : (events more : List Event) → AreTries events → AreTries more
    → AreTries (events ++ more)
tries_join [] more tries tries' = tries'
tries_join (event ∷ events) more tries tries' = (tries.0, tries_join events more tries.1 tries')

-- if no node has made as many steps as are counted, none had before
pub counting_before : (chip : Chip) (events : List Event) → IsLegal chip
    → IsCounting (ran chip events) → IsCounting chip
counting_before chip events legal counts name part there =
    let s = stand_ran chip events name part legal there in
    let below : s.now.state.steps < 2 ^ 64 - 1 = counts name s.now s.there in
    let grown = s.steps in
    omega arith

-- A run makes equal moves at both chips, and it leaves them alike.
pub record RunAlike (one two : Chip) (events : List Event) : Type 0 where
  pub moves : moves one events ≡ moves two events
  pub alike : IsAlike (ran one events) (ran two events)

-- Each run of tries does so.
pub run_alike : (one two : Chip) (events : List Event) → AreTries events → IsLegal one → IsLegal two
    → IsCounting (ran one events) → IsCounting (ran two events) → IsAlike one two
    → RunAlike one two events
run_alike one two [] tries legal legal' counts counts' alike =
    record { moves = refl; alike = alike }
run_alike one two (Try name side ∷ events) tries legal legal' counts counts' alike =
    let first = try_alike one two name side legal legal'
    (counting_before one (Try name side ∷ events) legal counts)
    (counting_before two (Try name side ∷ events) legal' counts') alike in
    let later = run_alike (happened one (Try name side)) (happened two (Try name side)) events
    tries.1 (legal_kept one (Try name side) legal) (legal_kept two (Try name side) legal')
    counts counts' first.alike in
    record { moves = ap₂ (λ a b. a ++ b) first.moves later.moves; alike = later.alike }
run_alike one two (SetBreak name at ∷ events) tries legal legal' counts counts' alike =
    absurd tries.0
run_alike one two (ClearBreak name at ∷ events) tries legal legal' counts counts' alike =
    absurd tries.0
run_alike one two (PassBreak name ∷ events) tries legal legal' counts counts' alike = absurd tries.0
run_alike one two (Piece name words ∷ events) tries legal legal' counts counts' alike =
    absurd tries.0
