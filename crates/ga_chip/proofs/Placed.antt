-- A node that has made no step may be given another state: the chip stays legal, as nothing was
-- written.
use Rattle.std.proofs.Common.{◌≡◌, ℕ, ◌+◌, ◌≤◌, ◌<◌, ◌⊎◌, inl, inr, List, length, length-set, Bool, true, false, set, get_or, Some, refl, sym, ap, ap₂, ◌∙◌, subst, arith}
use Rattle.std.specs.Option.{option_to_list}
use Rattle.std.proofs.lemmas.Option.{same_Some, slice_get_within}
use Rattle.std.specs.Prelude.{◌==◌, is_some, None, if◌then◌else◌}
use Rattle.std.specs.Option.{option_and_then}
use Rattle.std.proofs.lemmas.Bool.{cases_eq, eqb-true}
use Rattle.ga_place.specs.declared.side.Side.{Side}
use Rattle.ga_place.proofs.SideLemmas.{neighbour_of-IsNodeName}
use Rattle.ga_place.specs.Cell.{index_of, cell_of}
use Rattle.ga_place.specs.Node.{is_edge}
use Rattle.ga_chip.specs.Part.{Part, count_at}
use Rattle.ga_chip.specs.Chip.{Chip, given, part_of, part_refusal, pending, placed, refusal, stream_refusal, streamed, streaming, unless_refused, with_changed, with_part}
use Rattle.ga_chip.specs.declared.error.ChipError.{ChipError}
use Rattle.ga_chip.specs.declared.error.ChipError.TheVariants.{AlreadyGiven, Begun, NotEdge}
use Rattle.ga_chip.specs.Legal.{IsLegal, StandsAtCheck}
use Rattle.ga_chip.proofs.Lists.{get-set_here, get-set_else, set-get}
use Rattle.ga_place.proofs.Cells.{one_place, neighbour_there}
use Rattle.ga_chip.proofs.Kept.{has_name}
use Rattle.ga_chip.proofs.Numbers.{part_there}
use Rattle.ga_chip.proofs.Tries.{part_at}

-- a part of the changed chip: the new one, or an old one of another node
placed_from : (chip : Chip) (name : ℕ) (part next : Part) → IsLegal chip
    → part_of chip name ≡ Some part → (other : ℕ) (p : Part)
    → part_of (with_part chip name next) other ≡ Some p
    → ((name ≡ other) × (p ≡ next)) ⊎ ((name ≡ other → ⊥) × (part_of chip other ≡ Some p))
placed_from chip name part next legal there other p e = by (cases_eq name other)
  where
    by : (name ≡ other) ⊎ (name ≡ other → ⊥)
        → ((name ≡ other) × (p ≡ next)) ⊎ ((name ≡ other → ⊥) × (part_of chip other ≡ Some p))
    by (inl same) =
        inl (
          same,
          same_Some p next (sym e ∙ ap (λ n. part_of (with_part chip name next) n) (sym same)
              ∙ get-set_here chip.parts (index_of name) next part there),
        )
    by (inr apart) =
        inr (
          apart,
          sym (get-set_else chip.parts (index_of name) (index_of other) next
              (λ f. apart (one_place name other (subst (λ n. index_of name < n) legal.parts
              (slice_get_within chip.parts (index_of name) part there)) f))) ∙ e,
        )

-- nothing of a node without steps is pending
none_pending : (chip : Chip) (name cell word : ℕ) (side : Side) (part : Part) → IsLegal chip
    → part_of chip name ≡ Some part → part.state.steps ≡ 0 → cell_of name side ≡ Some cell
    → pending chip cell ≡ Some word → ⊥
none_pending chip name cell word side part legal there unstepped here is =
    let next = neighbour_there name cell side here in
    let other = part_there chip next.0 legal
    (neighbour_of-IsNodeName name next.0 side (has_name chip name part legal there) next.1) in
    too_many (count_at side part.written) (count_at side other.0.read) part.state.steps
    (legal.balanced name next.0 cell side part other.0 here next.1 there other.1
    ∙ ap (λ o. count_at side other.0.read + length (option_to_list o)) is)
    (legal.within_steps name side part there) unstepped
  where
    too_many : (w r n : ℕ) → w ≡ r + 1 → w ≤ n → n ≡ 0 → ⊥
    too_many w r n e h z = omega arith

pub legal_placed : (chip : Chip) (name : ℕ) (part next : Part) → IsLegal chip
    → part_of chip name ≡ Some part → part.state.steps ≡ 0 → next.state.node ≡ name
    → next.written ≡ part.written → next.read ≡ part.read → IsLegal (with_part chip name next)
legal_placed chip name part next legal there unstepped named written read = record {
  parts = length-set chip.parts (index_of name) next ∙ legal.parts;
  cells = legal.cells;
  named = λ n p e. named_by n p (placed_from chip name part next legal there n p e);
  balanced = λ n other cell side w r here beside e f.
      let a = as_before n w (placed_from chip name part next legal there n w e) in
      let b = as_before other r (placed_from chip name part next legal there other r f) in
      ap (count_at side) (sym a.2) ∙ legal.balanced n other cell side a.0 b.0 here beside a.1 b.1
      ∙ ap (λ c. count_at side c + length (option_to_list (pending chip cell))) b.3;
  checked = λ n cell word side w here e is. checked_by n cell word side w here is
      (placed_from chip name part next legal there n w e);
  within_steps =
      λ n side w e. steps_by n side w (placed_from chip name part next legal there n w e);
}
  where
    named_by : (n : ℕ) (p : Part) → ((name ≡ n) × (p ≡ next))
        ⊎ ((name ≡ n → ⊥) × (part_of chip n ≡ Some p)) → p.state.node ≡ n
    named_by n p (inl (same, is)) = ap (λ x. x.state.node) is ∙ named ∙ same
    named_by n p (inr (apart, old)) = legal.named n p old

    as_before : (n : ℕ) (p : Part)
        → ((name ≡ n) × (p ≡ next)) ⊎ ((name ≡ n → ⊥) × (part_of chip n ≡ Some p))
        → (q : Part) × (part_of chip n ≡ Some q) × (q.written ≡ p.written) × (q.read ≡ p.read)
    as_before n p (inl (same, is)) = (
      part,
      ap (part_of chip) (sym same) ∙ there,
      sym written ∙ ap (λ x. x.written) (sym is),
      sym read ∙ ap (λ x. x.read) (sym is),
    )
    as_before n p (inr (apart, old)) = (p, old, refl, refl)

    checked_by : (n cell word : ℕ) (side : Side) (w : Part) → cell_of n side ≡ Some cell
        → pending chip cell ≡ Some word → ((name ≡ n) × (w ≡ next))
        ⊎ ((name ≡ n → ⊥) × (part_of chip n ≡ Some w)) → StandsAtCheck w.state side
    checked_by n cell word side w here is (inl (same, e)) =
        absurd (none_pending chip name cell word side part legal there unstepped
        (ap (λ m. cell_of m side) same ∙ here) is)
    checked_by n cell word side w here is (inr (apart, old)) =
        legal.checked n cell word side w here old is

    none_yet : (k m n : ℕ) → k ≤ m → m ≡ 0 → k ≤ n
    none_yet k m n h z = omega arith

    steps_by : (n : ℕ) (side : Side) (w : Part) → ((name ≡ n) × (w ≡ next))
        ⊎ ((name ≡ n → ⊥) × (part_of chip n ≡ Some w)) → count_at side w.written ≤ w.state.steps
    steps_by n side w (inl (same, e)) =
        none_yet (count_at side w.written) part.state.steps w.state.steps
        (subst (λ c. count_at side c ≤ part.state.steps) (sym written ∙ ap (λ x. x.written) (sym e))
        (legal.within_steps name side part there)) unstepped
    steps_by n side w (inr (apart, old)) = legal.within_steps n side w old

-- what a change of a node's part makes of the chip
pub changed_there : (change : Part → Part) (chip : Chip) (name : ℕ) (part : Part)
    → part_of chip name ≡ Some part
    → with_changed change (part_of chip name) chip name ≡ with_part chip name (change part)
changed_there change chip name part there = ap (λ o. with_changed change o chip name) there

-- why a node is refused
refusal_there : (chip : Chip) (name : ℕ) (part : Part) → part_of chip name ≡ Some part
    → refusal chip name ≡ part_refusal part
refusal_there chip name part there = ap (option_and_then part_refusal) there

-- what the code leaves if it refuses
pub refused_at : (chip changed : Chip) (name index : ℕ) (part : Part) (fault : ChipError)
    → IsLegal chip → index ≡ index_of name → index < 144 → part ≡ get_or chip.parts index part
    → part_refusal part ≡ Some fault → (refusal chip name ≡ Some fault) × (record chip
    { parts = set chip.parts index part } ≡ unless_refused (refusal chip name) changed chip)
refused_at chip changed name index part fault legal is below read refused =
    let there = part_at chip name index part legal.parts is below read in
    let yes : refusal chip name ≡ Some fault = refusal_there chip name part there ∙ refused in (
      yes,
      ap (λ ps. record chip { parts = ps })
          (ap (λ i. set chip.parts i part) is ∙ set-get chip.parts (index_of name) part there)
          ∙ sym (ap (λ r. unless_refused r changed chip) yes),
    )

-- a node that isn't refused has made no step
pub unstepped : (part : Part) → part_refusal part ≡ None → part.state.steps ≡ 0
unstepped part free = by (is_some part.stream) (part.state.steps == 0) refl free
  where
    by : (given begun : Bool) → (part.state.steps == 0) ≡ begun
        → (if given then Some AlreadyGiven else if begun then None else Some Begun) ≡ None
        → part.state.steps ≡ 0
    by true begun e free = absurd cc
    by false true e free = eqb-true _ _ e
    by false false e free = absurd cc

-- what the code leaves if it changes the part of a node that has made no step, and counts no word
pub given_at : (change : Part → Part) (chip : Chip) (name index : ℕ) (part next : Part)
    → IsLegal chip → index ≡ index_of name → index < 144 → part ≡ get_or chip.parts index part
    → part_refusal part ≡ None → next ≡ change part → (change part).state.node ≡ part.state.node
    → (change part).written ≡ part.written → (change part).read ≡ part.read
    → (refusal chip name ≡ None) × (record chip { parts = set chip.parts index next }
    ≡ unless_refused (refusal chip name) (with_changed change (part_of chip name) chip name) chip)
    × IsLegal (record chip { parts = set chip.parts index next })
given_at change chip name index part next legal is below read free gives node written read_same =
    let there = part_at chip name index part legal.parts is below read in
    let no : refusal chip name ≡ None = refusal_there chip name part there ∙ free in
    let put : record chip { parts = set chip.parts index next } ≡ with_part chip name
    (change part) = ap₂ (λ i p. record chip { parts = set chip.parts i p }) is gives in
    let legal_then = legal_placed chip name part (change part) legal there (unstepped part free)
    (node ∙ legal.named name part there) written read_same in (
      no,
      put ∙ sym (changed_there change chip name part there) ∙ sym
          (ap (λ r. unless_refused r (with_changed change (part_of chip name) chip name) chip) no),
      subst IsLegal (sym put) legal_then,
    )

-- what both calls make of the chip
pub placed_is : (chip : Chip) (name entry : ℕ) (words : List ℕ)
    → placed chip name words entry ≡ with_changed (given words entry) (part_of chip name) chip name
unfolding placed
placed_is chip name entry words = refl

pub streamed_is : (chip : Chip) (name : ℕ) (words : List ℕ)
    → streamed chip name words ≡ with_changed (streaming words) (part_of chip name) chip name
unfolding streamed
streamed_is chip name words = refl

-- a node at an edge is refused a stream as it is refused words
stream_refusal_of : (chip view : Chip) (name : ℕ) → chip ≡ view → is_edge name ≡ true
    → stream_refusal view name ≡ refusal chip name
stream_refusal_of chip view name same edge =
    ap (λ c. stream_refusal c name) (sym same)
    ∙ ap (λ b. if b then refusal chip name else Some NotEdge) edge

-- what the code leaves if it refuses a stream, and if it begins one
pub stream_refused_at : (chip view changed : Chip) (name index : ℕ) (part : Part)
    (fault : ChipError) → chip ≡ view → is_edge name ≡ true → IsLegal chip → index ≡ index_of name
    → index < 144 → part ≡ get_or chip.parts index part → part_refusal part ≡ Some fault
    → (stream_refusal view name ≡ Some fault) × (record chip { parts = set chip.parts index part }
    ≡ unless_refused (stream_refusal view name) changed view)
stream_refused_at chip view changed name index part fault same edge legal is below read refused =
    let left = refused_at chip changed name index part fault legal is below read refused in
    let yes = stream_refusal_of chip view name same edge ∙ left.0 in (
      yes,
      left.1 ∙ ap (λ r. unless_refused r changed chip) left.0 ∙ same
          ∙ sym (ap (λ r. unless_refused r changed view) yes),
    )

pub stream_begun_at : (change : Part → Part) (chip view : Chip) (name index : ℕ) (part next : Part)
    → chip ≡ view → is_edge name ≡ true → IsLegal chip → index ≡ index_of name → index < 144
    → part ≡ get_or chip.parts index part → part_refusal part ≡ None → next ≡ change part
    → (change part).state.node ≡ part.state.node → (change part).written ≡ part.written
    → (change part).read ≡ part.read → (stream_refusal view name ≡ None)
    × (record chip { parts = set chip.parts index next } ≡ unless_refused (stream_refusal view name)
    (with_changed change (part_of view name) view name) view)
stream_begun_at change chip view name index part next same edge legal is below read free gives node
    written read_same =
    let left = given_at change chip name index part next legal is below read free gives node written
    read_same in
    let begun = λ (c : Chip). with_changed change (part_of c name) c name in
    let no = stream_refusal_of chip view name same edge ∙ left.0 in (
      no,
      left.1 ∙ ap (λ r. unless_refused r (begun chip) chip) left.0 ∙ ap begun same
          ∙ sym (ap (λ r. unless_refused r (begun view) view) no),
    )
