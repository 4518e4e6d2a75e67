-- Tries that all name one side: their multiport reads name only this side.
use Rattle.std.proofs.Common.{◌≡◌, ◌∙◌, ℕ, ◌+◌, ◌-◌, ◌==◌, ◌<◌, ◌≤◌, ◌⊎◌, inl, inr, All, Bool, true, false, List, [], ◌∷◌, ◌++◌, flat_map, replicate, Option, Some, None, refl, sym, ap, ap₂, subst, arith}
use Rattle.std.specs.Prelude.{if◌then◌else◌}
use Rattle.std.proofs.lemmas.Bool.{cases_lt}
use Rattle.std.proofs.lemmas.List.{append-nil, replicate-append-replicate}
use Rattle.std.proofs.lemmas.List.Concat.{flat_map-append}
use Rattle.std.proofs.lemmas.List.Elements.{All-tail, filter-append}
use Rattle.ga_place.specs.Side.{one_side}
use Rattle.ga_place.specs.declared.side.Side.{Side}
use Rattle.ga_node.specs.Need.{need_of}
use Rattle.ga_node.specs.declared.need.Need.{Need}
use Rattle.ga_node.specs.declared.need.Need.TheVariants as need
use Rattle.ga_chip.specs.declared.outcome.Try as asked
use Rattle.ga_chip.specs.declared.outcome.Outcome.{Outcome}
use Rattle.ga_chip.specs.declared.outcome.Outcome.TheVariants.{Moved, Waits, Held, Stopped}
use Rattle.ga_chip.specs.Part.{Part, after, asks, picked_by, picked_of}
use Rattle.ga_chip.specs.Chip.{Chip, found_by, part_of}
use Rattle.ga_chip.specs.Laws.{AgreesWith, IsPrefix}
use Rattle.ga_chip.specs.Run.{Event, Move, Try, happened, if_moved, move_at, move_in, moves, moves_of, sides_of, tries_of}

-- one side, any number of times, and no other
abbrev pub IsOnly : Side → List Side → Type 0
IsOnly side sides = (n : ℕ) × (sides ≡ replicate n side)

both : (side : Side) (xs ys : List Side) → IsOnly side xs → IsOnly side ys → IsOnly side (xs ++ ys)
both side xs ys (m, e) (n, f) =
    (m + n, ap₂ (λ a b. a ++ b) e f ∙ replicate-append-replicate m n side)

begins : (side : Side) (m n : ℕ) (xs ys : List Side) → xs ≡ replicate m side → ys ≡ replicate n side
    → m ≤ n → IsPrefix xs ys
begins side m n xs ys e f few =
    let more : n ≡ m + (n - m) = omega arith in (
      replicate (n - m) side,
      f ∙ ap (λ k. replicate k side) more ∙ sym (replicate-append-replicate m (n - m) side)
          ∙ ap (λ l. l ++ replicate (n - m) side) (sym e),
    )

-- of two such lists one begins the other
pub only_agree : (side : Side) (xs ys : List Side) → IsOnly side xs → IsOnly side ys
    → AgreesWith xs ys
only_agree side xs ys (m, e) (n, f) = by (cases_lt m n)
  where
    by : (m < n) ⊎ (n ≤ m) → AgreesWith xs ys
    by (inl less) = let few : m ≤ n = omega arith in inl (begins side m n xs ys e f few)
    by (inr more) = inr (begins side n m ys xs f e more)

-- ---- the sides of moves

abbrev picked : ℕ → List Move → List Side
picked name all = flat_map (λ move. move.picked) (moves_of name all)

by_side : (only : Option Side) (side : Side) → IsOnly side (picked_of only side)
by_side None side = (1, refl)
by_side (Some only) side = (0, refl)

by_need : (n : Need) (side : Side) → IsOnly side (picked_by n side)
by_need (need.Take sides) side = by_side (one_side sides) side
by_need need.Own side = (0, refl)
by_need (need.Post to word) side = (0, refl)
by_need (need.Check to) side = (0, refl)
by_need need.Input side = (0, refl)
by_need (need.Stopped stop) side = (0, refl)

one_move : (name : ℕ) (side : Side) (move : Move) → IsOnly side move.picked
    → IsOnly side (picked name (move ∷ []))
one_move name side move only = by (move.node == name)
  where
    by : (b : Bool) → IsOnly side (flat_map (λ m. m.picked) (if b then move ∷ [] else []))
    by true = (only.0, append-nil move.picked ∙ only.1)
    by false = (0, refl)

if_move : (name : ℕ) (side : Side) (outcome : Outcome) (move : Move) → IsOnly side move.picked
    → IsOnly side (picked name (if_moved outcome move))
if_move name side Moved move only = one_move name side move only
if_move name side Waits move only = (0, refl)
if_move name side Held move only = (0, refl)
if_move name side Stopped move only = (0, refl)

try_at : (o : Option Part) (chip : Chip) (node name : ℕ) (side : Side)
    → IsOnly side (picked name (move_at o chip node side))
try_at None chip node name side = (0, refl)
try_at (Some part) chip node name side =
    if_move name side (after part side (found_by (asks part side) chip.cells)).0 _
    (by_need (need_of part.state) side)

one_try : (chip : Chip) (node name : ℕ) (side : Side)
    → IsOnly side (picked name (move_in chip (Try node side)))
unfolding move_in
one_try chip node name side = try_at (part_of chip node) chip node name side

-- all tries name this side
pub sides_named : (chip : Chip) (tries : List asked.Try) (name : ℕ) (side : Side)
    → All (λ one. one.side ≡ side) tries → IsOnly side (sides_of chip (tries_of tries) name)
sides_named chip [] name side all = (0, refl)
sides_named chip (one ∷ tries) name side all =
    let event : Event = Try one.node one.side in
    let here : one.side ≡ side = all 0 one (omega arith) in
    let first : IsOnly side (picked name (move_in chip event)) = subst
    (λ s. IsOnly s (picked name (move_in chip event))) here (one_try chip one.node name one.side) in
    let rest : IsOnly side (sides_of (happened chip event) (tries_of tries) name) = sides_named
    (happened chip event) tries name side (All-tail (λ one. one.side ≡ side) one tries all) in
    subst (IsOnly side)
    (sym (ap (flat_map (λ move. move.picked)) (filter-append (λ move. move.node == name)
    (move_in chip event) (moves (happened chip event) (tries_of tries)))
    ∙ flat_map-append (λ move. move.picked) (moves_of name (move_in chip event))
    (moves_of name (moves (happened chip event) (tries_of tries)))))
    (both side _ _ first rest)
