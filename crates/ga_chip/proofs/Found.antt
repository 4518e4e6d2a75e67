-- The results of a take and a check by what they find, and the cells at which tries look.
use Rattle.std.proofs.Common.{◌≡◌, ◌∙◌, ℕ, List, [], ◌∷◌, Option, Some, None, refl, sym, ap, subst}
use Rattle.std.proofs.lemmas.Option.{same_Some}
use Rattle.ga_place.specs.declared.side.Side.{Side}
use Rattle.ga_place.specs.declared.side.Side.TheVariants.{Right, Down, Left, Up}
use Rattle.ga_chip.specs.declared.outcome.Outcome.{Outcome}
use Rattle.ga_chip.specs.declared.outcome.Outcome.TheVariants.{Moved}
use Rattle.ga_chip.specs.declared.asks.Asks as told
use Rattle.ga_chip.specs.declared.asks.Asks.TheVariants as call
use Rattle.ga_node.specs.Need.{need_of}
use Rattle.ga_chip.specs.Part.{Part, Nothing, asks, after, after_asked}
use Rattle.ga_chip.specs.Asks.{asked_of, look_at, look_of, looks_by, looks_of}
use Rattle.ga_chip.proofs.Asked.{nothing_after, told_check, told_nothing, told_take}
use Rattle.ga_chip.proofs.Parts.{Fits, asks_fits, still_after}

pub take_moves : (part : Part) (side at : Side) (cell word : ℕ)
    → asked_of part side ≡ call.Take at cell → (after part side (Some word)).0 ≡ Moved
unfolding after
take_moves part side at cell word e =
    ap (λ q. (after_asked q (Some word) part).0) (told_take (asks part side) at cell e)

pub take_waits : (part : Part) (side at : Side) (cell : ℕ) → asked_of part side ≡ call.Take at cell
    → (after part side None).0 ≡ Moved → ⊥
unfolding after
take_waits part side at cell e moved =
    let waits = sym (ap (λ q. (after_asked q None part).0) (told_take (asks part side) at cell e))
    ∙ moved in absurd cc

pub check_moves : (part : Part) (side at : Side) (cell : ℕ)
    → asked_of part side ≡ call.Check at cell → (after part side None).0 ≡ Moved
unfolding after
check_moves part side at cell e =
    ap (λ q. (after_asked q None part).0) (told_check (asks part side) at cell e)

pub check_waits : (part : Part) (side at : Side) (cell word : ℕ)
    → asked_of part side ≡ call.Check at cell → (after part side (Some word)).0 ≡ Moved → ⊥
unfolding after
check_waits part side at cell word e moved =
    let waits =
    sym (ap (λ q. (after_asked q (Some word) part).0) (told_check (asks part side) at cell e))
    ∙ moved in absurd cc

-- a check makes the same of any word
pub check_same : (part : Part) (side at : Side) (cell word other : ℕ)
    → asked_of part side ≡ call.Check at cell
    → after part side (Some word) ≡ after part side (Some other)
unfolding after
check_same part side at cell word other e =
    ap (λ q. after_asked q (Some word) part) (told_check (asks part side) at cell e)
    ∙ sym (ap (λ q. after_asked q (Some other) part) (told_check (asks part side) at cell e))

-- a try that looks at a cell asks to take its word
pub look_takes : (asks : told.Asks) (cell : ℕ) → look_of asks ≡ Some (Some cell)
    → (from : Side) × (asks ≡ call.Take from cell)
look_takes (call.Take side it) cell e =
    (side, ap (call.Take side) (same_Some it cell (same_Some (Some it) (Some cell) e)))
look_takes (call.Nothing outcome) cell e = cc
look_takes call.Own cell e = cc
look_takes (call.Post side it word) cell e = cc
look_takes (call.Check side it) cell e = cc

-- and one that looks at none asks for nothing
pub look_nothing : (asks : told.Asks) → look_of asks ≡ Some None
    → (outcome : Outcome) × (asks ≡ call.Nothing outcome)
look_nothing (call.Nothing outcome) e = (outcome, refl)
look_nothing (call.Take side it) e = cc
look_nothing call.Own e = cc
look_nothing (call.Post side it word) e = cc
look_nothing (call.Check side it) e = cc

-- the looks of four tries, one by one
pub looks_apart : (right down left up : Option (Option ℕ)) (looks : List (Option ℕ))
    → looks_by right down left up ≡ Some looks
    → (right ≡ Some (look_at looks Right)) × (down ≡ Some (look_at looks Down))
    × (left ≡ Some (look_at looks Left)) × (up ≡ Some (look_at looks Up))
looks_apart (Some right) (Some down) (Some left) (Some up) looks e =
    let is : right ∷ down ∷ left ∷ up ∷ [] ≡ looks =
    same_Some (right ∷ down ∷ left ∷ up ∷ []) looks e in (
      ap (λ l. Some (look_at l Right)) is,
      ap (λ l. Some (look_at l Down)) is,
      ap (λ l. Some (look_at l Left)) is,
      ap (λ l. Some (look_at l Up)) is,
    )
looks_apart (Some right) (Some down) (Some left) None looks e = cc
looks_apart (Some right) (Some down) None up looks e = cc
looks_apart (Some right) None left up looks e = cc
looks_apart None down left up looks e = cc

pub look_there : (part : Part) (looks : List (Option ℕ)) (side : Side) → looks_of part ≡ Some looks
    → look_of (asked_of part side) ≡ Some (look_at looks side)
unfolding looks_of
look_there part looks side e =
    by side (looks_apart (look_of (asked_of part Right)) (look_of (asked_of part Down))
    (look_of (asked_of part Left)) (look_of (asked_of part Up)) looks e)
  where
    by : (side : Side) → (look_of (asked_of part Right) ≡ Some (look_at looks Right))
        × (look_of (asked_of part Down) ≡ Some (look_at looks Down))
        × (look_of (asked_of part Left) ≡ Some (look_at looks Left))
        × (look_of (asked_of part Up) ≡ Some (look_at looks Up))
        → look_of (asked_of part side) ≡ Some (look_at looks side)
    by Right (right, down, left, up) = right
    by Down (right, down, left, up) = down
    by Left (right, down, left, up) = left
    by Up (right, down, left, up) = up

-- a try that finds nothing at its cell leaves the node as it was
pub looked_still : (part : Part) (side : Side) (look : Option ℕ)
    → look_of (asked_of part side) ≡ Some look → (after part side None).1 ≡ part
looked_still part side (Some cell) e =
    let takes = look_takes (asked_of part side) cell e in
    still_after part side None (take_waits part side takes.0 cell takes.1)
looked_still part side None e =
    let nothing = look_nothing (asked_of part side) e in
    ap (λ r. r.1) (nothing_after part side nothing.0 None nothing.1)

-- and is no move
pub looked_waits : (part : Part) (side : Side) (look : Option ℕ)
    → look_of (asked_of part side) ≡ Some look → (after part side None).0 ≡ Moved → ⊥
looked_waits part side (Some cell) e moved =
    let takes = look_takes (asked_of part side) cell e in
    take_waits part side takes.0 cell takes.1 moved
looked_waits part side None e moved =
    let nothing = look_nothing (asked_of part side) e in
    let fits : Fits (Nothing nothing.0) (need_of part.state) part.state.node =
    subst (λ q. Fits q (need_of part.state) part.state.node)
    (told_nothing (asks part side) nothing.0 nothing.1) (asks_fits part side) in
    fits (ap (λ r. r.0) (sym (nothing_after part side nothing.0 None nothing.1)) ∙ moved)
