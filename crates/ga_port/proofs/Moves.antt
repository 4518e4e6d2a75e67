-- What a take and a check tell: whether the try that they enter is Moved, and what the seat has
-- then.
use Rattle.std.proofs.Common.{◌≡◌, ◌≢◌, ◌∙◌, ℕ, ◌-◌, Bool, Option, Some, None, List, set, refl, sym, ap}
use Rattle.std.specs.Prelude.{◌↔◌, IsSome, if◌then◌else◌}
use Rattle.std.proofs.lemmas.Bool.{ne_eqb}
use Rattle.std.proofs.lemmas.Option.{same_Some}
use Rattle.ga_place.specs.Cell.{index_of}
use Rattle.ga_chip.specs.declared.outcome.Try.{Try}
use Rattle.ga_chip.specs.Part.{after}
use Rattle.ga_chip.proofs.Found.{check_moves, check_same, check_waits, take_moves, take_waits}
use Rattle.ga_port.specs.declared.seat.Holding.{Holding}
use Rattle.ga_port.specs.Cells.{AsksToCheck, AsksToTake, IsMoved}
use Rattle.ga_port.specs.Seat.{kept, kept_after, tried_in, tried_of}
use Rattle.ga_port.specs.inner.Entering.{pending_of}

same_entry : (nodes : List (Option Holding)) (name : ℕ) (one other : Holding)
    → kept nodes name ≡ Some one → kept nodes name ≡ Some other → one ≡ other
same_entry nodes name one other e f = same_Some one other (sym e ∙ f)

pub take_moved : (nodes : List (Option Holding)) (what : Try) (cell : ℕ) (found : Option ℕ)
    → AsksToTake nodes what cell → IsSome found ↔ IsMoved nodes what found
take_moved nodes what cell (Some word) asked = (
  λ some. (asked.0, asked.2, take_moves asked.0.part what.side asked.1 cell word asked.3),
  λ moved. refl,
)
take_moved nodes what cell None asked = (
  λ none. absurd (cc),
  λ moved. absurd (take_waits asked.0.part what.side asked.1 cell asked.3
      (ap (λ (k : Holding). (after k.part what.side None).0)
      (same_entry nodes what.node asked.0 moved.0 asked.2 moved.1) ∙ moved.2)),
)

pub check_moved : (nodes : List (Option Holding)) (what : Try) (cell : ℕ)
    → AsksToCheck nodes what cell → IsMoved nodes what None
check_moved nodes what cell asked =
    (asked.0, asked.2, check_moves asked.0.part what.side asked.1 cell asked.3)

pub check_unmoved : (nodes : List (Option Holding)) (what : Try) (cell word : ℕ)
    → AsksToCheck nodes what cell → IsMoved nodes what (Some word) → ⊥
check_unmoved nodes what cell word asked moved =
    check_waits asked.0.part what.side asked.1 cell word asked.3
    (ap (λ (k : Holding). (after k.part what.side (Some word)).0)
    (same_entry nodes what.node asked.0 moved.0 asked.2 moved.1) ∙ moved.2)

-- whichever word a check finds
pub check_any : (nodes : List (Option Holding)) (what : Try) (cell word other : ℕ)
    → AsksToCheck nodes what cell
    → tried_in nodes what (Some word) ≡ tried_in nodes what (Some other)
unfolding tried_in
check_any nodes what cell word other asked =
    ap (λ o. tried_of o nodes what (Some word)) asked.2
    ∙ ap (λ (p : _). set nodes (index_of what.node)
    (Some (record { part = p.1; sides = (kept_after asked.0 what.side None).sides })))
    (check_same asked.0.part what.side asked.1 cell word other asked.3)
    ∙ sym (ap (λ o. tried_of o nodes what (Some other)) asked.2)

pub pending_full : (held : ℕ) → held ≢ 0 → pending_of held ≡ Some (held - 262144)
pending_full held ne =
    ap (λ (b : Bool). if b then None else Some (held - 262144)) (ne_eqb held 0 ne)
