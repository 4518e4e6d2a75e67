use Rattle.std.proofs.Common.{◌≡◌, ℕ, Bool, true, false, List, Option, Some, None, refl, sym, ap}
use Rattle.ga_chip.specs.declared.outcome.Outcome.{Outcome}
use Rattle.ga_chip.specs.declared.outcome.Try.{Try}
use Rattle.ga_chip.specs.Part.{Part, after}
use Rattle.ga_chip.proofs.Asked.{nothing_after}
use Rattle.ga_port.specs.declared.seat.Holding.{Holding}
use Rattle.ga_port.specs.Seat.{tried_in}
use Rattle.ga_group.specs.inner.Tried.{HasTried, is_move}
use Rattle.ga_group.proofs.work.try_asked.Goals as goal

-- a check that finds nothing, and one that finds a word, whichever it is
checked : (nodes new : List (Option Holding)) (what : Try) (part next : Part) (outcome : Outcome)
    (empty : Bool) → (empty ≡ true → new ≡ tried_in nodes what None)
    → ((word : ℕ) → empty ≡ false → new ≡ tried_in nodes what (Some word))
    → (empty ≡ true → ◌≡◌ {A = Outcome × Part} (outcome, next) (after part what.side None))
    → ((word : ℕ) → empty ≡ false
    → ◌≡◌ {A = Outcome × Part} (outcome, next) (after part what.side (Some word)))
    → HasTried what nodes new part next (is_move outcome)
checked nodes new what part next outcome true read unread made waits =
    (None, read refl, ap (λ r. r.1) (made refl), ap (λ r. is_move r.0) (made refl))
checked nodes new what part next outcome false read unread made waits =
    (Some 0, unread 0 refl, ap (λ r. r.1) (waits 0 refl), ap (λ r. is_move r.0) (waits 0 refl))

pub returns-in-Check-clause-tried : goal.returns-in-Check-clause-tried
returns-in-Check-clause-tried c =
    let asked = sym c.in-Check.ensures.value in
    checked c.args.seat.now.nodes c.check-read.new.seat.nodes c.args.what c.args.part.now
    c.done_check.new.self c.done_check.result c.check-read.result
    (λ e. cc (c.check-read.ensures.read e))
    (λ word e. cc (c.check-read.ensures.unread word e))
    (λ e. c.done_check.ensures.read c.args.what.side c.in-Check.cell asked e)
    (λ word e. c.done_check.ensures.unread c.args.what.side c.in-Check.cell word asked e)

pub returns-in-Nothing-clause-tried : goal.returns-in-Nothing-clause-tried
returns-in-Nothing-clause-tried c =
    let after = nothing_after c.args.part.now c.args.what.side c.in-Nothing.outcome None
    (sym c.in-Nothing.ensures.value) in (
      None,
      cc (c.own-in-Nothing.ensures.nodes),
      sym (ap (λ r. r.1) after),
      sym (ap (λ r. is_move r.0) after),
    )
