use Rattle.std.proofs.Common.{◌≡◌, ◌∙◌, ◌+◌, ℕ, Bool, true, ap, arith, subst, sym}
use Rattle.std.proofs.lemmas.Option.{same_Some}
use Rattle.ga_node.specs.Running.{RunsOwn, own_run}
use Rattle.ga_node.specs.Spins.{IsAhead}
use Rattle.ga_node.specs.State.{State}
use Rattle.ga_chip.specs.Run.{has_break}
use Rattle.ga_trace.specs.declared.spin_watch.Known.{Known}
use Rattle.ga_trace.specs.Spinning.{Knows}
use Rattle.ga_trace.proofs.Spinning.{LooksAt, knows_new, looks_spins, looks_works}
use Rattle.ga_trace.proofs.spin_watch.Known.new.Goals as goal
use Rattle.ga_trace.proofs.spin_watch.Known.new.Goals.{in-Spins, in-Works}

-- what is known of a node in a state
abbrev IsKnown : (ℕ → Bool) → Known → State → Type 0
IsKnown is_break known state =
    Knows is_break known state × (known.steps ≡ state.steps) × IsAhead state known.ahead

known_new : (is_break : ℕ → Bool) (known : Known) (its state : State) → its ≡ state
    → known.steps ≡ its.steps → IsAhead its known.ahead
    → LooksAt is_break its known.ahead known.is_unbroken → IsKnown is_break known state
known_new is_break known its state same steps is_ahead looks =
    subst (IsKnown is_break known) same
    (knows_new is_break known its steps is_ahead looks, steps, is_ahead)

pub returns : goal.returns
returns c state there =
    let is_break = has_break c.args.chip.now c.args.node in
    let its = c.state-state.result.now in
    let known : Known = record {
      steps = c.steps.result;
      ahead = c.match-ahead.ahead;
      is_unbroken = c.match-ahead.is_unbroken;
    } in
    let same : its ≡ state = same_Some its state (c.state-state.ensures ∙ there) in
    elim c.match-ahead.branch [
      | in-Spins w ↦
          let copy = w.uncounted-spinning.ensures in
          let is_ahead = subst (IsAhead its) (w.in-Spins.is ∙ sym w.ahead-is)
          c.look_ahead-ahead.ensures in
          known_new is_break known its state same c.steps.ensures is_ahead
          (looks_spins is_break its w.run_own-made.new.self c.match-ahead.ahead w.in-Spins.after
          w.run_own-made.result c.match-ahead.is_unbroken w.ahead-is is_ahead (omega arith)
          w.run_own-made.ensures.most
          (λ early runs. w.run_own-made.ensures.stops early
          (subst (RunsOwn true (w.run_own-made.result + 1)) (sym copy) runs))
          (w.run_own-made.ensures.state ∙ ap (own_run w.run_own-made.result) copy)
          (w.is_unbroken-is ∙ w.spins_with-is_unbroken.ensures))
      | in-Works w ↦
          known_new is_break known its state same c.steps.ensures
          (subst (IsAhead its) (sym w.ahead-is) c.look_ahead-ahead.ensures)
          (looks_works is_break its c.match-ahead.ahead w.in-Works.states c.match-ahead.is_unbroken
          (w.ahead-is ∙ w.in-Works.is))
    ]
