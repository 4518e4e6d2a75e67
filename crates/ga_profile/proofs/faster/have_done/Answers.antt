use Rattle.std.proofs.Common.{◌≡◌, ◌∙◌, ℕ, Bool, ap, arith, get_or, sym}
use Rattle.ga_place.specs.Cell.{name_at}
use Rattle.ga_profile.specs.Faster.{has_done, have_done}
use Rattle.ga_profile.proofs.Shortening.{all_pass, one_fails, one_passes}
use Rattle.ga_profile.proofs.faster.have_done.Goals as goal

pub returns-then-not-has_done : goal.returns-then-not-has_done
unfolding have_done
returns-then-not-has_done c =
    let chip = c.args.chip.now in
    let goals = c.args.goals.now in
    let index = c.loop-index.index in
    let passes : ℕ → Bool = λ i. has_done (get_or goals i 0) chip (name_at i) in
    sym (one_fails passes index c.loop-index-test.true (sym (c.if-not-has_done.ensures
    ∙ ap (has_done (get_or goals index 0) chip) c.at.ensures)))

pub loop-index-preserved : goal.loop-index-preserved
loop-index-preserved c =
    let chip = c.args.chip.now in
    let goals = c.args.goals.now in
    let index = c.loop-index.index in
    let passes : ℕ → Bool = λ i. has_done (get_or goals i 0) chip (name_at i) in
    one_passes passes index c.loop-index-test.true c.loop-index.invariant
    (sym (c.if-not-has_done.ensures
    ∙ ap (has_done (get_or goals index 0) chip) c.at.ensures))

pub returns : goal.returns
unfolding have_done
returns c =
    let goals = c.args.goals.now in
    let reached : c.loop-index.index ≡ 144 = omega arith in
    sym (all_pass (λ i. has_done (get_or goals i 0) c.args.chip.now (name_at i))
    c.loop-index.index reached c.loop-index.invariant)
