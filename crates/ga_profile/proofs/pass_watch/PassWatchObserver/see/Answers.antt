use Rattle.std.proofs.Common.{◌≡◌, ◌∙◌, ◌<◌, ap, length, rules, subst, sym}
use Rattle.ga_profile.specs.Passes.{passed}
use Rattle.ga_profile.proofs.Passing.{passes_before, passes_more, passes_nowhere}
use Rattle.ga_profile.proofs.pass_watch.PassWatchObserver.see.Goals as goal

pub returns-then-step-self : goal.returns-then-step-self
returns-then-step-self c begun steps (from, kept) = (
  from,
  passes_before begun.from c.args.self.now.places.items c.args.step steps
      (subst (λ n. c.args.step.turn < n) from c.if-step-self.true) kept,
)

pub returns-in_default : goal.returns-in_default
returns-in_default c begun steps (from, kept) = (
  from,
  passes_nowhere begun.from c.args.self.now.places.items c.args.step steps
      (sym c.place_of.ensures.place ∙ c.in_default.is) kept,
)

pub returns-in-Some : goal.returns-in-Some
returns-in-Some c begun steps (from, kept) =
    let places = c.args.self.now.places.items in
    let all : length places ≡ 36864 = search rules in (
      from,
      passes_more begun.from c.args.self.now.from c.in-Some.place places _ c.passed.result
          c.args.step steps c.in-Some.ensures.bound all from c.if-step-self.false
          (sym c.in-Some.ensures.place)
          (c.passed.ensures ∙ ap (λ old. passed old c.args.step) c.index.ensures) kept,
    )
