use Rattle.std.proofs.Common.{◌≡◌, ◌∙◌, ◌+◌, ◌<◌, ℕ, suc, List, ◌∷◌, ap, arith, drop, fold, get_or, length, map, refl, sym}
use Rattle.std.proofs.Math.Seq.{drop-cons}
use Rattle.clap.specs.Words.{App, app_of, with_rule}
use Rattle.ga_command_line.specs.declared.argument.Argument.{Argument}
use Rattle.ga_command_line.specs.inner.Arguments.{rule_for}
use Rattle.ga_command_line.proofs.argument.command_with.Goals as goal

-- the next one is added
next_added : (before : App) (arguments : List Argument) (index : ℕ) (other : Argument)
    → index < length arguments
    → fold with_rule (with_rule before (rule_for (get_or arguments index other)))
    (map rule_for (drop (index + 1) arguments))
    ≡ fold with_rule before (map rule_for (drop index arguments))
next_added before arguments index other below =
    let more : suc index ≡ index + 1 = omega arith in
    sym (ap (λ left. fold with_rule before (map rule_for left))
    (drop-cons arguments index other below
    ∙ ap (λ (n : ℕ). get_or arguments index other ∷ drop n arguments) more))

pub loop-argument-preserved : goal.loop-argument-preserved
loop-argument-preserved c =
    let index = c.loop-argument.argument-index in
    let before = app_of c.loop-argument.command in
    let arguments = c.args.arguments.now in
    let made = c.in_ok-command.ensures before (refl, c.loop-argument.invariant.1) in (
      ap (λ (app : App). fold with_rule app (map rule_for (drop (index + 1) arguments))) made.0
          ∙ next_added before arguments index _ c.loop-argument-test.true
          ∙ c.loop-argument.invariant.0,
      made.1,
    )
