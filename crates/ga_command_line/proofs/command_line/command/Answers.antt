use Rattle.std.proofs.Common.{◌≡◌, ◌∙◌, ◌+◌, ◌<◌, ℕ, suc, List, ◌∷◌, ap, arith, drop, fold, get_or, map, refl, sym}
use Rattle.std.proofs.Math.Seq.{drop-cons}
use Rattle.clap.specs.Words.{App, app_of}
use Rattle.ga_command_line.specs.declared.Subcommand.{Subcommand}
use Rattle.ga_command_line.specs.declared.Subcommand.TheVariants.{One}
use Rattle.ga_command_line.specs.Command.{linked}
use Rattle.ga_command_line.specs.CommandLine.{bench_command, command_of, subcommands}
use Rattle.ga_command_line.proofs.command_line.command.Goals as goal

-- a command with these subcommands too
abbrev with_all : App → List Subcommand → App
with_all app left = fold linked app (map command_of left)

pub loop-subcommand-init : goal.loop-subcommand-init
unfolding bench_command
loop-subcommand-init c = (
  ap (λ (app : App). with_all app subcommands) c.in_ok-command.ensures.0,
  c.in_ok-command.ensures.1,
)

-- the next one is linked
next_linked : (before : App) (index : ℕ) → index < 18
    → with_all (linked before (command_of (get_or subcommands index One)))
    (drop (index + 1) subcommands) ≡ with_all before (drop index subcommands)
next_linked before index below =
    let more : suc index ≡ index + 1 = omega arith in
    sym (ap (with_all before) (drop-cons subcommands index One below
    ∙ ap (λ (n : ℕ). get_or subcommands index One ∷ drop n subcommands) more))

pub loop-subcommand-preserved : goal.loop-subcommand-preserved
loop-subcommand-preserved c =
    let index = c.loop-subcommand.subcommand-index in
    let before = app_of c.loop-subcommand.command in (
      ap (λ (app : App). with_all app (drop (index + 1) subcommands))
          (c.in_ok-command-2.ensures.linked
          ∙ ap (linked before) (c.in_ok-command_of.ensures.0 ∙ ap command_of refl))
          ∙ next_linked before index c.loop-subcommand-test.true ∙ c.loop-subcommand.invariant.0,
      c.in_ok-command-2.ensures.plain,
    )

pub returns : goal.returns
returns c =
    let last : c.loop-subcommand.subcommand-index ≡ 18 = omega arith in (
      sym (ap (λ (n : ℕ). with_all (app_of c.loop-subcommand.command) (drop n subcommands)) last)
          ∙ c.loop-subcommand.invariant.0,
      c.loop-subcommand.invariant.1,
    )
