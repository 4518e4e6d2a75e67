use Rattle.std.proofs.Common.{◌≡◌, drop, false, fold, map}
use Rattle.clap.specs.Words.{app_of, with_rule}
use Rattle.ga_command_line.specs.Arguments.{command_with}
use Rattle.ga_command_line.specs.inner.Arguments.{rule_for}
use Rattle.ga_command_line.specs.inner.Command.{has_globals}
use Rattle.ga_command_line.proofs.argument.command_with.Given as goal

-- with the arguments that are left it will be the whole command
abbrev pub invariant-loop-argument : goal.invariant-loop-argument
invariant-loop-argument l =
    (fold with_rule (app_of l.command) (map rule_for (drop l.argument-index l.arguments))
    ≡ command_with l.name (map rule_for l.arguments)) × (has_globals l.command ≡ false)
