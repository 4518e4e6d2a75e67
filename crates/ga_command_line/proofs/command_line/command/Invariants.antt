use Rattle.std.proofs.Common.{◌≡◌, drop, false, fold, map}
use Rattle.clap.specs.Words.{app_of}
use Rattle.ga_command_line.specs.Command.{linked}
use Rattle.ga_command_line.specs.CommandLine.{bench_command, command_of, subcommands}
use Rattle.ga_command_line.specs.inner.Command.{has_globals}
use Rattle.ga_command_line.proofs.command_line.command.Given as goal

-- with the subcommands that are left it will be the whole command
abbrev pub invariant-loop-subcommand : goal.invariant-loop-subcommand
invariant-loop-subcommand l =
    (fold linked (app_of l.command) (map command_of (drop l.subcommand-index subcommands))
    ≡ bench_command) × (has_globals l.command ≡ false)
