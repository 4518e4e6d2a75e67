-- The whole command, opened in one place: a proof with `unfolding whole_command` computes with it.
use Rattle.clap.specs.Words.{App}
use Rattle.ga_command_line.specs.Command.{linked}
use Rattle.ga_command_line.specs.CommandLine.{bare_command, bench_command}

unfoldable pub whole_command : App
unfolding bench_command bare_command linked
whole_command = bench_command
