-- Commands that the code makes, as clap reads them.
use Rattle.std.specs.Prelude.{◌≡◌, Bool, false}
use Rattle.clap.specs.Words.{App, app_of}
use Rattle.clap.specs.declared.builder.command.Command.{Command}
use Rattle.clap.specs.declared.builder.command.Command.TheViews.{out-Command}

-- an argument of the command is one of its subcommands' too
abbrev pub has_globals : Command → Bool
has_globals command = (out-Command command).has_globals

-- a command of clap's that is read as this one, with no argument for its subcommands
abbrev pub IsCommandOf : App → Command → Type 0
IsCommandOf app command = (app_of command ≡ app) × (has_globals command ≡ false)
