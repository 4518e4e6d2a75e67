-- Commands as clap's definitions read them.
use Rattle.clap.specs.Words.{App, with_subcommand}

-- a command with one more subcommand
unfoldable pub linked : App → App → App
linked app subcommand = with_subcommand app subcommand.top
