-- The arguments of subcommands, as clap's definitions read them.
use Rattle.std.specs.Prelude.{ℕ, true, List, [], ◌∷◌, ◌++◌, codes, fold, Some}
use Rattle.clap.specs.Words.{App, Rule, Text, new_app, new_rule, with_rule}
use Rattle.clap.specs.declared.builder.action.ArgAction.TheVariants.{Append, SetTrue}
use Rattle.clap.specs.declared.builder.value_parser.ValueParser.TheVariants.{Unsigned}

-- a subcommand with a name and these arguments
abbrev pub command_with : Text → List Rule → App
command_with name rules = fold with_rule (new_app name) rules

-- ---- kinds of arguments

abbrev pub flag : Text → Text → Rule
flag id long = record (new_rule id) { long = Some long; action = Some SetTrue }

-- a text behind a name
abbrev pub option : Text → Text → Rule
option id long = record (new_rule id) { long = Some long }

-- a number behind a name, up to another one
abbrev pub number_option : Text → Text → ℕ → Rule
number_option id long most =
    record (new_rule id) { long = Some long; parser = Some (Unsigned 0 most) }

abbrev pub required_text : Text → Rule
required_text id = record (new_rule id) { required = true }

-- a number from one to another
abbrev pub required_number : Text → ℕ → ℕ → Rule
required_number id least most =
    record (new_rule id) { required = true; parser = Some (Unsigned least most) }

-- a text that may be left out
abbrev pub one_file : Rule
one_file = new_rule (codes "FILE")

-- any number of texts
abbrev pub all_files : Rule
all_files = record one_file { action = Some Append }

-- ---- arguments of several subcommands

abbrev pub any_source : Rule
any_source = flag (codes "ANY") (codes "any-source")

-- how source text is loaded
abbrev pub of_loading : List Rule
of_loading = flag (codes "PLACE") (codes "place") ∷ option (codes "ROUTE") (codes "route") ∷ []

-- and how many turns are made at most
abbrev pub of_run : List Rule
of_run = of_loading ++ number_option (codes "N") (codes "turns") 1000000 ∷ []

-- and where a profile begins
abbrev pub of_profile : List Rule
of_profile = of_run ++ option (codes "WHERE") (codes "from") ∷ []
