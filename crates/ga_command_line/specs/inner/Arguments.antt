-- Arguments, as clap's definitions read them.
use Rattle.std.specs.Prelude.{ℕ, List, Option, Some, None}
use Rattle.std.specs.Borrow.{Bor}
use Rattle.clap.specs.Words.{Rule, new_rule}
use Rattle.clap.specs.declared.builder.action.ArgAction.TheVariants.{Append, SetTrue}
use Rattle.clap.specs.declared.builder.value_parser.ValueParser.TheVariants.{Unsigned}
use Rattle.ga_command_line.specs.declared.argument.Argument.{Argument}
use Rattle.ga_command_line.specs.declared.argument.Takes.{Takes}
use Rattle.ga_command_line.specs.declared.argument.Takes.TheVariants as takes

-- a text that has no name behind `--`
abbrev pub plain_rule : Argument → Rule
plain_rule argument = record (new_rule argument.id.now) { required = argument.required }

abbrev pub with_long : Rule → Option (Bor (List ℕ)) → Rule
with_long rule None = rule
with_long rule (Some name) = record rule { long = Some name.now }

abbrev pub with_value : Rule → Takes → Rule
with_value rule takes.Nothing = record rule { action = Some SetTrue }
with_value rule takes.Text = rule
with_value rule takes.Texts = record rule { action = Some Append }
with_value rule (takes.Number least most) = record rule { parser = Some (Unsigned least most) }

-- how clap reads an argument
abbrev pub rule_for : Argument → Rule
rule_for argument = with_value (with_long (plain_rule argument) argument.long) argument.takes
