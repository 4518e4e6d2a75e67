use Rattle.std.proofs.Common.{◌≡◌, ◌∙◌, true, rules}
use Rattle.std.specs.List.{list_any}
use Rattle.ga_pack.specs.Model.Text.{lines_of}
use Rattle.ga_include.specs.IncludeLine.{is_include}
use Rattle.ga_include.proofs.Tokens.{by_tokens}
use Rattle.ga_include.proofs.line.has_includes.Goals as goal

pub returns-then-is_include-clause-tokens : goal.returns-then-is_include-clause-tokens
returns-then-is_include-clause-tokens c =
    let found : true ≡ list_any is_include (lines_of c.args.text.now) = search rules in
    found ∙ by_tokens c.args.text.now

pub returns-clause-tokens : goal.returns-clause-tokens
returns-clause-tokens c =
    let found : c.is_include-2.result ≡ list_any is_include (lines_of c.args.text.now) =
    search rules in
    found ∙ by_tokens c.args.text.now
