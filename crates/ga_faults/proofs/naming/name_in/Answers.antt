use Rattle.std.proofs.Common.{◌≡◌, ◌∙◌, Option, Some, None, refl, sym, rules, tests}
use Rattle.std.specs.Prelude.{option_map}
use Rattle.std.proofs.lemmas.Iterator.{YieldsList-from_slice}
use Rattle.std.proofs.lemmas.Iterator.Consumers.{YieldsList-from_copied, YieldsList-from_filter, nth_from_yields_List}
use Rattle.ga_faults.specs.Sections.{has_line}
use Rattle.ga_source.specs.declared.token.Token.{Token}
use Rattle.ga_faults.proofs.naming.name_in.Goals as goal

same : (found : Option Token) → option_map (λ token. token) found ≡ found
same None = refl
same (Some token) = refl

pub returns : goal.returns
returns c =
    sym (same c.nth.result)
    ∙ nth_from_yields_List c.nth.result _ 1 c.nth.ensures.ran
    (YieldsList-from_filter _ (λ token. has_line token.line c.args.section)
    (YieldsList-from_copied (YieldsList-from_slice c.args.tokens.now cc))
    c.filter.ensures.closure (λ x b q k. search (rules, tests)))
