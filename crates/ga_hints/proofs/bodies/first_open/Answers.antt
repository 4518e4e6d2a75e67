use Rattle.std.proofs.Common.{◌∙◌, ap, map, not, rules, tests}
use Rattle.std.specs.Prelude.{codes}
use Rattle.std.specs.Slice.Iter.{split_callee, split_done, split_rest}
use Rattle.std.specs.Str.{bytes_eq}
use Rattle.std.proofs.lemmas.Iterator.Adapters.{YieldsList-from_skip}
use Rattle.std.proofs.lemmas.Iterator.Search.{position_from_yields_List}
use Rattle.std.proofs.lemmas.Iterator.Splits.{YieldsList-from_slice_split}
use Rattle.ga_hints.specs.Bodies.{has_end}
use Rattle.ga_hints.proofs.Lists.{now}
use Rattle.ga_hints.proofs.OpenBodies.{first_found}
use Rattle.ga_hints.proofs.bodies.first_open.Goals as goal

pub returns : goal.returns
returns c =
    let source = c.skip.ensures.source in
    position_from_yields_List (λ body. not (has_end (map now body))) _ _ c.position.result
    c.position.ensures.ran
    (YieldsList-from_skip 1
    (YieldsList-from_slice_split _ (λ token. bytes_eq token.now (codes "body")) c.args.tokens.now
    (ap split_rest source ∙ c.split.ensures.rest) (ap split_done source ∙ c.split.ensures.done)
    (ap split_callee source ∙ c.split.ensures.closure) (λ x b q k. search (rules, tests)))
    c.skip.ensures.count)
    (λ x b q k. search (rules, tests))
    ∙ first_found c.args.tokens.now
