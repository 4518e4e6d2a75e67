use Rattle.std.proofs.Common.{rules, tests}
use Rattle.std.specs.Prelude.{◌==◌}
use Rattle.std.proofs.lemmas.Iterator.Search.{all_from_yields_List}
use Rattle.std.proofs.lemmas.Iterator.Splits.{YieldsList-from_slice_split}
use Rattle.ga_expand.specs.Sides.{is_side}
use Rattle.ga_expand.proofs.sides.are_sides.Goals as goal

pub returns : goal.returns
returns c =
    all_from_yields_List is_side _ _ _ c.all.ensures.ran
    (YieldsList-from_slice_split _ (λ b. b == 124) c.args.text.now c.split.ensures.rest
    c.split.ensures.done c.split.ensures.closure (λ x r q k. search (rules, tests)))
    (λ x b q k. search (rules, tests))
