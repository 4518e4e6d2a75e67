use Rattle.std.proofs.Common.{rules, tests}
use Rattle.std.specs.Prelude.{◌==◌}
use Rattle.std.proofs.lemmas.Iterator.Search.{any_from_yields_List}
use Rattle.std.proofs.lemmas.Iterator.Splits.{YieldsList-from_slice_split}
use Rattle.ga_place.specs.Node.{node_named}
use Rattle.ga_faults.specs.Sections.{is_node}
use Rattle.ga_faults.proofs.naming.has_name.Goals as goal

pub returns : goal.returns
returns c =
    any_from_yields_List (λ name. is_node c.args.node (node_named name)) _ _ _ c.any.ensures.ran
    (YieldsList-from_slice_split _ (λ b. b == 44) c.args.text.now c.split.ensures.rest
    c.split.ensures.done c.split.ensures.closure (λ x r q k. search (rules, tests)))
    (λ x b q k. search (rules, tests))
