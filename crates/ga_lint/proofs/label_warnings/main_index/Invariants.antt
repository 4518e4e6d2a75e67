use Rattle.std.proofs.Common.{◌≡◌, drop, map}
use Rattle.std.specs.List.{position_from}
use Rattle.ga_lint.specs.LabelWarnings.{is_main}
use Rattle.ga_source.specs.Item.{item_of}
use Rattle.ga_lint.proofs.label_warnings.main_index.Given as goal

-- no item so far is it
abbrev pub invariant-loop-index : goal.invariant-loop-index
invariant-loop-index l =
    position_from is_main l.index (map item_of (drop l.index l.items))
    ≡ position_from is_main 0 (map item_of l.items)
