use Rattle.std.proofs.Common.{◌≡◌, map}
use Rattle.std.specs.List.{range_with_len}
use Rattle.ga_profile.specs.NodePass.{most_of, pass_of, passes_at}
use Rattle.ga_profile.proofs.node_pass.node_passes.Given as goal

-- those of as many nodes
abbrev pub invariant-loop-index : goal.invariant-loop-index
invariant-loop-index l =
    l.passes.items
    ≡ map (λ index. pass_of (most_of (passes_at l.fn.window l.chip index) 256))
    (range_with_len 0 l.index)
