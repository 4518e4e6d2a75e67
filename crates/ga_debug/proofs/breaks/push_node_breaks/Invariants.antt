use Rattle.std.proofs.Common.{◌≡◌, ◌++◌, string_bytes}
use Rattle.std.specs.List.{flat_map, range_with_len}
use Rattle.ga_waits.specs.Label.{images_in}
use Rattle.ga_debug.specs.Breaks.{break_at}
use Rattle.ga_debug.proofs.breaks.push_node_breaks.Given as goal

abbrev pub invariant-loop-address : goal.invariant-loop-address
invariant-loop-address l =
    string_bytes l.text ≡ string_bytes l.initial.text
    ++ flat_map (break_at (images_in l.images) l.chip l.node) (range_with_len 0 l.address)
