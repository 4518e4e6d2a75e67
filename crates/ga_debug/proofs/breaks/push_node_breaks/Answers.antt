use Rattle.std.proofs.Common.{◌∙◌, ◌++◌, ap, append_assoc, string_bytes, sym}
use Rattle.std.specs.List.{flat_map, range_with_len}
use Rattle.ga_dump.proofs.Lines.{next_line}
use Rattle.ga_waits.specs.Label.{images_in}
use Rattle.ga_debug.specs.Breaks.{break_at}
use Rattle.ga_debug.proofs.breaks.push_node_breaks.Goals as goal

pub loop-address-preserved : goal.loop-address-preserved
loop-address-preserved c =
    let line = break_at (images_in c.args.images) c.args.chip.now c.args.node in
    let address = c.loop-address.address in
    let old = string_bytes c.args.text.now in
    c.in_ok-push_break_at.ensures ∙ ap (λ text. text ++ line address) c.loop-address.invariant
    ∙ append_assoc old (flat_map line (range_with_len 0 address)) (line address)
    ∙ ap (λ text. old ++ text) (sym (next_line line address))
