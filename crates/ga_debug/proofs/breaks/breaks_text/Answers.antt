use Rattle.std.proofs.Common.{◌∙◌, ◌++◌, ap, string_bytes, sym}
use Rattle.ga_place.specs.Cell.{name_at}
use Rattle.ga_dump.proofs.Lines.{next_line}
use Rattle.ga_waits.specs.Label.{images_in}
use Rattle.ga_debug.specs.Breaks.{node_breaks}
use Rattle.ga_debug.proofs.breaks.breaks_text.Goals as goal

pub loop-index-preserved : goal.loop-index-preserved
loop-index-preserved c =
    let breaks = node_breaks (images_in c.args.images) c.args.chip.now in
    let index = c.loop-index.index in
    c.in_ok-push_node_breaks.ensures
    ∙ ap (λ name. string_bytes c.loop-index.text ++ breaks name) c.at.ensures
    ∙ ap (λ text. text ++ breaks (name_at index)) c.loop-index.invariant
    ∙ sym (next_line (λ index. breaks (name_at index)) index)
