use Rattle.std.proofs.Common.{◌≡◌, ◌∙◌, ◌++◌, ap, arith, string_bytes, sym}
use Rattle.std.specs.List.{flat_map, range_with_len}
use Rattle.ga_chip.specs.Chip.{state_of}
use Rattle.ga_dump.specs.Chip.{chip_dump, node_at, whole_node}
use Rattle.ga_dump.proofs.Lines.{next_line}
use Rattle.ga_dump.proofs.chip.chip_text.Goals as goal

pub loop-index-preserved : goal.loop-index-preserved
loop-index-preserved c =
    let chip = c.args.chip.now in
    let index = c.loop-index.index in
    c.in_ok-push_node.ensures
    ∙ ap (λ name. string_bytes c.loop-index.text ++ whole_node chip name (state_of chip name))
    c.at.ensures
    ∙ ap (λ front. front ++ node_at chip index) c.loop-index.invariant
    ∙ sym (next_line (node_at chip) index)

pub returns : goal.returns
unfolding chip_dump
returns c =
    let all : c.loop-index.index ≡ 144 = omega arith in
    c.loop-index.invariant
    ∙ ap (λ count. flat_map (node_at c.args.chip.now) (range_with_len 0 count)) all
