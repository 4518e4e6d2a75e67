use Rattle.std.proofs.Common.{◌≡◌, ◌∙◌, ℕ, List, ◌++◌, ap, arith, sym}
use Rattle.std.specs.List.{flat_map, range_with_len}
use Rattle.ga_place.specs.Cell.{name_at}
use Rattle.ga_dump.proofs.Lines.{next_line}
use Rattle.ga_wave.specs.Nodes.{if_image}
use Rattle.ga_wave.proofs.nodes.nodes_with_image.Goals as goal

pub loop-index-preserved : goal.loop-index-preserved
loop-index-preserved c =
    let name : ℕ → List ℕ = λ index. if_image c.args.images.now (name_at index) in
    let index = c.loop-index.index in
    c.in_ok-push_if_image.ensures
    ∙ ap (λ n. c.loop-index.nodes.items ++ if_image c.args.images.now n) c.at.ensures
    ∙ ap (λ nodes. nodes ++ name index) c.loop-index.invariant ∙ sym (next_line name index)

pub returns : goal.returns
returns c =
    let name : ℕ → List ℕ = λ index. if_image c.args.images.now (name_at index) in
    let all : c.loop-index.index ≡ 144 = omega arith in
    c.loop-index.invariant ∙ ap (λ count. flat_map name (range_with_len 0 count)) all
