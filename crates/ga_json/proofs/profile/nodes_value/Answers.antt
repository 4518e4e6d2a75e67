use Rattle.std.proofs.Common.{◌≡◌, ◌∙◌, ◌++◌, ap, arith, sym}
use Rattle.std.specs.List.{flat_map, range_with_len}
use Rattle.serde_json.proofs.Views.{view-Array}
use Rattle.serde_json.specs.Data.{array}
use Rattle.serde_json.specs.View.{items_of}
use Rattle.ga_dump.proofs.Lines.{next_line}
use Rattle.ga_json.specs.Profile.{node_at, nodes_data}
use Rattle.ga_json.proofs.profile.nodes_value.Goals as goal

pub loop-index-preserved : goal.loop-index-preserved
loop-index-preserved c =
    let node = node_at c.args.profile.now in
    let index = c.loop-index.index in
    c.in_ok-push_node.ensures ∙ ap (λ nodes. nodes ++ node index) c.loop-index.invariant
    ∙ sym (next_line node index)

pub returns : goal.returns
unfolding nodes_data
returns c =
    let node = node_at c.args.profile.now in
    let all : c.loop-index.index ≡ 144 = omega arith in
    view-Array c.loop-index.nodes
    ∙ ap (λ nodes. array (items_of nodes))
    (c.loop-index.invariant ∙ ap (λ count. flat_map node (range_with_len 0 count)) all)
