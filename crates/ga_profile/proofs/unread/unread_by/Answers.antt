use Rattle.std.proofs.Common.{◌≡◌, ◌∙◌, ℕ, List, ◌++◌, ap, arith, sym}
use Rattle.std.specs.List.{flat_map, range_with_len}
use Rattle.ga_place.specs.Cell.{name_at}
use Rattle.ga_dump.proofs.Lines.{next_line}
use Rattle.ga_profile.specs.Unread.{if_unread, unread_nodes}
use Rattle.ga_profile.proofs.unread.unread_by.Goals as goal

pub loop-index-preserved : goal.loop-index-preserved
loop-index-preserved c =
    let node : ℕ → List ℕ = λ index. if_unread c.args.chip.now (name_at index) in
    let index = c.loop-index.index in
    c.in_ok-push_unread_node.ensures
    ∙ ap (λ n. c.loop-index.nodes.items ++ if_unread c.args.chip.now n) c.at.ensures
    ∙ ap (λ nodes. nodes ++ node index) c.loop-index.invariant ∙ sym (next_line node index)

pub returns : goal.returns
unfolding unread_nodes
returns c =
    let node : ℕ → List ℕ = λ index. if_unread c.args.chip.now (name_at index) in
    let all : c.loop-index.index ≡ 144 = omega arith in
    c.loop-index.invariant ∙ ap (λ count. flat_map node (range_with_len 0 count)) all
