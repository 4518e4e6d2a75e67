use Rattle.std.proofs.Common.{◌≡◌, ◌∙◌, ◌<◌, [], ◌∷◌, ◌++◌, ap, arith, length, map, sym}
use Rattle.std.specs.List.{range_with_len}
use Rattle.ga_profile.specs.Stacks.{all_fullness, fullness_at}
use Rattle.ga_profile.proofs.Writing.{fullness_read, item_more}
use Rattle.ga_profile.proofs.stacks.all_fullness.Goals as goal

pub loop-index-preserved : goal.loop-index-preserved
loop-index-preserved c =
    let nodes = c.args.nodes.now in
    let depths = c.args.depths.now in
    let index = c.loop-index.index in
    let within : index < length nodes = omega (arith, c.requires.nodes, c.loop-index-test.true) in
    let in_depths : index < length depths =
    omega (arith, c.requires.depths, c.loop-index-test.true) in
    c.in_ok-push.ensures.items
    ∙ ap (λ all. all ++ c.fullness_if.result ∷ []) c.loop-index.invariant
    ∙ ap (λ one. map (fullness_at nodes depths) (range_with_len 0 index) ++ one ∷ [])
    (fullness_read nodes depths index _ _ _ within in_depths c.fullness_if.ensures)
    ∙ sym (item_more (fullness_at nodes depths) index)

pub returns-clause-all : goal.returns-clause-all
unfolding all_fullness
returns-clause-all c =
    let full = fullness_at c.args.nodes.now c.args.depths.now in
    let all : c.loop-index.index ≡ 144 = omega arith in
    c.loop-index.invariant ∙ ap (λ count. map full (range_with_len 0 count)) all
