use Rattle.std.proofs.Common.{◌≡◌, ◌∙◌, ◌*◌, ◌<◌, ◌≤◌, suc, ℕ, List, ap, arith, length, map, subst, sym}
use Rattle.std.specs.Prelude.{reverse}
use Rattle.std.specs.List.{range_with_len}
use Rattle.std.proofs.lemmas.List.{get_or_default}
use Rattle.ga_observe.specs.Seen.{steps_seen, turns_numbered}
use Rattle.ga_profile.specs.declared.node_turns.NodeTurns.{NodeTurns}
use Rattle.ga_profile.specs.Path.{last_node, path_in, path_to}
use Rattle.ga_profile.specs.Profile.{watched}
use Rattle.ga_report.specs.declared.trail.Trail.{Trail}
use Rattle.ga_report.specs.Holder.{held, holders_in, last_in}
use Rattle.ga_report.specs.inner.Trails.{IsTrailOf, NO_TRAIL}
use Rattle.ga_report.proofs.Following.{few_columns, held_all}
use Rattle.ga_report.proofs.Lasting.{last_node_same}
use Rattle.ga_report.proofs.holders.holders_in.Goals as goal

pub held_nodes-requires : goal.held_nodes-requires
held_nodes-requires c =
    subst (λ n. n ≤ 600) (sym c.columns_of.ensures) (few_columns c.args.part)

pub returns-clause-holders : goal.returns-clause-holders
unfolding holders_in
returns-clause-holders c =
    let chip = c.args.chip.now in
    let whole = c.args.whole in
    let part = c.args.part in
    let trails = c.in_ok-trails.trails.items in
    let trail = c.index.result.now in
    let node = c.last_node-latest.result in
    let columns = c.columns_of.result in
    let steps = reverse (steps_seen chip (turns_numbered whole.end)) in
    let below : node * 9 < 1296 = omega (arith, c.last_node-latest.ensures.bound) in
    let within : node * 9 < length trails =
    subst (λ n. node * 9 < n) (sym c.in_ok-trails.ensures.all) below in
    let found = c.index.ensures ∙ get_or_default trails (node * 9) _ NO_TRAIL within in
    let last : node ≡ last_node (watched whole.first whole.end chip) 144 =
    c.last_node-latest.ensures.value
    ∙ ap (λ (nodes : List NodeTurns). last_node nodes 144)
    (c.as_slice.ensures.value ∙ c.in_ok-nodes_at.ensures.nodes)
    ∙ last_node_same whole.first whole.end chip in
    let is : IsTrailOf part (path_in whole chip) trail =
    subst (λ (n : ℕ). IsTrailOf part (path_to whole.first (n * 9) steps) trail) last
    (subst (λ (t : Trail). IsTrailOf part (path_to whole.first (node * 9) steps) t) (sym found)
    ((c.in_ok-trails.ensures.kept whole.first).each (node * 9) below)) in
    let few : columns ≤ 600 =
    subst (λ n. n ≤ 600) (sym c.columns_of.ensures) (few_columns part) in
    c.in_ok-holders.ensures.nodes ∙ held_all part (path_in whole chip) trail columns few is
    ∙ ap (λ count. map (λ column. held (λ at. last_in part at (path_in whole chip)) (suc column))
    (range_with_len 0 count)) c.columns_of.ensures
