use Rattle.std.proofs.Common.{◌≡◌, ◌∙◌, ℕ, ◌*◌, ◌<◌, List, arith, get_or, length, subst, sym}
use Rattle.std.specs.Prelude.{reverse}
use Rattle.std.proofs.lemmas.List.{get_or_default}
use Rattle.ga_observe.specs.Seen.{steps_seen, turns_numbered}
use Rattle.ga_profile.specs.declared.node_turns.NodeTurns.{NodeTurns}
use Rattle.ga_profile.specs.declared.trail.Trail.{Trail}
use Rattle.ga_profile.specs.Kinds.{kind_of}
use Rattle.ga_profile.specs.Path.{last_node, path_in, path_to}
use Rattle.ga_profile.specs.inner.Trails.{IsTrailOf, NO_TRAIL}
use Rattle.ga_profile.proofs.Trailing.{trail_turns}
use Rattle.ga_profile.proofs.path.kind_turns.Goals as goal

pub returns-clause-turns : goal.returns-clause-turns
returns-clause-turns c =
    let trails = c.in_ok-trails.trails.items in
    let node = c.last_node.result in
    let window = c.args.window in
    let steps = steps_seen c.args.chip.now (turns_numbered window.end) in
    let kinds = kind_of c.args.kinds in
    let trail = c.index.result.now in
    let below : node * 9 < 1296 = omega (arith, c.last_node.ensures.bound) in
    let within : node * 9 < length trails =
    subst (λ n. node * 9 < n) (sym c.in_ok-trails.ensures.all) below in
    let found : trail ≡ get_or trails (node * 9) NO_TRAIL =
    c.index.ensures ∙ get_or_default trails (node * 9) _ NO_TRAIL within in
    let last : node ≡ last_node c.args.nodes.now 144 = c.last_node.ensures.value in
    let is : IsTrailOf kinds (path_in window c.args.chip.now) trail =
    subst (λ (nodes : List NodeTurns). IsTrailOf kinds
    (path_to window.first (last_node nodes 144 * 9) (reverse steps)) trail) c.requires.nodes
    (subst (λ (n : ℕ). IsTrailOf kinds (path_to window.first (n * 9) (reverse steps)) trail) last
    (subst (λ (t : Trail). IsTrailOf kinds (path_to window.first (node * 9) (reverse steps)) t)
    (sym found) (c.in_ok-trails.ensures.kept.each (node * 9) below))) in
    c.in_ok-turns.ensures.turns
    ∙ trail_turns kinds (path_in window c.args.chip.now) trail c.args.count c.requires.count is
