use Rattle.std.proofs.Common.{◌≡◌, ◌∙◌, ℕ, ◌<◌, [], ◌∷◌, ◌++◌, ap, arith, get_or, length, map, sym}
use Rattle.std.specs.List.{range_with_len}
use Rattle.ga_place.specs.Cell.{name_at}
use Rattle.ga_chip.specs.Chip.{state_of}
use Rattle.ga_profile.specs.declared.node_turns.NodeTurns.{NodeTurns}
use Rattle.ga_profile.specs.NodeTurns.{NO_TURNS}
use Rattle.ga_profile.specs.Profile.{ended, with_end}
use Rattle.ga_profile.proofs.Writing.{end_read, item_more}
use Rattle.ga_profile.proofs.profile.ended.Goals as goal

pub loop-index-preserved : goal.loop-index-preserved
loop-index-preserved c =
    let nodes = c.args.nodes.now in
    let index = c.loop-index.index in
    let turns : ℕ → NodeTurns = λ i. with_end c.args.window (get_or nodes i NO_TURNS)
    (state_of c.args.chip.now (name_at i)) in
    let within : index < length nodes = omega (arith, c.requires, c.loop-index-test.true) in
    c.in_ok-push.ensures.items
    ∙ ap (λ all. all ++ c.node_ended.result ∷ []) c.loop-index.invariant
    ∙ ap (λ one. map turns (range_with_len 0 index) ++ one ∷ [])
    (end_read c.args.window nodes index c.at.result _ c.args.chip.now _ within c.at.ensures
    c.node_ended.ensures)
    ∙ sym (item_more turns index)

pub returns-clause-nodes : goal.returns-clause-nodes
unfolding ended
returns-clause-nodes c =
    let turns : ℕ → NodeTurns = λ i. with_end c.args.window (get_or c.args.nodes.now i NO_TURNS)
    (state_of c.args.chip.now (name_at i)) in
    let all : c.loop-index.index ≡ 144 = omega arith in
    c.loop-index.invariant ∙ ap (λ count. map turns (range_with_len 0 count)) all
