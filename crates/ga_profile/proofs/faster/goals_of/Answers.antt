use Rattle.std.proofs.Common.{◌≡◌, ◌∙◌, ℕ, ◌<◌, [], ◌∷◌, ◌++◌, ap, ap₂, arith, get_or, length, map, sym}
use Rattle.std.specs.List.{range_with_len}
use Rattle.std.proofs.lemmas.List.{get_or_default}
use Rattle.ga_place.specs.Cell.{name_at}
use Rattle.ga_profile.specs.Faster.{goal_of, goals_of}
use Rattle.ga_profile.specs.NodeTurns.{NO_TURNS}
use Rattle.ga_profile.proofs.Writing.{item_more}
use Rattle.ga_profile.proofs.faster.goals_of.Goals as goal

pub loop-index-preserved : goal.loop-index-preserved
loop-index-preserved c =
    let nodes = c.args.nodes.now in
    let index = c.loop-index.index in
    let goals : ℕ → ℕ = λ i. goal_of c.args.chip.now (name_at i) (get_or nodes i NO_TURNS) in
    let within : index < length nodes = omega (arith, c.requires, c.loop-index-test.true) in
    c.in_ok-push.ensures.items
    ∙ ap (λ all. all ++ c.goal_of.result ∷ []) c.loop-index.invariant
    ∙ ap (λ one. map goals (range_with_len 0 index) ++ one ∷ [])
    (c.goal_of.ensures
    ∙ ap₂ (goal_of c.args.chip.now) c.at.ensures (get_or_default nodes index _ NO_TURNS within))
    ∙ sym (item_more goals index)

pub returns-clause-goals : goal.returns-clause-goals
unfolding goals_of
returns-clause-goals c =
    let nodes = c.args.nodes.now in
    let goals : ℕ → ℕ = λ i. goal_of c.args.chip.now (name_at i) (get_or nodes i NO_TURNS) in
    let all : c.loop-index.index ≡ 144 = omega arith in
    c.loop-index.invariant ∙ ap (λ count. map goals (range_with_len 0 count)) all
