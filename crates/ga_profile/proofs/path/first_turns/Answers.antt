use Rattle.std.proofs.Common.{◌≡◌, ◌∙◌, ℕ, [], ◌∷◌, ◌++◌, ap, arith, get_or, length, map, sym}
use Rattle.std.specs.List.{range_with_len}
use Rattle.std.proofs.lemmas.List.FromFn.{length-map-range_with_len}
use Rattle.ga_profile.proofs.Writing.{item_more}
use Rattle.ga_profile.proofs.path.first_turns.Goals as goal

pub loop-kind-preserved : goal.loop-kind-preserved
loop-kind-preserved c =
    let kept : ℕ → ℕ = λ kind. get_or c.args.trail.now.turns kind 0 in
    let kind = c.loop-kind.kind in
    c.in_ok-push.ensures.items ∙ ap (λ all. all ++ kept kind ∷ []) c.loop-kind.invariant
    ∙ sym (item_more kept kind)

pub returns-clause-turns : goal.returns-clause-turns
returns-clause-turns c =
    let kept : ℕ → ℕ = λ kind. get_or c.args.trail.now.turns kind 0 in
    let all : c.loop-kind.kind ≡ c.args.count = omega arith in
    c.loop-kind.invariant ∙ ap (λ count. map kept (range_with_len 0 count)) all

pub returns-clause-all : goal.returns-clause-all
returns-clause-all c =
    let kept : ℕ → ℕ = λ kind. get_or c.args.trail.now.turns kind 0 in
    let all : c.loop-kind.kind ≡ c.args.count = omega arith in
    ap (λ turns. length turns) c.loop-kind.invariant
    ∙ length-map-range_with_len kept 0 c.loop-kind.kind ∙ all
