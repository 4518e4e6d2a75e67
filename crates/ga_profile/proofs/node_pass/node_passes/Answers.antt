use Rattle.std.proofs.Common.{◌≡◌, ◌∙◌, ℕ, [], ◌∷◌, ◌++◌, ap, arith, map, sym}
use Rattle.std.specs.Prelude.{Option, length}
use Rattle.std.specs.List.{range_with_len}
use Rattle.std.proofs.lemmas.List.FromFn.{length-map-range_with_len}
use Rattle.ga_observe.specs.Seen.{steps_seen, turns_numbered}
use Rattle.ga_profile.specs.declared.node_pass.NodePass.{NodePass}
use Rattle.ga_profile.specs.NodePass.{most_of, node_passes, pass_of, passes_at}
use Rattle.ga_profile.specs.inner.PlaceRead.{place_read}
use Rattle.ga_profile.proofs.Passing.{most_kept}
use Rattle.ga_profile.proofs.Writing.{item_more}
use Rattle.ga_profile.proofs.node_pass.node_passes.Goals as goal

pub loop-index-preserved : goal.loop-index-preserved
loop-index-preserved c =
    let window = c.args.window in
    let chip = c.args.chip.now in
    let index = c.loop-index.index in
    let pass : ℕ → Option NodePass = λ i. pass_of (most_of (passes_at window chip i) 256) in
    c.in_ok-push.ensures.items
    ∙ ap (λ all. all ++ c.pass_of.result ∷ []) c.loop-index.invariant
    ∙ ap (λ one. map pass (range_with_len 0 index) ++ one ∷ [])
    (c.pass_of.ensures
    ∙ ap pass_of (c.most_passed.ensures
    ∙ ap (λ places. most_of (place_read places index) 256) c.as_slice.ensures.value
    ∙ most_kept window.first index c.in_ok-places.places.items
    (steps_seen chip (turns_numbered window.end)) c.loop-index-test.true
    c.in_ok-places.ensures.kept))
    ∙ sym (item_more pass index)

pub returns-clause-passes : goal.returns-clause-passes
unfolding node_passes
returns-clause-passes c =
    let pass : ℕ → Option NodePass =
    λ i. pass_of (most_of (passes_at c.args.window c.args.chip.now i) 256) in
    let all : c.loop-index.index ≡ 144 = omega arith in
    c.loop-index.invariant ∙ ap (λ count. map pass (range_with_len 0 count)) all

pub returns-clause-all : goal.returns-clause-all
returns-clause-all c =
    let pass : ℕ → Option NodePass =
    λ i. pass_of (most_of (passes_at c.args.window c.args.chip.now i) 256) in
    let all : c.loop-index.index ≡ 144 = omega arith in
    ap (λ passes. length passes) c.loop-index.invariant
    ∙ length-map-range_with_len pass 0 c.loop-index.index ∙ all
