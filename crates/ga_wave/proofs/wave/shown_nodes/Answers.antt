use Rattle.std.proofs.Common.{◌≡◌, ◌∙◌, ℕ, List, ◌++◌, ap, arith, sym}
use Rattle.ga_place.specs.Cell.{name_at}
use Rattle.ga_dump.proofs.Lines.{next_line}
use Rattle.ga_wave.specs.Wave.{if_shown, shown_names}
use Rattle.ga_wave.specs.inner.Traced.{names_below}
use Rattle.ga_wave.proofs.wave.shown_nodes.Goals as goal

pub loop-index-preserved : goal.loop-index-preserved
loop-index-preserved c =
    let nodes = c.args.nodes.now in
    let index = c.loop-index.index in
    let name : ℕ → List ℕ = λ at. if_shown nodes (name_at at) in
    let few = c.loop-index.invariant.1 in
    let bound = c.in_ok-push_shown.ensures.bound in (
      c.in_ok-push_shown.ensures.value
          ∙ ap (λ n. c.loop-index.shown.items ++ if_shown nodes n) c.at.ensures
          ∙ ap (λ shown. shown ++ name index) c.loop-index.invariant.0
          ∙ sym (next_line name index),
      omega arith,
    )

pub returns-clause-names : goal.returns-clause-names
unfolding shown_names
returns-clause-names c =
    let all : c.loop-index.index ≡ 144 = omega arith in
    c.loop-index.invariant.0 ∙ ap (names_below c.args.nodes.now) all
