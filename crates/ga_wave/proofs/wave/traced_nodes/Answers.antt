use Rattle.std.proofs.Common.{◌∙◌, [], ◌∷◌, ◌++◌, ap, rules}
use Rattle.ga_wave.proofs.Tracing.{node_more}
use Rattle.ga_wave.proofs.wave.traced_nodes.Goals as goal

pub loop-number-preserved : goal.loop-number-preserved
loop-number-preserved c =
    let old = c.loop-number.traced.items in
    node_more c.args.chip.now c.args.nodes.now c.loop-number.number c.index-nodes-number.result old
    _ (search rules) (search rules) c.loop-number.invariant
    (c.in_ok-traced.ensures
    ∙ ap (λ traced. traced ++ c.first_traced.result ∷ []) c.deref.ensures.value
    ∙ ap (λ one. old ++ one ∷ []) c.first_traced.ensures)
