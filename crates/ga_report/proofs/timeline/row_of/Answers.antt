use Rattle.std.proofs.Common.{◌∙◌, ℕ, ◌+◌, ◌*◌, ◌<◌, [], ◌∷◌, ◌++◌, ap, arith, get_or, length, map, sym}
use Rattle.std.specs.List.{range_with_len}
use Rattle.std.proofs.lemmas.List.{get_or_default}
use Rattle.ga_profile.proofs.Writing.{item_more}
use Rattle.ga_report.specs.declared.kind.Kind.{Kind}
use Rattle.ga_report.specs.declared.kind.Kind.TheVariants.{Idle}
use Rattle.ga_report.proofs.timeline.row_of.Goals as goal

pub loop-column-preserved : goal.loop-column-preserved
loop-column-preserved c =
    let kinds = c.args.timeline.now.kinds.items in
    let column = c.loop-column.column in
    let shown : ℕ → Kind = λ at. get_or kinds (at * 144 + c.args.index) Idle in
    let below : column * 144 + c.args.index < length kinds =
    omega (arith, c.args.timeline.now.all, c.requires, c.loop-column-test.true) in
    c.in_ok-push.ensures.items
    ∙ ap (λ row. row ++ c.index.result.now ∷ []) c.loop-column.invariant
    ∙ ap (λ one. map shown (range_with_len 0 column) ++ one ∷ [])
    (c.index.ensures ∙ get_or_default kinds (column * 144 + c.args.index) _ Idle below)
    ∙ sym (item_more shown column)
