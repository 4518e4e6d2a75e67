use Rattle.std.proofs.Common.{◌≡◌, ◌∙◌, ◌<◌, [], ◌∷◌, ◌++◌, ap, arith, length, map, sym}
use Rattle.std.specs.List.{range_with_len}
use Rattle.std.proofs.lemmas.List.FromFn.{length-map-range_with_len}
use Rattle.ga_profile.proofs.Writing.{item_more}
use Rattle.ga_report.specs.Timeline.{counts_at}
use Rattle.ga_report.proofs.Reading.{counts_read}
use Rattle.ga_report.proofs.timeline.counts_between.Goals as goal

pub loop-index-preserved : goal.loop-index-preserved
loop-index-preserved c =
    let before = c.args.before.now in
    let after = c.args.after.now in
    let index = c.loop-index.index in
    let counts = counts_at before after in
    let in_before : index < length before =
    omega (arith, c.requires.before, c.loop-index-test.true) in
    let in_after : index < length after = omega (arith, c.requires.after, c.loop-index-test.true) in
    c.in_ok-push.ensures.items
    ∙ ap (λ all. all ++ c.between.result ∷ []) c.loop-index.invariant
    ∙ ap (λ one. map counts (range_with_len 0 index) ++ one ∷ [])
    (counts_read before after index _ _ c.between.result in_before in_after c.between.ensures)
    ∙ sym (item_more counts index)

pub returns-clause-counts : goal.returns-clause-counts
returns-clause-counts c =
    let all : c.loop-index.index ≡ 144 = omega arith in
    c.loop-index.invariant
    ∙ ap (λ count. map (counts_at c.args.before.now c.args.after.now) (range_with_len 0 count)) all

pub returns-clause-all : goal.returns-clause-all
returns-clause-all c =
    let all : c.loop-index.index ≡ 144 = omega arith in
    ap length c.loop-index.invariant
    ∙ length-map-range_with_len (counts_at c.args.before.now c.args.after.now) 0
    c.loop-index.index ∙ all
