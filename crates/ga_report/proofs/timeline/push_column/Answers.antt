use Rattle.std.proofs.Common.{◌≡◌, ◌∙◌, ◌<◌, [], ◌∷◌, ◌++◌, ap, append_assoc, arith, length, map, sym}
use Rattle.std.specs.List.{range_with_len}
use Rattle.ga_profile.proofs.Writing.{item_more}
use Rattle.ga_report.specs.Most.{between, most_of}
use Rattle.ga_report.specs.Timeline.{most_at}
use Rattle.ga_report.proofs.Reading.{most_read}
use Rattle.ga_report.proofs.timeline.push_column.Goals as goal

pub loop-index-preserved : goal.loop-index-preserved
loop-index-preserved c =
    let before = c.args.before.now in
    let after = c.args.after.now in
    let index = c.loop-index.index in
    let old = c.args.kinds.now.items in
    let kinds = most_at before after c.args.turns in
    let in_before : index < length before =
    omega (arith, c.requires.before, c.loop-index-test.true) in
    let in_after : index < length after = omega (arith, c.requires.after, c.loop-index-test.true) in
    c.in_ok-push.ensures.items
    ∙ ap (λ all. all ++ c.most_between.result ∷ []) c.loop-index.invariant
    ∙ ap (λ one. (old ++ map kinds (range_with_len 0 index)) ++ one ∷ [])
    (most_read before after c.args.turns index _ _ c.most_between.result in_before in_after
    (c.most_between.ensures ∙ ap (most_of (between _ _)) c.from.ensures))
    ∙ append_assoc old (map kinds (range_with_len 0 index)) (kinds index ∷ [])
    ∙ ap (λ all. old ++ all) (sym (item_more kinds index))

pub returns : goal.returns
returns c =
    let all : c.loop-index.index ≡ 144 = omega arith in
    c.loop-index.invariant
    ∙ ap (λ count. c.args.kinds.now.items
    ++ map (most_at c.args.before.now c.args.after.now c.args.turns) (range_with_len 0 count)) all
