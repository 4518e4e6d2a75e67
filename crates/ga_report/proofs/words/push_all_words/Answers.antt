use Rattle.std.proofs.Common.{◌≡◌, ◌∙◌, ◌++◌, ap, arith, string_bytes}
use Rattle.std.specs.List.{flat_map, range_with_len}
use Rattle.ga_place.specs.Cell.{name_at}
use Rattle.ga_profile.proofs.Writing.{part_more}
use Rattle.ga_report.specs.Words.{all_words, node_words}
use Rattle.ga_report.proofs.words.push_all_words.Goals as goal

pub loop-index-preserved : goal.loop-index-preserved
loop-index-preserved c =
    let text = string_bytes c.loop-index.text in
    part_more (λ index. node_words c.args.chip.now (name_at index)) c.loop-index.index
    (string_bytes c.args.text.now) text _ c.loop-index.invariant
    (c.in_ok-push_node_words.ensures
    ∙ ap (λ name. text ++ node_words c.args.chip.now name) c.at.ensures)

pub returns : goal.returns
unfolding all_words
returns c =
    let all : c.loop-index.index ≡ 144 = omega arith in
    c.loop-index.invariant
    ∙ ap (λ count. string_bytes c.args.text.now
    ++ flat_map (λ index. node_words c.args.chip.now (name_at index)) (range_with_len 0 count)) all
