use Rattle.std.proofs.Common.{◌≡◌, ◌∙◌, ℕ, List, ◌<◌, ◌++◌, ap, arith, length, string_bytes, sym}
use Rattle.std.specs.List.{flat_map, range_with_len}
use Rattle.ga_dump.proofs.Lines.{next_line}
use Rattle.ga_waits.specs.Label.{images_in}
use Rattle.ga_profile.specs.Stacks.{all_fullness, stack_row_at, stack_rows}
use Rattle.ga_profile.proofs.Writing.{stack_row_read}
use Rattle.ga_profile.proofs.stacks.stack_rows.Goals as goal

pub loop-rank-preserved : goal.loop-rank-preserved
loop-rank-preserved c =
    let images = images_in c.args.images in
    let nodes = c.args.nodes.now in
    let depths = c.args.depths.now in
    let rank = c.loop-rank.rank in
    let text = string_bytes c.loop-rank.rows in
    let full = c.as_slice-full.result.now in
    let is = c.as_slice-full.ensures.value ∙ c.in_ok-all.ensures.all in
    let row : ℕ → List ℕ = stack_row_at images (all_fullness nodes depths) depths in
    let within : c.ranked-index.result < length depths =
    omega (
      arith,
      c.requires.depths,
      c.in_ok-all.ensures.count,
      c.ranked-index.ensures.bound,
      ap (λ all. length all) c.as_slice-full.ensures.value,
    ) in
    stack_row_read images full depths rank c.ranked-index.result _ _ text _ within
    c.ranked-index.ensures.value c.at.ensures c.in_ok-push_row_if.ensures
    ∙ ap (λ all. text ++ stack_row_at images all depths rank) is
    ∙ ap (λ t. t ++ row rank) c.loop-rank.invariant ∙ sym (next_line row rank)

pub returns : goal.returns
unfolding stack_rows
returns c =
    let row : ℕ → List ℕ = stack_row_at (images_in c.args.images)
    (all_fullness c.args.nodes.now c.args.depths.now) c.args.depths.now in
    let all : c.loop-rank.rank ≡ 10 = omega arith in
    c.loop-rank.invariant ∙ ap (λ count. flat_map row (range_with_len 0 count)) all
