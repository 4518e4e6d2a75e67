use Rattle.std.proofs.Common.{◌≡◌, ◌∙◌, ◌-◌, ◌++◌, ap, ap₂, arith, rules, subst, sym}
use Rattle.std.specs.List.{flat_map, range_with_len}
use Rattle.ga_chip.specs.Chip.{Chip}
use Rattle.ga_dump.proofs.Lines.{next_line}
use Rattle.ga_profile.specs.HasRun.{HasRun}
use Rattle.ga_report.specs.Columns.{bound}
use Rattle.ga_report.specs.Timeline.{column_in, counts_by, counts_in, kinds_in, most_by, up_to}
use Rattle.ga_report.proofs.Reading.{column_count, column_read, first_begin, last_end}
use Rattle.ga_report.proofs.timeline.timeline_of_part.Goals as goal

pub advance-requires-clause-known : goal.advance-requires-clause-known
advance-requires-clause-known c = c.in_ok-watch.ensures.known c.in_ok-now.now

pub loop-column-init : goal.loop-column-init
loop-column-init c =
    let start = c.args.chip.now in
    let copy = c.in_ok-now.now in
    let chip = c.advance.new.chip in
    let watch = c.advance.new.self in
    let begun : HasRun 0 start 0 copy c.in_ok-watch.watch =
    subst (λ (at : Chip). HasRun 0 at 0 copy c.in_ok-watch.watch) c.in_ok-now.ensures
    (c.in_ok-watch.ensures.run copy) in
    let advanced : HasRun 0 start c.bound-first.result chip watch =
    c.advance.ensures.run 0 start begun in
    record {
      known = c.advance.ensures.known;
      run = subst (λ n. HasRun 0 start n chip watch) c.bound-first.ensures advanced;
      before = c.in_ok-before.ensures.nodes start advanced
          ∙ ap (λ n. up_to n start) c.bound-first.ensures;
      all = c.in_ok-before.ensures.all;
      kinds = search rules;
      count = search rules;
    }

pub loop-column-preserved : goal.loop-column-preserved
loop-column-preserved c =
    let so_far = c.loop-column.invariant in
    let start = c.args.chip.now in
    let column = c.loop-column.column in
    let now = c.advance-in-loop-column.new.chip in
    let watch = c.advance-in-loop-column.new.self in
    let columns = column_in c.args.window start in
    let done = flat_map columns (range_with_len 0 column) in
    let advanced : HasRun 0 start c.bound-end.result now watch =
    c.advance-in-loop-column.ensures.run 0 start
    (subst (λ n. HasRun 0 start n c.loop-column.now c.loop-column.watch)
    (sym c.bound-begin.ensures) so_far.run) in
    let old = c.as_slice.result.now in
    let new = c.as_slice-in-loop-column.result.now in
    let turns = c.bound-end.result - c.bound-begin.result in
    let after = c.in_ok-after.ensures.nodes start advanced
    ∙ ap (λ n. up_to n start) c.bound-end.ensures in
    record {
      known = c.advance-in-loop-column.ensures.known;
      run = subst (λ n. HasRun 0 start n now watch) c.bound-end.ensures advanced;
      before = after;
      all = c.in_ok-after.ensures.all;
      kinds = c.in_ok-push_column.ensures
          ∙ ap (λ kinds. kinds ++ most_by old new turns) so_far.kinds
          ∙ ap (λ more. done ++ more) (column_read c.args.window start column _ _ old new
          c.bound-begin.ensures c.bound-end.ensures
          (c.as_slice.ensures.value ∙ so_far.before)
          (c.as_slice-in-loop-column.ensures.value ∙ after))
          ∙ sym (next_line columns column);
      count = column_count old new turns column _ _ so_far.count c.in_ok-push_column.ensures;
    }

pub returns-clause-kinds : goal.returns-clause-kinds
unfolding kinds_in
returns-clause-kinds c =
    let all : c.loop-column.column ≡ c.columns_of-columns.result = omega arith in
    c.loop-column.invariant.kinds
    ∙ ap (λ n. flat_map (column_in c.args.window c.args.chip.now) (range_with_len 0 n))
    (all ∙ c.columns_of-columns.ensures)

pub returns-clause-counts : goal.returns-clause-counts
unfolding counts_in
returns-clause-counts c =
    let window = c.args.window in
    let start = c.args.chip.now in
    let all : c.loop-column.column ≡ c.columns_of-columns.result = omega arith in
    let first = c.bound-first.ensures ∙ first_begin window in
    let advanced : HasRun 0 start c.bound-first.result c.advance.new.chip c.advance.new.self =
    c.advance.ensures.run 0 start
    (subst (λ (at : Chip). HasRun 0 at 0 c.in_ok-now.now c.in_ok-watch.watch) c.in_ok-now.ensures
    (c.in_ok-watch.ensures.run c.in_ok-now.now)) in
    let begun = c.in_ok-begun.ensures.nodes start advanced ∙ ap (λ turn. up_to turn start) first in
    let last = ap (bound window) (all ∙ c.columns_of-columns.ensures) ∙ last_end window in
    c.in_ok-counts_between.ensures.counts
    ∙ ap₂ (λ old new. counts_by old new)
    (c.as_slice-2.ensures.value ∙ begun)
    (c.as_slice-3.ensures.value ∙ c.loop-column.invariant.before
    ∙ ap (λ turn. up_to turn start) last)
