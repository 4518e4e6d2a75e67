use Rattle.std.proofs.Common.{◌≡◌, ◌∙◌, ap, arith, length}
use Rattle.std.specs.List.{flat_map, range_with_len}
use Rattle.std.specs.Prelude.{if◌then◌else◌, ◌∷◌, []}
use Rattle.ga_place.specs.Cell.{name_at}
use Rattle.ga_trace.specs.Rest.{if_spins, spin_count}
use Rattle.ga_trace.proofs.Resting.{one_more}
use Rattle.ga_trace.proofs.Spinning.{counted_one, few_one}
use Rattle.ga_trace.proofs.spin_watch.SpinWatch.count.Goals as goal

pub loop-index-preserved : goal.loop-index-preserved
loop-index-preserved c = record {
  watch = c.spins.ensures.watch;
  counted = one_more c.args.chip.now c.loop-index.index c.loop-index.count c.from-count.result
      c.loop-index.invariant.counted
      (c.from-count.ensures ∙ counted_one c.spins.result (name_at c.loop-index.index)
      ∙ ap (λ spins. length (if spins then name_at c.loop-index.index ∷ [] else []))
      c.spins.ensures.value);
  few =
      let one = few_one c.spins.result in
      omega (arith, c.loop-index.invariant.few, c.from-count.ensures, one);
}

pub returns : goal.returns
unfolding spin_count
returns c =
    let all : c.loop-index.index ≡ 144 =
    omega (arith, c.loop-index-test.false, c.loop-index.auto.index-end) in
    record {
      watch = c.loop-index.invariant.watch;
      count = c.loop-index.invariant.counted
          ∙ ap (λ count. length (flat_map (λ index. if_spins c.args.chip.now (name_at index))
          (range_with_len 0 count))) all;
    }
