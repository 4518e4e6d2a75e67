use Rattle.std.proofs.Common.{◌≡◌, ◌∙◌, ◌++◌, ap, arith, string_bytes}
use Rattle.std.specs.List.{flat_map, range_with_len}
use Rattle.ga_profile.proofs.Writing.{part_more}
use Rattle.ga_report.specs.Scale.{tick_at, ticks}
use Rattle.ga_report.proofs.scale.push_ticks.Goals as goal

pub loop-quarters-preserved : goal.loop-quarters-preserved
loop-quarters-preserved c =
    part_more (tick_at c.args.window) c.loop-quarters.quarters
    (string_bytes c.args.text.now) (string_bytes c.loop-quarters.text) _ c.loop-quarters.invariant
    c.in_ok-push_tick.ensures

pub returns : goal.returns
unfolding ticks
returns c =
    let all : c.loop-quarters.quarters ≡ 5 = omega arith in
    c.loop-quarters.invariant
    ∙ ap (λ count. string_bytes c.args.text.now
    ++ flat_map (tick_at c.args.window) (range_with_len 0 count)) all
