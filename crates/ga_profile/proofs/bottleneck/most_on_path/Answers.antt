use Rattle.std.proofs.Common.{◌≡◌, ◌∙◌, ◌+◌, suc, ap, arith}
use Rattle.ga_profile.specs.Bottleneck.{more_on_path, most_on_path}
use Rattle.ga_profile.proofs.bottleneck.most_on_path.Goals as goal

pub loop-index-preserved : goal.loop-index-preserved
loop-index-preserved c =
    let paths = c.args.paths.now in
    let index = c.loop-index.index in
    let one : suc index ≡ index + 1 = omega arith in
    record {
      most = c.more_on_path-most.ensures.value
          ∙ ap (λ most. more_on_path paths most index) c.loop-index.invariant.most
          ∙ ap (most_on_path paths) one;
      bound = c.more_on_path-most.ensures.bound;
    }

pub returns-clause-value : goal.returns-clause-value
returns-clause-value c =
    let all : c.loop-index.index ≡ 144 = omega arith in
    c.loop-index.invariant.most ∙ ap (most_on_path c.args.paths.now) all
