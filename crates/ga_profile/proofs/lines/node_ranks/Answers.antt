use Rattle.std.proofs.Common.{◌≡◌, ◌∙◌, ◌<◌, arith, length-set, subst, sym, ℕ}
use Rattle.ga_profile.specs.Lines.{node_ranks}
use Rattle.ga_profile.specs.Rank.{rank_of}
use Rattle.ga_profile.proofs.Ranking.{number_more, numbers_all}
use Rattle.ga_profile.proofs.lines.node_ranks.Goals as goal

pub loop-index-preserved : goal.loop-index-preserved
loop-index-preserved c =
    let ranks = c.loop-index.ranks in
    let index = c.loop-index.index in
    let below : index < 144 = c.loop-index-test.true in
    record {
      all = length-set ranks index c.rank_of.result ∙ c.loop-index.invariant.all;
      each = number_more (rank_of c.args.paths.now) ranks index c.rank_of.result
          (subst (λ n. index < n) (sym c.loop-index.invariant.all) below)
          c.loop-index.invariant.each c.rank_of.ensures;
    }

pub returns : goal.returns
unfolding node_ranks
returns c =
    let all : 144 ≡ c.loop-index.index = omega arith in
    numbers_all (rank_of c.args.paths.now) c.loop-index.ranks 144 c.loop-index.invariant.all
    (λ at below. c.loop-index.invariant.each at (subst (λ (n : ℕ). at < n) all below))
