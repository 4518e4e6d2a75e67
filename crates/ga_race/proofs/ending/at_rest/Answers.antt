use Rattle.std.proofs.Common.{◌<◌, ◌≢◌, Bool, arith, below_more, get_or-set_other, get_or-set_same, length, length-set, subst}
use Rattle.ga_race.specs.Rounds.{HasNoBreaks}
use Rattle.ga_race.specs.Spins.{RestsOrSpins}
use Rattle.ga_race.proofs.ending.at_rest.Goals as goal

pub loop-index-preserved : goal.loop-index-preserved
loop-index-preserved c = record {
  length = omega (arith, length-set {A = Bool});
  so_far = below_more _ _
      (λ k h. let ne : k ≢ c.loop-index.index = omega arith in
      rw get_or-set_other (c.loop-index.invariant.so_far k h))
      (let lt : c.loop-index.index < length c.loop-index.spins = omega arith in
      rw get_or-set_same (subst (λ name. HasNoBreaks c.args.chip.now
      → RestsOrSpins c.args.chip.now name c.in_ok-spins.field-0) c.at.ensures
      c.in_ok-spins.ensures));
}

pub returns : goal.returns
returns c free = λ k below. c.loop-index.invariant.so_far k (omega arith) free
