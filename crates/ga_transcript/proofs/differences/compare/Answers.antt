use Rattle.std.proofs.Common.{inr, ap, refl, sym}
use Rattle.std.specs.Prelude.{◌==◌}
use Rattle.ga_transcript.specs.Compare.{comparison_view}
use Rattle.ga_transcript.proofs.differences.compare.Goals as goal

pub returns-in-Some-clause-compared : goal.returns-in-Some-clause-compared
returns-in-Some-clause-compared c =
    inr (
      comparison_view c.in_ok-found.found,
      c.in-Some.unmet,
      c.in_ok-found.ensures.compared,
      ap (λ n. n == 0) c.if-found-eq0.true,
      sym c.in-Some.ensures,
      refl,
    )
