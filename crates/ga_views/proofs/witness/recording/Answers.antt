use Rattle.std.proofs.Common.{arith, inl, inr, refl, string_bytes}
use Rattle.ga_views.proofs.witness.recording.Goals as goal

pub returns-then-len-gt-INPUT_LIMIT : goal.returns-then-len-gt-INPUT_LIMIT
returns-then-len-gt-INPUT_LIMIT c =
    inr (inl (
      string_bytes c.in-Ok.recording,
      c.in-Ok.ensures.recorded,
      refl,
      omega (arith, c.len.ensures, c.if-len-gt-INPUT_LIMIT.true),
    ))
