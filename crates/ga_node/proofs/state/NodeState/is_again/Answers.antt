use Rattle.std.proofs.Common.{◌≡◌, refl}
use Rattle.ga_node.specs.State.{State}
use Rattle.ga_node.specs.inner.Again.{HasSameLists, HasSameMode, HasSameRegisters}

-- the three parts are all but the number of steps
equal : (one two : State) → HasSameRegisters one two → HasSameMode one two → HasSameLists one two
    → one ≡ record two { steps = one.steps }
equal one two same mode lists =
    rw (
      ← same.p,
      ← same.place,
      ← same.t,
      ← same.s,
      ← same.r,
      ← same.a,
      ← same.b,
      ← mode.io,
      ← mode.carry,
      ← mode.node,
      ← mode.posted,
      ← mode.word,
      ← lists.data_stack,
      ← lists.return_stack,
      ← lists.loader,
      ← lists.ram,
    ) refl
