use Rattle.std.proofs.Common.{◌∙◌, Ok, Result, ap, map, sym}
use Rattle.ga_source.specs.Token.{place_of}
use Rattle.ga_expand.specs.Bodies.{Unfolding, missing}
use Rattle.ga_expand.specs.Error.{Fault}
use Rattle.ga_expand.specs.inner.Bodies.{part_in, state_of}
use Rattle.ga_expand.proofs.unfolder.Unfolder.await_arguments.Goals as goal

pub returns : goal.returns
returns c =
    let self = c.args.self.now in
    ap {B = Result Unfolding Fault} (λ m. Ok (missing (state_of self) (place_of c.args.start) m
    (map part_in self.used.items) (map part_in self.arguments.items))) c.if-missing-ne0.false
    ∙ ap {B = Result Unfolding Fault} Ok (sym c.in_ok-role.ensures)
