use Rattle.std.proofs.Common.{◌≡◌, ◌++◌, map, take}
use Rattle.ga_expand.specs.Bodies.{behind_all}
use Rattle.ga_expand.specs.Expanding.{Body}
use Rattle.ga_expand.specs.inner.Bodies.{filled_in, part_in}
use Rattle.ga_expand.specs.inner.Role.{role_stage}
use Rattle.ga_expand.proofs.bodies.push_pieces.Given as goal

abbrev pub invariant-loop-part : goal.invariant-loop-part
invariant-loop-part l = record {
  pieces : l.pieces.items ≡ l.initial.pieces.items
      ++ map (λ part. part.piece) (map (filled_in l.arguments) (take l.part-index l.body));
  role : role_stage l.role
      ≡ behind_all Body (map part_in (map (filled_in l.arguments) (take l.part-index l.body)));
}
