use Rattle.std.proofs.Common.{◌≡◌, drop}
use Rattle.std.specs.List.{list_any}
use Rattle.ga_lint.specs.Acting as spec
use Rattle.ga_lint.proofs.acting.has_act.Given as goal

-- no opcode so far does it
abbrev pub invariant-loop-op : goal.invariant-loop-op
invariant-loop-op l =
    list_any (spec.is_act l.act) (drop l.op-index l.ops) ≡ list_any (spec.is_act l.act) l.ops
