use Rattle.std.proofs.Common.{◌≡◌, ◌+◌, ◌≤◌, drop}
use Rattle.ga_lint.specs.CodeWrites as spec
use Rattle.ga_lint.proofs.code_writes.sets_ram_in.Given as goal

-- what is left of the word
abbrev pub invariant-loop-op : goal.invariant-loop-op
invariant-loop-op l =
    (spec.sets_ram_in l.is_b l.numbers l.p l.top (drop l.op-index l.ops)
    ≡ spec.sets_ram_in l.is_b l.numbers l.first l.fn.before l.ops)
    × (l.p ≤ l.first + l.op-index)
