use Rattle.std.proofs.Common.{◌≡◌, ◌+◌, ◌≤◌, drop}
use Rattle.ga_lint.specs.CodeWrites as spec
use Rattle.ga_lint.proofs.code_writes.top_after.Given as goal

-- what is left of the word
abbrev pub invariant-loop-op : goal.invariant-loop-op
invariant-loop-op l =
    (spec.top_after l.numbers l.p l.top (drop l.op-index l.ops)
    ≡ spec.top_after l.numbers l.first l.fn.before l.ops)
    × (l.p ≤ l.first + l.op-index)
