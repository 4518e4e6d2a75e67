use Rattle.std.proofs.Common.{◌≡◌, ◌+◌, ◌<◌, ◌≤◌, ◌^◌, length}
use Rattle.ga_debug.specs.Replaying.{lines_on}
use Rattle.ga_debug.proofs.replaying.follow.Given as goal

-- the result of the lines that are left, and room to count them
abbrev pub invariant-loop-text : goal.invariant-loop-text
invariant-loop-text l =
    (lines_on l.profile l.line l.count l.chip l.text-iterator ≡ lines_on l.fn.profile l.fn.first 0
    l.fn.chip l.fn.lines) × (l.line + length l.text-iterator < 2 ^ 64) × (l.count ≤ l.line)
