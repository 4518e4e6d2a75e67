use Rattle.std.proofs.Common.{◌≡◌, drop, length}
use Rattle.ga_debug.specs.Pieces.{pieces}
use Rattle.ga_prompt.proofs.reply.lines_behind.Given as goal

-- as many lines are left out as the other text had so far
abbrev pub invariant-loop-other : goal.invariant-loop-other
invariant-loop-other l =
    drop (length (pieces 10 l.fn.other)) (pieces 10 l.fn.text)
    ≡ drop (length l._other-iterator) l.lines
