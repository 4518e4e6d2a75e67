use Rattle.std.proofs.Common.{◌≡◌, ◌++◌, string_bytes}
use Rattle.ga_replays.specs.Debug.{replies_to}
use Rattle.ga_replays.proofs.debug.replies_to.Given as goal

-- what is written, and the replies to the commands among the lines that are left
abbrev pub invariant-loop-command : goal.invariant-loop-command
invariant-loop-command l =
    string_bytes l.replies ++ replies_to l.chip l.command-iterator
    ≡ replies_to l.fn.chip l.fn.lines
