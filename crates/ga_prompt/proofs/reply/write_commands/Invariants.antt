use Rattle.std.proofs.Common.{◌≡◌, ◌++◌, ℕ, List}
use Rattle.std.specs.Prelude.{map}
use Rattle.std.specs.Io.KnownBytes.{Appends}
use Rattle.ga_prompt.specs.Talk.{commands_in, ended, undone_line}
use Rattle.ga_prompt.proofs.reply.write_commands.Given as goal

-- what was written, and the lines that are left
abbrev pub invariant-loop-line : goal.invariant-loop-line
invariant-loop-line g l =
    (front : List ℕ)
    × Appends (g.W.Write.contents l.initial.writer) (g.W.Write.contents l.writer) front
    × (ended (map undone_line (commands_in l.fn.lines))
    ≡ front ++ ended (map undone_line (commands_in l.line-iterator)))
