use Rattle.std.proofs.Common.{◌≡◌, ◌++◌, string_bytes}
use Rattle.std.specs.Prelude.{replicate}
use Rattle.ga_counts.proofs.columns.push_blanks.Given as goal

-- as many blanks are written
abbrev pub invariant-loop-done : goal.invariant-loop-done
invariant-loop-done l =
    string_bytes l.text ≡ string_bytes l.initial.text ++ replicate l._done 32
