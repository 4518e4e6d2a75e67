use Rattle.std.proofs.Common.{◌≤◌}
use Rattle.ga_bench.proofs.transcripts.check_files.Given as goal

-- no more files passed than were checked
abbrev pub invariant-loop-file : goal.invariant-loop-file
invariant-loop-file g l = l.passed ≤ l.file-index
