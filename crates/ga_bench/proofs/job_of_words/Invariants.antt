use Rattle.std.proofs.Common.{◌≡◌, ◌++◌, drop, map, string_bytes}
use Rattle.ga_bench.proofs.job_of_words.Given as goal

-- the words so far, and those that are left
abbrev pub invariant-loop-word : goal.invariant-loop-word
invariant-loop-word l =
    map (λ word. word.now) l.line.items ++ map string_bytes (drop l.word-index l.words)
    ≡ map string_bytes l.words
