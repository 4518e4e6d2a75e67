use Rattle.std.proofs.Common.{◌≡◌, ℕ, false, take, drop}
use Rattle.std.specs.Io.KnownBytes.{Appends}
use Rattle.ga_input.proofs.writing.write_output.Given as goal

-- what is gone from the front of the text was written, one call a turn
abbrev pub invariant-loop : goal.invariant-loop
invariant-loop g l = record {
  written : (count : ℕ) × (l.rest ≡ drop count l.text) × Appends
      (g.W.Write.contents l.initial.writer) (g.W.Write.contents l.writer) (take count l.text);
  unfailed : l.initial.writes.has_failed ≡ false → l.writes.has_failed ≡ false;
  counted : l.initial.writes.calls ≡ 0 → l.writes.calls ≡ l.counter;
}
