use Rattle.std.proofs.Common.{◌≡◌, ◌≤◌, vec_len}
use Rattle.std.specs.Io.KnownBytes.{Consumes}
use Rattle.ga_input.specs.Reading.{INPUT_LIMIT}
use Rattle.ga_input.proofs.reading.read_input.Given as goal

-- what was read is in `input`, and is within the limit
abbrev pub invariant-loop : goal.invariant-loop
invariant-loop g l = record {
  limit : vec_len l.input ≤ INPUT_LIMIT;
  consumed : Consumes (g.R.Read.remaining l.initial.reader)
      (g.R.Read.remaining l.reader) l.input.items;
  counted : l.initial.reads.calls ≡ 0 → l.reads.calls ≡ l.counter;
}
