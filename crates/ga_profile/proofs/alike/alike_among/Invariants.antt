use Rattle.std.proofs.Common.{◌≡◌, ◌≤◌, map, string_bytes}
use Rattle.ga_profile.specs.Alike as spec
use Rattle.ga_profile.proofs.alike.alike_among.Given as goal

-- that among as many lines
abbrev pub invariant-loop-other : goal.invariant-loop-other
invariant-loop-other l = record {
  alike : l.alike ≡ spec.alike_in (map string_bytes l.codes) l.kind l.other;
  bound : l.alike ≤ l.other;
}
