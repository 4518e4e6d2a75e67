use Rattle.std.proofs.Common.{◌≡◌, map, string_bytes}
use Rattle.ga_profile.specs.Alike as spec
use Rattle.ga_profile.proofs.alike.turns_alike.Given as goal

-- those of as many lines
abbrev pub invariant-loop-other : goal.invariant-loop-other
invariant-loop-other l =
    l.turns ≡ spec.turns_in (map string_bytes l.codes) l.lines l.kind l.other
