use Rattle.std.proofs.Common.{◌≡◌, map, string_bytes}
use Rattle.std.specs.List.{range_with_len}
use Rattle.ga_profile.specs.Alike.{turns_at}
use Rattle.ga_profile.proofs.alike.group_turns.Given as goal

-- those of as many lines
abbrev pub invariant-loop-kind : goal.invariant-loop-kind
invariant-loop-kind l =
    l.turns.items ≡ map (turns_at (map string_bytes l.codes) l.lines) (range_with_len 0 l.kind)
