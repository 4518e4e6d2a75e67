use Rattle.std.proofs.Common.{◌≡◌, ◌+◌, ◌≤◌, drop}
use Rattle.std.specs.Prelude.{count_by}
use Rattle.ga_pack.specs.Followers.{is_followed}
use Rattle.ga_hints.proofs.open_word.p_behind.Given as goal

abbrev pub invariant-loop-op : goal.invariant-loop-op
invariant-loop-op l =
    (l.followed ≤ l.op-index)
    × (count_by is_followed l.ops ≡ l.followed + count_by is_followed (drop l.op-index l.ops))
