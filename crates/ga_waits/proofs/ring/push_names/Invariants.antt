use Rattle.std.proofs.Common.{◌≡◌, ◌-◌, ◌++◌, string_bytes}
use Rattle.ga_waits.specs.inner.Next as inner
use Rattle.ga_waits.specs.Ring as spec
use Rattle.ga_waits.proofs.ring.push_names.Given as goal

-- what is written, and the names that are left
abbrev pub invariant-loop-walked : goal.invariant-loop-walked
invariant-loop-walked l =
    string_bytes l.text
    ++ inner.names_text (spec.names_behind (inner.next_in l.nexts) l.first (144 - l._walked) l.next)
    ≡ string_bytes l.initial.text
    ++ inner.names_text (spec.row_behind (inner.next_in l.nexts) l.first)
