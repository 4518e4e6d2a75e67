use Rattle.std.proofs.Common.{◌≡◌, ◌++◌, drop, map, string_bytes}
use Rattle.ga_word.specs.Op.{name_of}
use Rattle.ga_disasm.specs.Printing.{behind_spaces}
use Rattle.ga_disasm.proofs.printing.push_ops.Given as goal

-- what is written, and the names that are left
abbrev pub invariant-loop-op : goal.invariant-loop-op
invariant-loop-op l =
    string_bytes l.text ++ behind_spaces (map name_of (drop l.op-index l.ops))
    ≡ string_bytes l.initial.text ++ behind_spaces (map name_of l.ops)
