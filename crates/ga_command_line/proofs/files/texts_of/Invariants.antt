use Rattle.std.proofs.Common.{◌≡◌, ◌++◌, drop, map, string_bytes}
use Rattle.ga_command_line.proofs.files.texts_of.Given as goal

-- the texts so far, and those that are left
abbrev pub invariant-loop-name : goal.invariant-loop-name
invariant-loop-name l =
    map string_bytes l.texts.items ++ map (λ name. name.now) (drop l.name-index l.names)
    ≡ map (λ name. name.now) l.names
