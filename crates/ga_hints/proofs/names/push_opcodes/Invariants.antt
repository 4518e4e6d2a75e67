use Rattle.std.proofs.Common.{◌≡◌, ◌++◌, map, take}
use Rattle.ga_word.specs.Op.{name_of, opcodes}
use Rattle.ga_hints.proofs.names.push_opcodes.Given as goal

-- the names of the opcodes with the codes so far
abbrev pub invariant-loop-code : goal.invariant-loop-code
invariant-loop-code l =
    map (λ name. name.now) l.names.items
    ≡ map (λ name. name.now) l.fn.names.items ++ map name_of (take l.code opcodes)
