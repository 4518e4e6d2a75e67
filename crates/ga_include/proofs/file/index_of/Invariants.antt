use Rattle.std.proofs.Common.{◌≡◌, drop, string_bytes}
use Rattle.std.specs.List.{position_from}
use Rattle.std.specs.Str.{bytes_eq}
use Rattle.ga_include.proofs.file.index_of.Given as goal

-- no file before has the name
abbrev pub invariant-loop-index : goal.invariant-loop-index
invariant-loop-index l =
    position_from (λ file. bytes_eq (string_bytes file.name) l.name) l.index
    (drop l.index l.files)
    ≡ position_from (λ file. bytes_eq (string_bytes file.name) l.name) 0 l.files
