use Rattle.std.proofs.Common.{◌≡◌, ◌++◌, drop, false, map}
use Rattle.ga_hints.specs.Names.{names_from}
use Rattle.ga_hints.proofs.names.push_names_behind.Given as goal

-- the names so far, and those behind the tokens that are left
abbrev pub invariant-loop-token : goal.invariant-loop-token
invariant-loop-token l =
    map (λ name. name.now) l.names.items
    ++ names_from l.keyword l.is_behind (drop l.token-index (map (λ token. token.now) l.tokens))
    ≡ map (λ name. name.now) l.fn.names.items
    ++ names_from l.keyword false (map (λ token. token.now) l.tokens)
