use Rattle.std.proofs.Common.{◌≡◌, map, take}
use Rattle.std.specs.Prelude.{slice_range}
use Rattle.ga_hints.proofs.names.words_of.Given as goal

-- the texts of the tokens so far
abbrev pub invariant-loop-token : goal.invariant-loop-token
invariant-loop-token l =
    map (λ word. word.now) l.words.items
    ≡ take l.token-index (map (λ t. slice_range l.text t.start t.end) l.token-items)
