use Rattle.std.proofs.Common.{◌≡◌, ◌++◌, drop, map}
use Rattle.ga_faults.specs.Sections.{section_starts, starts_from}
use Rattle.ga_faults.proofs.TokensRead.{token_piece}
use Rattle.ga_faults.proofs.sections.section_starts.Given as goal

-- the lines so far, and those of the tokens that are left
abbrev pub invariant-loop-token : goal.invariant-loop-token
invariant-loop-token l =
    l.starts.items
    ++ starts_from l.reading l.before (drop l.token-index (map (token_piece l.text) l.token-items))
    ≡ section_starts l.text
