use Rattle.std.proofs.Common.{◌≡◌, ◌++◌, string_bytes}
use Rattle.std.specs.List.{flat_map, range_with_len}
use Rattle.ga_profile.specs.Bar.{sign_at, sign_text}
use Rattle.ga_profile.proofs.bar.push_bar.Given as goal

-- as many columns are written
abbrev pub invariant-loop-column : goal.invariant-loop-column
invariant-loop-column l =
    string_bytes l.text
    ≡ string_bytes l.initial.text
    ++ flat_map (λ column. sign_text (sign_at l.counts l.turns column)) (range_with_len 0 l.column)
