use Rattle.std.proofs.Common.{◌≡◌, ◌++◌, drop, map}
use Rattle.serde_json.specs.View.{view}
use Rattle.ga_json.specs.Profile.{line_data}
use Rattle.ga_json.proofs.profile.lines_value.Given as goal

-- what is done, and the lines that are left
abbrev pub invariant-loop-line : goal.invariant-loop-line
invariant-loop-line l =
    map view l.values.items ++ map line_data (drop l.line-index l.line-items)
    ≡ map line_data l.line-items
