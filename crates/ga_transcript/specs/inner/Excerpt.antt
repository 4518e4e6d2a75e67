-- The lines of an excerpt, one at a time.
use Rattle.std.specs.Prelude.{ℕ, ◌+◌, ◌-◌, List, [], ◌∷◌, ◌++◌, length, nat_lt, take, if◌then◌else◌}
use Rattle.ga_transcript.specs.Check.{signed}
use Rattle.ga_transcript.specs.Compare.{more_lines}
use Rattle.ga_transcript.specs.Following.{Lines}

-- what is shown of a line behind a number of lines
abbrev pub shown_line : ℕ → ℕ → List ℕ → List ℕ
shown_line sign count line = if nat_lt count 10 then sign ∷ (line ++ 10 ∷ []) else []

-- what is shown of the lines behind a number of lines
unfoldable pub shown_behind : ℕ → ℕ → Lines → List ℕ
shown_behind sign count lines =
    signed sign (take (10 - count) lines) ++ more_lines (count + length lines)
