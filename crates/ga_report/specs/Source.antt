-- The source text of a page, with the numbers of its lines.
use Rattle.std.specs.Prelude.{ℕ, suc, List, [], ◌∷◌, codes}
use Rattle.std.specs.Fmt.{decimal}
use Rattle.std.specs.List.{concat, enumerate_from, flat_map}
use Rattle.std.specs.Str.Lines.{lines}
use Rattle.ga_report.specs.Escape.{escaped}

-- a line behind its number, which is one more than how many lines are before it
unfoldable pub numbered : ℕ → List ℕ → List ℕ
numbered before line =
    concat (decimal (suc before) ∷ codes "\t" ∷ escaped line ∷ codes "\n" ∷ [])

-- the same of a pair: how many lines are before a line, and the line
abbrev pub numbered_pair : ℕ × List ℕ → List ℕ
numbered_pair line = numbered line.0 line.1

abbrev pub numbered_lines : List ℕ → List ℕ
numbered_lines source = flat_map numbered_pair (enumerate_from 0 (lines source))

-- a source text, each line behind its number
unfoldable pub source_part : List ℕ → List ℕ
source_part source =
    concat (codes "<h2>Source</h2>\n<pre class='source' tabindex='0' role='region' "
    ∷ codes "aria-label='Source'>" ∷ numbered_lines source ∷ codes "</pre>\n" ∷ [])
