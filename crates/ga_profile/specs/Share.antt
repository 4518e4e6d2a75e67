-- Shares of turns, and cells of a table.
use Rattle.std.specs.Prelude.{ℕ, ◌+◌, ◌-◌, ◌*◌, ◌/◌, ◌==◌, List, ◌++◌, codes, length, max, nat_lt, replicate, if◌then◌else◌}
use Rattle.std.specs.Fmt.{decimal}
use Rattle.ga_profile.specs.declared.share.Share.{Share}
use Rattle.ga_profile.specs.declared.share.Share.TheVariants.{None, BelowOne, Percent}

abbrev pub percent_of : ℕ → ℕ → Share
percent_of hundredfold all =
    if nat_lt hundredfold all then BelowOne
    else Percent ((hundredfold * 2 + all) / (all * 2))

-- The share that some turns are of all: none, below one percent, or a percentage, rounded.
unfoldable pub share_of : ℕ → ℕ → Share
share_of turns all =
    if turns == 0 then None else if all == 0 then None else percent_of (turns * 100) all

abbrev pub share_text : Share → List ℕ
share_text None = codes "."
share_text BelowOne = codes "<1"
share_text (Percent number) = decimal number

-- a text at the right of a column of this width, behind at least one blank
unfoldable pub cell : ℕ → List ℕ → List ℕ
cell width text = replicate (max (width - length text) 1) 32 ++ text

abbrev pub number_cell : ℕ → ℕ → List ℕ
number_cell width number = cell width (decimal number)
