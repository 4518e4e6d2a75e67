-- A bar that shows in which turns a node did what.
use Rattle.std.specs.Prelude.{ℕ, ◌+◌, ◌*◌, List, codes, nat_lt, if◌then◌else◌}
use Rattle.std.specs.List.{flat_map, range_with_len}
use Rattle.ga_profile.specs.declared.bar.Sign.{Sign}
use Rattle.ga_profile.specs.declared.bar.Sign.TheVariants.{Boots, Works, AwaitsWord, AwaitsReader, Spins, Stopped, Idle}
use Rattle.ga_profile.specs.declared.node_turns.TurnCounts.{TurnCounts}

-- The turns lie side by side: those in which the node boots, works, waits for a word, waits for its
-- word to be read, spins, is stopped, and is idle. A column shows the turn in its middle. Here all
-- is 48 times as large, since a column is a 24th, and its middle lies a 48th behind its begin.
abbrev pub sign_of_rest : TurnCounts → ℕ → ℕ → Sign
sign_of_rest counts middle waited =
    if nat_lt middle (48 * (waited + counts.spins)) then Spins
    else if nat_lt middle (48 * (waited + counts.spins + counts.stops)) then Stopped
    else Idle

abbrev pub sign_behind : TurnCounts → ℕ → ℕ → Sign
sign_behind counts middle worked =
    if nat_lt middle (48 * (worked + counts.word_waits)) then AwaitsWord
    else if nat_lt middle (48 * (worked + counts.word_waits + counts.reader_waits))
    then AwaitsReader
    else sign_of_rest counts middle (worked + counts.word_waits + counts.reader_waits)

abbrev pub sign_in : TurnCounts → ℕ → Sign
sign_in counts middle =
    if nat_lt middle (48 * counts.boots) then Boots
    else if nat_lt middle (48 * (counts.boots + counts.works)) then Works
    else sign_behind counts middle (counts.boots + counts.works)

abbrev pub sign_at : TurnCounts → ℕ → ℕ → Sign
sign_at counts turns column = sign_in counts ((column * 2 + 1) * turns)

abbrev pub sign_text : Sign → List ℕ
sign_text Boots = codes "b"
sign_text Works = codes "#"
sign_text AwaitsWord = codes "?"
sign_text AwaitsReader = codes "!"
sign_text Spins = codes "~"
sign_text Stopped = codes "x"
sign_text Idle = codes " "

-- a bar of 24 columns
unfoldable pub bar : TurnCounts → ℕ → List ℕ
bar counts turns =
    flat_map (λ column. sign_text (sign_at counts turns column)) (range_with_len 0 24)
