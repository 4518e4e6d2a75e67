-- What the faults of words, of replay texts and of the heads of sessions mean, in one line.
use Rattle.std.specs.Prelude.{◌==◌, ℕ, ◌-◌, List, [], ◌∷◌, codes, length, nat_eq, slice_index, if◌then◌else◌}
use Rattle.std.specs.List.{starts_with}
use Rattle.ga_debug.specs.Error.{fault_name}
use Rattle.ga_debug.specs.declared.replay_error.ReplayError.{ReplayError}
use Rattle.ga_debug.specs.declared.replay_error.ReplayError.TheVariants as replay
use Rattle.ga_explain.specs.Output.{meaning_of}
use Rattle.ga_messages.specs.Shown.{whole_line}
use Rattle.ga_input.specs.declared.fault.WordsFault.{WordsFault}
use Rattle.ga_input.specs.declared.fault.WordsFault.TheVariants as words

-- of a first line that isn't the one of the profile; the bytes of U+FEFF in front of it, or a CR at
-- its end, can't be seen where it is shown
unfoldable pub profile_meaning : List ℕ → List ℕ
profile_meaning text =
    let line = whole_line text 1 in
    if starts_with nat_eq text (0xEF ∷ 0xBB ∷ 0xBF ∷ []) then
    codes "the first line isn't 'profile 2': a byte order mark stands in front of it"
    else if slice_index line (length line - 1) == 13 then
    codes "the first line isn't 'profile 2': a CR stands at its end"
    else codes "the first line isn't 'profile 2'"

-- of a replay text, or of the head of a session
unfoldable pub head_meaning : List ℕ → ReplayError → List ℕ
head_meaning text replay.BadProfile = profile_meaning text
head_meaning text replay.BadRoute = meaning_of (codes "BadRoute")
head_meaning text replay.NoGo = meaning_of (codes "NoGo")
head_meaning text (replay.Route error) = meaning_of (codes "Route")
head_meaning text (replay.Tree error) = meaning_of (codes "Tree")
head_meaning text (replay.Boot error) = meaning_of (codes "Boot")
head_meaning text (replay.Bad line error) = meaning_of (fault_name error)
head_meaning text (replay.Differs line) = meaning_of (codes "differs")
head_meaning text error = []

-- of words
abbrev pub words_meaning : WordsFault → List ℕ
words_meaning (words.BadWord index) = codes "no word of five hex digits, at most 3FFFF"
words_meaning words.Empty = codes "a text without a word"
words_meaning words.TooLong = codes "the 65th word: a node has room for 64"
words_meaning words.BadCode = []
