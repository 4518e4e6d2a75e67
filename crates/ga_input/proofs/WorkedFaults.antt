-- What is shown of texts that were worked out by hand.
use Rattle.std.proofs.Common.{◌≡◌, ℕ, true, false, List, [], ◌∷◌, ◌++◌, refl}
use Rattle.std.specs.Prelude.{codes}
use Rattle.std.specs.Str.{chars}
use Rattle.ga_input.specs.Meaning.{profile_meaning}
use Rattle.ga_messages.specs.Shown.{numbered_line}
use Rattle.ga_input.specs.TranscriptFault.{end_column, is_source_end}

-- `go` is the fourth line, and the source lines end there
cut_off : List ℕ
cut_off = codes "profile 2\nplace\nnode 000 jump\ngo\n"

source_ends : (is_source_end cut_off 4 1 ≡ true)
    × (is_source_end cut_off 4 2 ≡ false)
    × (is_source_end cut_off 3 1 ≡ false)
    -- without a source line there is none to go back to
    × (is_source_end (codes "profile 2\nplace\ngo\n") 3 1 ≡ false)
    × (end_column (numbered_line cut_off 3) ≡ 14)
unfolding cut_off chars
source_ends = (refl, refl, refl, refl, refl)

-- the mark comes before the CR
profiles : (profile_meaning (codes "profile 1\n") ≡ codes "the first line isn't 'profile 2'")
    × (profile_meaning (codes "profile 2" ++ 13 ∷ 10 ∷ [])
    ≡ codes "the first line isn't 'profile 2': a CR stands at its end")
    × (profile_meaning (0xEF ∷ 0xBB ∷ 0xBF ∷ codes "profile 2" ++ 13 ∷ 10 ∷ [])
    ≡ codes "the first line isn't 'profile 2': a byte order mark stands in front of it")
unfolding profile_meaning
profiles = (refl, refl, refl)
