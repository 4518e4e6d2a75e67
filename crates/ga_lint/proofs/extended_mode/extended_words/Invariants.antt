use Rattle.std.proofs.Common.{◌≡◌, drop, map}
use Rattle.arrayvec.specs.ArrayVec.{array_vec_len}
use Rattle.ga_disasm.specs.Disassembling.{item_view}
use Rattle.ga_lint.specs.ExtendedMode as spec
use Rattle.ga_lint.proofs.extended_mode.extended_words.Given as goal

-- what is left of the words
abbrev pub invariant-loop-at : goal.invariant-loop-at
invariant-loop-at l =
    (spec.extended_from (map item_view l.words) l.comes l.known.items l.at
    (map item_view (drop l.at l.words)) ≡ spec.extended_words (map item_view l.words))
    × (array_vec_len l.known ≡ l.at)
