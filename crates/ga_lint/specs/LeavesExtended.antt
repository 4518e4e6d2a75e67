-- A loop in extended mode that goes back by a destination in slot 0 without bit 9.
use Rattle.std.specs.Prelude.{◌&&◌, ℕ, Bool, true, false, List, [], ◌∷◌, Option, None, nat_lt, if◌then◌else◌}
use Rattle.std.specs.List.{slice_get}
use Rattle.std.specs.Option.{option_map_or}
use Rattle.ga_disasm.specs.Disassembling.{ItemView, Code}
use Rattle.ga_lint.specs.ExtendedMode.{extended_words, is_known, slot0_dest}
use Rattle.ga_lint.specs.NodeView.{NodeView}
use Rattle.ga_word.specs.declared.op.Op.{Op}
use Rattle.ga_word.specs.declared.op.Op.TheVariants.{Call}

-- the only opcode is a `call`, from which `;` comes back to the mode
abbrev pub is_call : List Op → Bool
is_call (Call ∷ []) = true
is_call ops = false

-- the destination of a word in slot 0, but not that of a `call`
abbrev pub leaving_dest : ItemView → Option ℕ
leaving_dest (Code reading) = if is_call reading.ops then None else slot0_dest (Code reading)
leaving_dest item = None

-- the words at two addresses run in extended mode
abbrev pub run_extended : List ItemView → ℕ → ℕ → Bool
run_extended words back address =
    is_known (extended_words words) back && is_known (extended_words words) address

-- The word at an address runs in extended mode, and goes back by a destination in slot 0 without
-- bit 9 to a word that does so too. So it leaves the mode in a loop. To leave it forwards is no
-- fault, nor is a jump of a word to itself.
abbrev pub leaves_extended : NodeView → ℕ → Bool
leaves_extended node address =
    option_map_or (λ dest. nat_lt dest address && run_extended node.words dest address)
    (option_map_or leaving_dest (slice_get node.words address) None) false
