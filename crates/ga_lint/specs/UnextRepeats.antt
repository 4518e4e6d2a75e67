-- An `unext` runs its word again from slot 0 on, and so also what stands before it.
use Rattle.std.specs.Prelude.{ℕ, Bool, true, false, List, [], ◌∷◌, ◌&&◌, ◌||◌, if◌then◌else◌}
use Rattle.std.specs.List.{slice_get}
use Rattle.std.specs.Option.{option_map_or}
use Rattle.ga_disasm.specs.Disassembling.{ItemView, Code}
use Rattle.ga_lint.specs.NodeView.{NodeView, is_packed}
use Rattle.ga_pack.specs.Followers.{is_followed}
use Rattle.ga_pack.specs.Model.Layout.{is_unext}
use Rattle.ga_word.specs.declared.op.Op.{Op}
use Rattle.ga_word.specs.declared.op.Op.TheVariants.{Push}
use Rattle.ga_word.specs.Op.{ends_word}

abbrev pub is_push : Op → Bool
is_push Push = true
is_push o = false

-- one of these opcodes is an `unext` that runs: none before it ends the word
abbrev pub has_unext : List Op → Bool
has_unext [] = false
has_unext (o ∷ ops) = is_unext o || (if ends_word o then false else has_unext ops)

-- An opcode does something else in each round: `push` puts one more word on top of the count, and
-- in a packed word `@p` takes the next word of the code each time. In brackets an `@p` or `!p` is
-- meant to: `[ @p !+ unext ]` copies the words behind it.
abbrev pub changes_rounds : Bool → Op → Bool
changes_rounds packed o = is_push o || packed && is_followed o

-- such an opcode runs before an `unext`
abbrev pub repeats : Bool → List Op → Bool
repeats packed [] = false
repeats packed (o ∷ ops) =
    if ends_word o then false else if is_unext o then false
    else if changes_rounds packed o then has_unext ops else repeats packed ops

abbrev pub repeats_in : Bool → ItemView → Bool
repeats_in packed (Code reading) = repeats packed reading.ops
repeats_in packed item = false

-- so in the word at an address
abbrev pub unext_repeats : NodeView → ℕ → Bool
unext_repeats node address =
    option_map_or (repeats_in (is_packed node address)) (slice_get node.words address) false
