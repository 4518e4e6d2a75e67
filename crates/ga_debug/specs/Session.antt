-- What is replied to a line, and the chip afterwards.
use Rattle.std.specs.Prelude.{Option, ℕ, ◌-◌, ◌==◌, List, ◌++◌, codes, get_or, length, option_map, take, Result, Ok, Err, if◌then◌else◌}
use Rattle.ga_chip.specs.Chip.{Chip}
use Rattle.ga_debug.specs.declared.beginning.Program.{Program}
use Rattle.ga_debug.specs.declared.error.DebugError.{DebugError}
use Rattle.ga_debug.specs.declared.command.Arguments.{Arguments}
use Rattle.ga_debug.specs.declared.commands.Verb.{Verb}
use Rattle.ga_debug.specs.declared.commands.Verb.TheVariants.{Act, Show, Tell}
use Rattle.ga_debug.specs.Commands.{answer_text, did, followed, images_of, note_of, shown}
use Rattle.ga_debug.specs.Command.{command_in}
use Rattle.ga_debug.specs.Error.{fault_name}
use Rattle.ga_debug.specs.Hint.{hint_of}

-- a text without the LF at its end
abbrev pub without_line_end : List ℕ → List ℕ
without_line_end text =
    if get_or text (length text - 1) 0 == 10 then take (length text - 1) text else text

-- the reply to a command, without an LF at its end, or why it is refused; and the chip afterwards
abbrev pub done_by : Option Program → Verb → Arguments → Chip → Result (List ℕ) DebugError × Chip
done_by of (Show view) given chip = (Ok (without_line_end (shown of view given chip)), chip)
done_by of (Tell follow) given chip =
    let told = followed (images_of of) follow given chip in
    (Ok (without_line_end told.0), told.1)
done_by of (Act action) given chip =
    let done = did action given chip in (
      elim done.0 [
        | Ok answer ↦ Ok (answer_text answer ++ note_of (images_of of) action given)
        | Err fault ↦ Err fault
      ],
      done.1,
    )

-- The reply to a line, and the chip afterwards. A command that is refused changes nothing. With
-- the program of its head, the line is one of a transcript, else of a session.
abbrev pub replied : Option Program → List ℕ → Chip → Result (List ℕ) DebugError × Chip
replied of line chip =
    elim (command_in (option_map (λ program. program.images) of) line) [
      | Err fault ↦ (Err fault, chip)
      | Ok command ↦ done_by of command.verb command.given chip
    ]

-- the reply to a line as text; a refusal may name the label that was meant
abbrev pub text_or_refusal : Option Program → List ℕ → Result (List ℕ) DebugError → List ℕ
text_or_refusal of line (Ok text) = text
text_or_refusal of line (Err fault) =
    codes "refused " ++ fault_name fault ++ hint_of of line fault
