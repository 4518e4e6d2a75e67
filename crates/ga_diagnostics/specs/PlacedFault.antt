-- The places of faults in an input that is no source text: words, a replay text or a session.
use Rattle.std.specs.Prelude.{ℕ, List, codes, Option, Some, None, if◌then◌else◌}
use Rattle.ga_debug.specs.Error.{fault_name}
use Rattle.ga_debug.specs.declared.replay_error.ReplayError.{ReplayError}
use Rattle.ga_debug.specs.declared.replay_error.ReplayError.TheVariants as replay
use Rattle.ga_explain.specs.Output.{meaning_of}
use Rattle.ga_messages.specs.Message.{written}
use Rattle.ga_messages.specs.Report.{Report}
use Rattle.ga_messages.specs.Shown.{shown_text}
use Rattle.ga_messages.specs.declared.message.Form.{Form}
use Rattle.ga_messages.specs.declared.message.Level.TheVariants.{Error}
use Rattle.ga_pack.specs.Model.Text.{Place}
use Rattle.ga_path.specs.declared.error.BootError.{BootError}
use Rattle.ga_path.specs.declared.error.BootError.TheVariants as boot
use Rattle.ga_input.specs.declared.fault.ServeError.{ServeError}
use Rattle.ga_input.specs.declared.fault.ServeError.TheVariants.{Replay, Shown, Words}
use Rattle.ga_input.specs.declared.fault.TextFault.{TextFault}
use Rattle.ga_input.specs.declared.fault.TextFault.TheVariants as of_text
use Rattle.ga_input.specs.declared.fault.WordsFault.{WordsFault}
use Rattle.ga_input.specs.declared.fault.WordsFault.TheVariants as words
use Rattle.ga_input.specs.Larger.{is_session}
use Rattle.ga_diagnostics.specs.Lines.{Origins}
use Rattle.ga_input.specs.Meaning.{head_meaning, words_meaning}
use Rattle.ga_diagnostics.specs.Message.{fault_message, report_at}
use Rattle.ga_input.specs.Text.{as_text}
use Rattle.ga_input.specs.TranscriptFault.{head_line, shown_head_fault}
use Rattle.ga_diagnostics.specs.WordPlace.{word_place}

-- where a fault is, what it is called, and what it means
pub record Placed : Type 0 where
  pub place : Place
  pub name : List ℕ
  pub meaning : List ℕ

abbrev pub at_word : List ℕ → WordsFault → ℕ → List ℕ → Option Placed
at_word text fault index name =
    Some (record { place = word_place text index; name = name; meaning = words_meaning fault })

-- A fault of words is at the word that is none, or at the first one that is too many. If there is
-- no word, it is at the end of the text.
abbrev pub placed_words : List ℕ → WordsFault → Option Placed
placed_words text (words.BadWord index) =
    at_word text (words.BadWord index) index (codes "BadWord")
placed_words text words.Empty = at_word text words.Empty 0 (codes "Empty")
placed_words text words.TooLong = at_word text words.TooLong 64 (codes "TooLong")
placed_words text words.BadCode = None

abbrev pub start_of : ℕ → Place
start_of line = record { line = line; column = 1 }

-- the name of a fault of a replay text, as `explain` has it
abbrev pub replay_name : ReplayError → List ℕ
replay_name replay.BadProfile = codes "BadProfile"
replay_name replay.BadRoute = codes "BadRoute"
replay_name replay.NoGo = codes "NoGo"
replay_name (replay.Source error) = codes "Source"
replay_name (replay.Asm error) = codes "Asm"
replay_name (replay.Route error) = codes "Route"
replay_name (replay.Tree error) = codes "Tree"
replay_name (replay.Boot error) = codes "Boot"
replay_name (replay.Bad line error) = fault_name error
replay_name (replay.Differs line) = codes "differs"
replay_name replay.Memory = codes "Memory"

abbrev pub at_line : List ℕ → ReplayError → Option Placed
at_line text error = Some (record {
  place = start_of (head_line text error);
  name = replay_name error;
  meaning = head_meaning text error;
})

-- A fault of a replay text or of a session's head is at the start of its line. One of the source
-- lines has a place of its own.
abbrev pub placed_replay : List ℕ → ReplayError → Option Placed
placed_replay text (replay.Source error) = None
placed_replay text (replay.Asm error) = None
placed_replay text error = at_line text error

abbrev pub early : ℕ → Option Placed
early line =
    let name = codes "EarlyReply" in
    Some (record { place = start_of line; name = name; meaning = meaning_of name })

-- where a fault of a session's head is, or of a reply that comes before its command
abbrev pub placed_head : List ℕ → TextFault → Option Placed
placed_head text (of_text.Replay error) = placed_replay text error
placed_head text (of_text.EarlyReply line) = early line
placed_head text fault = None

-- The same if the text itself is that session. If it only expands to it, the fault has no place:
-- its lines are those of the expansion.
abbrev pub placed_in_session : List ℕ → TextFault → Option Placed
placed_in_session text fault = if is_session text then placed_head text fault else None

-- where a fault is in a text, if it is one of words, of a replay text, or of the head of a session
-- that the text itself is
abbrev pub placed : List ℕ → ServeError → Option Placed
placed text (Words fault) = placed_words text fault
placed text (Replay error) = placed_replay text error
placed text (Shown fault shown) = placed_in_session text fault
placed text fault = None

-- the node that a fault is about: one without a route
abbrev pub boot_node : BootError → Option ℕ
boot_node (boot.Unreached node) = Some node
boot_node boot.Memory = None

abbrev pub replay_node : ReplayError → Option ℕ
replay_node (replay.Boot error) = boot_node error
replay_node error = None

abbrev pub node_of : ServeError → Option ℕ
node_of (Replay error) = replay_node error
node_of (Shown (of_text.Replay error) shown) = replay_node error
node_of fault = None

-- the report on a fault of a text whose lines were written there
abbrev pub report_on : Origins → List ℕ → Option ℕ → Placed → Report
report_on origins text node placed =
    let place = placed.place in
    report_at (origins place.line) place.column Error placed.name node
    (shown_text text place.line (Some place.column) placed.meaning)

-- one of the source lines of a replay text is reported as that of a session
abbrev pub other_message : Origins → Form → List ℕ → ServeError → Option (List ℕ)
other_message origins form text (Replay error) =
    fault_message origins form (shown_head_fault text error)
other_message origins form text fault = fault_message origins form fault

abbrev pub message_by : Origins → Form → List ℕ → ServeError → Option Placed → Option (List ℕ)
message_by origins form text fault (Some placed) =
    Some (written form (report_on origins text (node_of fault) placed))
message_by origins form text fault None = other_message origins form text fault

abbrev pub message_in : Origins → Form → ServeError → Option (List ℕ) → Option (List ℕ)
message_in origins form fault (Some text) =
    message_by origins form text fault (placed text fault)
message_in origins form fault None = fault_message origins form fault

-- the message of a fault: at its place in the input, if it has one there
abbrev pub placed_message : Origins → Form → List ℕ → ServeError → Option (List ℕ)
placed_message origins form input fault = message_in origins form fault (as_text input)
