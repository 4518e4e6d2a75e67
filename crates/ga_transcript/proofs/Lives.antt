-- A session that goes on: its text leads to its chip.
use Rattle.std.proofs.Common.{◌≡◌, ◌∙◌, inr, ℕ, suc, ◌+◌, ◌-◌, ◌<◌, Bool, true, false, List, [], ◌∷◌, ◌++◌, Option, Some, None, Ok, Err, ap, append-nil, append_assoc, arith, length, refl, subst, sym, take}
use Rattle.std.specs.Prelude.{◌==◌, codes, if◌then◌else◌}
use Rattle.std.specs.List.{onto_first, slice_split}
use Rattle.std.proofs.lemmas.List.Elements.{All-append, All-cons, All-head, All-nil, All-tail}
use Rattle.std.proofs.lemmas.List.Splits.{length-slice_split, slice_split-cons_no, slice_split-cons_yes, slice_split_none}
use Rattle.ga_asm.specs.Text.{AtMostOne}
use Rattle.ga_pack.specs.Model.Text.{lines_of}
use Rattle.ga_debug.specs.Beginning.{IsLoaded, Start}
use Rattle.ga_debug.specs.declared.replay_error.ReplayError.{ReplayError}
use Rattle.ga_debug.specs.declared.replay_error.ReplayError.TheVariants as replay
use Rattle.ga_debug.specs.ReplayError as head
use Rattle.ga_debug.proofs.OneReplay.{one_loaded}
use Rattle.ga_transcript.specs.declared.error.TranscriptError.{TranscriptError}
use Rattle.ga_transcript.specs.declared.error.TranscriptError.TheVariants as code
use Rattle.ga_transcript.specs.Check.{EarlyReply, FailsRightly, Fault, fault_of, unless_early}
use Rattle.ga_transcript.specs.Following.{Lines, Step, early_reply, recorded}
use Rattle.ga_transcript.specs.Line.{Kind, Command, Note, Reply, by_kind, kind_of}
use Rattle.ga_transcript.specs.Live.{IsBefore, IsOpened, LiveView, before_command, command_count, live_from, opened_from, said, state_behind}
use Rattle.ga_transcript.specs.Record.{IsRecorded, behind_ends, lines_text, recorded_from, recording_of, unless_too_long}
use Rattle.ga_transcript.specs.Reply.{program_of, step_from, step_of}
use Rattle.ga_transcript.proofs.Following.{at_command, at_note, at_reply, early_by}
use Rattle.ga_transcript.proofs.Fronts.{head_front, with_commands}
use Rattle.ga_transcript.proofs.Joined.{AreClean, IsClean, lines_of_text, split_clean}
use Rattle.ga_transcript.proofs.OneTranscript.{one_behind}
use Rattle.ga_transcript.proofs.Recordings.{clean_parts, not_early, not_too_long, take_front}
use Rattle.ga_transcript.proofs.Starting.{lines_text_append, recorded_by}

-- ---- one more line

onto_append : (c : ℕ) (parts more : Lines) → 0 < length parts
    → onto_first c (parts ++ more) ≡ onto_first c parts ++ more
onto_append c [] more some = absurd (omega (arith, some))
onto_append c (part ∷ parts) more some = refl

some_part : (text : List ℕ) → 0 < length (slice_split (λ c. c == 10) text)
some_part text = omega (arith, length-slice_split (λ c. c == 10) text)

split_by : (c : ℕ) (text more : List ℕ) (ends : Bool) → (c == 10) ≡ ends
    → slice_split (λ c. c == 10) (text ++ 10 ∷ more)
    ≡ slice_split (λ c. c == 10) text ++ slice_split (λ c. c == 10) more
    → slice_split (λ c. c == 10) (c ∷ (text ++ 10 ∷ more))
    ≡ slice_split (λ c. c == 10) (c ∷ text) ++ slice_split (λ c. c == 10) more
split_by c text more true e ih =
    slice_split-cons_yes (λ c. c == 10) c (text ++ 10 ∷ more) e
    ∙ ap (λ (ls : Lines). [] ∷ ls) ih
    ∙ sym (ap (λ (ls : Lines). ls ++ slice_split (λ c. c == 10) more)
    (slice_split-cons_yes (λ c. c == 10) c text e))
split_by c text more false e ih =
    slice_split-cons_no (λ c. c == 10) c (text ++ 10 ∷ more) e
    ∙ ap (onto_first c) ih
    ∙ onto_append c (slice_split (λ c. c == 10) text) (slice_split (λ c. c == 10) more)
    (some_part text)
    ∙ sym (ap (λ (ls : Lines). ls ++ slice_split (λ c. c == 10) more)
    (slice_split-cons_no (λ c. c == 10) c text e))

split_append : (text more : List ℕ) → slice_split (λ c. c == 10) (text ++ 10 ∷ more)
    ≡ slice_split (λ c. c == 10) text ++ slice_split (λ c. c == 10) more
split_append [] more = slice_split-cons_yes (λ c. c == 10) 10 more refl
split_append (c ∷ text) more = split_by c text more (c == 10) refl (split_append text more)

line_more : (text line : List ℕ) → IsClean line
    → lines_of (text ++ 10 ∷ line) ≡ lines_of text ++ line ∷ []
line_more text line clean =
    split_append text line
    ∙ ap (λ (ls : Lines). lines_of text ++ ls) (slice_split_none (λ c. c == 10) line clean)

-- ---- other lines behind a head

-- the lines up to `go`, of which there is a first one, and those behind it
record Cut (text : List ℕ) (start : Start) : Type 0 where
  pub first : List ℕ
  pub front : Lines
  pub is : lines_of text ≡ first ∷ (front ++ start.commands)
  pub size : length (first ∷ front) ≡ start.line
  pub loads : (other : List ℕ) (commands : Lines) → lines_of other ≡ first ∷ (front ++ commands)
      → IsLoaded other (Ok (record start { commands = commands }))

cut_of : (text : List ℕ) (start : Start) → IsLoaded text (Ok start) → Cut text start
cut_of text start (head, head_is, images, chip, line, commands) =
    let f = head_front text head head_is in
    record {
      first = f.first;
      front = f.front;
      is = f.is ∙ ap (λ (cs : Lines). f.first ∷ (f.front ++ cs)) commands;
      size = omega (arith, f.size, line);
      loads = λ other commands cut.
          (with_commands head commands, f.others other commands cut, images, chip, line, refl);
    }

-- the first lines of a text that is cut so
taken : (text : List ℕ) (start : Start) (cut : Cut text start) (other : List ℕ) (commands : Lines)
    → lines_of other ≡ cut.first ∷ (cut.front ++ commands)
    → take start.line (lines_of other) ≡ cut.first ∷ cut.front
taken text start cut other commands is =
    ap (take start.line) is ∙ take_front (cut.first ∷ cut.front) commands start.line cut.size

-- other lines behind the first ones, as text
pub front_more : (text : List ℕ) (start : Start) (more : Lines) → IsLoaded text (Ok start)
    → lines_text (take start.line (lines_of text) ++ more)
    ≡ lines_text (take start.line (lines_of text)) ++ behind_ends more
front_more text start more loaded =
    let cut = cut_of text start loaded in
    let first = taken text start cut text start.commands cut.is in
    ap (λ (ls : Lines). lines_text (ls ++ more)) first
    ∙ lines_text_append cut.first cut.front more
    ∙ sym (ap (λ (ls : Lines). lines_text ls ++ behind_ends more) first)

-- ---- one more command

kind_said : (command : List ℕ) → kind_of (codes "> " ++ command) ≡ Command command
unfolding kind_of
kind_said command = refl

behind_by : {S : Type 0} (step : Step S) (line : List ℕ) (lines more : Lines) (state : S)
    (kind : Kind) → kind_of line ≡ kind → ((state : S) → state_behind step state (lines ++ more)
    ≡ state_behind step (state_behind step state lines) more)
    → state_behind step state (line ∷ (lines ++ more))
    ≡ state_behind step (state_behind step state (line ∷ lines)) more
behind_by step line lines more state (Command command) e ih =
    rw (e) (ih (step command state).1)
behind_by step line lines more state Note e ih = rw (e) (ih state)
behind_by step line lines more state Reply e ih = rw (e) (ih state)

behind_append : {S : Type 0} (step : Step S) (lines more : Lines) (state : S)
    → state_behind step state (lines ++ more)
    ≡ state_behind step (state_behind step state lines) more
behind_append step [] more state = refl
behind_append step (line ∷ lines) more state =
    behind_by step line lines more state (kind_of line) refl (behind_append step lines more)

behind_said : {S : Type 0} (step : Step S) (command : List ℕ) (state : S)
    → state_behind step state ((codes "> " ++ command) ∷ []) ≡ (step command state).1
behind_said step command state = rw (kind_said command) refl

-- no reply comes before all commands
early_more_by : (line : List ℕ) (lines : Lines) (command : List ℕ) (number : ℕ) (kind : Kind)
    → kind_of line ≡ kind → ((number : ℕ) → early_reply number lines ≡ None
    → early_reply number (lines ++ (codes "> " ++ command) ∷ []) ≡ None)
    → early_reply number (line ∷ lines) ≡ None
    → early_reply number (line ∷ (lines ++ (codes "> " ++ command) ∷ [])) ≡ None
early_more_by line lines command number (Command c) e ih none = early_by number line _ (Command c) e
early_more_by line lines command number Note e ih none =
    early_by number line _ Note e ∙ ih (suc number) (sym (early_by number line lines Note e) ∙ none)
early_more_by line lines command number Reply e ih none =
    absurd (cc (sym (early_by number line lines Reply e) ∙ none))

early_more : (lines : Lines) (command : List ℕ) (number : ℕ) → early_reply number lines ≡ None
    → early_reply number (lines ++ (codes "> " ++ command) ∷ []) ≡ None
early_more [] command number none =
    early_by number (codes "> " ++ command) [] (Command command) (kind_said command)
early_more (line ∷ lines) command number none =
    early_more_by line lines command number (kind_of line) refl (early_more lines command) none

-- what opens a text
opened_parts : (found : Option ℕ) (made live : LiveView) → unless_early found (Ok made) ≡ Ok live
    → (found ≡ None) × (made ≡ live)
opened_parts None made live e = (refl, cc e)
opened_parts (Some line) made live e = absurd (cc e)

record Opened (text : List ℕ) (live : LiveView) : Type 0 where
  pub start : Start
  pub loaded : IsLoaded text (Ok start)
  pub none : early_reply (start.line + 1) start.commands ≡ None
  pub is : live_from text start ≡ live

parts_of : (text : List ℕ) (live : LiveView) → IsOpened text (Ok live) → Opened text live
parts_of text live (start, loaded, is) =
    let (none, same) =
    opened_parts (early_reply (start.line + 1) start.commands) (live_from text start) live is in
    record { start = start; loaded = loaded; none = none; is = same }

pub opened_by : (text : List ℕ) (start : Start) (live : LiveView) → IsLoaded text (Ok start)
    → early_reply (start.line + 1) start.commands ≡ None → live_from text start ≡ live
    → IsOpened text (Ok live)
opened_by text start live loaded none is = (
  start,
  loaded,
  ap (λ found. unless_early found (Ok (live_from text start))) none ∙ ap Ok is,
)

-- a reply before all commands
pub early_opened : (text : List ℕ) (start : Start) (line : ℕ) → IsLoaded text (Ok start)
    → early_reply (start.line + 1) start.commands ≡ Some line
    → IsOpened text (Err (EarlyReply line))
early_opened text start line loaded early =
    inr (start, loaded, ap (λ found. unless_early found (Ok (live_from text start))) early)

pub one_opened : (text : List ℕ) → AtMostOne (IsOpened text)
one_opened text = one_behind text (opened_from text)

-- the text of a session with one more command
abbrev text_said : List ℕ → List ℕ → List ℕ
text_said text command = text ++ 10 ∷ (codes "> " ++ command)

clean_said : (command : List ℕ) → IsClean command → IsClean (codes "> " ++ command)
clean_said command clean =
    All-cons (λ c. (c == 10) ≡ false) 62 (32 ∷ command) refl
    (All-cons (λ c. (c == 10) ≡ false) 32 command refl clean)

abbrev start_said : Start → List ℕ → Start
start_said start command =
    record start { commands = start.commands ++ (codes "> " ++ command) ∷ [] }

lines_said : (text command : List ℕ) (start : Start) (cut : Cut text start) → IsClean command
    → lines_of (text_said text command)
    ≡ cut.first ∷ (cut.front ++ (start.commands ++ (codes "> " ++ command) ∷ []))
lines_said text command start cut clean =
    line_more text (codes "> " ++ command) (clean_said command clean)
    ∙ ap (λ (ls : Lines). ls ++ (codes "> " ++ command) ∷ []) cut.is
    ∙ ap (λ (ls : Lines). cut.first ∷ ls)
    (append_assoc cut.front start.commands ((codes "> " ++ command) ∷ []))

loaded_said : (text command : List ℕ) (start : Start) → IsLoaded text (Ok start)
    → IsClean command → IsLoaded (text_said text command) (Ok (start_said start command))
loaded_said text command start loaded clean =
    let cut = cut_of text start loaded in
    cut.loads (text_said text command) (start.commands ++ (codes "> " ++ command) ∷ [])
    (lines_said text command start cut clean)

pub said_opened : (live : LiveView) (command : List ℕ) → IsOpened live.text (Ok live)
    → IsClean command → IsOpened (said command live).text (Ok (said command live))
said_opened live command opened clean =
    let o = parts_of live.text live opened in
    let step = step_from o.start in
    let behind : state_behind step o.start.chip
    (o.start.commands ++ (codes "> " ++ command) ∷ [])
    ≡ (step command (state_behind step o.start.chip o.start.commands)).1 =
    behind_append step o.start.commands ((codes "> " ++ command) ∷ []) o.start.chip
    ∙ behind_said step command (state_behind step o.start.chip o.start.commands) in
    opened_by (text_said live.text command) (start_said o.start command) (said command live)
    (loaded_said live.text command o.start o.loaded clean)
    (early_more o.start.commands command (o.start.line + 1) o.none)
    (ap (λ chip. record {
      text = text_said live.text command;
      program = program_of o.start;
      chip = chip;
    }) behind ∙ ap (said command) o.is)

-- ---- what is recorded of one more command

append_by : {S : Type 0} (step : Step S) (line : List ℕ) (lines more : Lines) (state : S)
    (kind : Kind) → kind_of line ≡ kind → ((state : S) → recorded step state (lines ++ more)
    ≡ recorded step state lines ++ recorded step (state_behind step state lines) more)
    → recorded step state (line ∷ (lines ++ more)) ≡ recorded step state (line ∷ lines)
    ++ recorded step (state_behind step state (line ∷ lines)) more
append_by step line lines more state (Command command) e ih =
    let said = step command state in
    let behind : state_behind step state (line ∷ lines) ≡ state_behind step said.1 lines =
    rw (e) refl in
    at_command step state line (lines ++ more) command e
    ∙ ap (λ (ls : Lines). line ∷ (said.0 ++ ls)) (ih said.1)
    ∙ ap (λ (ls : Lines). line ∷ ls)
    (sym (append_assoc said.0 (recorded step said.1 lines) (recorded step
    (state_behind step said.1 lines) more)))
    ∙ sym (ap (λ (ls : Lines). ls ++ recorded step (state_behind step said.1 lines) more)
    (at_command step state line lines command e))
    ∙ sym (ap (λ after. recorded step state (line ∷ lines) ++ recorded step after more) behind)
append_by step line lines more state Note e ih =
    let behind : state_behind step state (line ∷ lines) ≡ state_behind step state lines =
    rw (e) refl in
    at_note step state line (lines ++ more) e
    ∙ ap (λ (ls : Lines). line ∷ ls) (ih state)
    ∙ sym (ap (λ (ls : Lines). ls ++ recorded step (state_behind step state lines) more)
    (at_note step state line lines e))
    ∙ sym (ap (λ after. recorded step state (line ∷ lines) ++ recorded step after more) behind)
append_by step line lines more state Reply e ih =
    let behind : state_behind step state (line ∷ lines) ≡ state_behind step state lines =
    rw (e) refl in
    at_reply step state line (lines ++ more) e
    ∙ ih state
    ∙ sym (ap (λ (ls : Lines). ls ++ recorded step (state_behind step state lines) more)
    (at_reply step state line lines e))
    ∙ sym (ap (λ after. recorded step state (line ∷ lines) ++ recorded step after more) behind)

recorded_append : {S : Type 0} (step : Step S) (lines more : Lines) (state : S)
    → recorded step state (lines ++ more)
    ≡ recorded step state lines ++ recorded step (state_behind step state lines) more
recorded_append step [] more state = refl
recorded_append step (line ∷ lines) more state =
    append_by step line lines more state (kind_of line) refl (recorded_append step lines more)

recorded_said : {S : Type 0} (step : Step S) (command : List ℕ) (state : S)
    → recorded step state ((codes "> " ++ command) ∷ [])
    ≡ (codes "> " ++ command) ∷ (step command state).0
recorded_said step command state =
    at_command step state (codes "> " ++ command) [] command (kind_said command)
    ∙ ap (λ (ls : Lines). (codes "> " ++ command) ∷ ls) (append-nil (step command state).0)

-- a recording with one more command is the recording, and the command with its reply
whole_said : (live : LiveView) (command : List ℕ) (start : Start) → IsLoaded live.text (Ok start)
    → IsClean command → live_from live.text start ≡ live
    → recording_of (text_said live.text command) (start_said start command)
    ≡ recording_of live.text start
    ++ behind_ends ((codes "> " ++ command) ∷ (step_of live.program command live.chip).0)
whole_said live command start loaded clean is =
    let line = codes "> " ++ command in
    let step = step_from start in
    let cut = cut_of live.text start loaded in
    let end = state_behind step start.chip start.commands in
    let old = recorded step start.chip start.commands in
    let lines = lines_said live.text command start cut clean in
    let new : recorded step start.chip (start.commands ++ line ∷ [])
    ≡ old ++ line ∷ (step command end).0 =
    recorded_append step start.commands (line ∷ []) start.chip
    ∙ ap (λ (ls : Lines). old ++ ls) (recorded_said step command end) in
    ap (λ (ls : Lines). lines_text
    (ls ++ recorded step start.chip (start.commands ++ line ∷ [])))
    (taken live.text start cut (text_said live.text command) (start.commands ++ line ∷ []) lines)
    ∙ ap (λ (ls : Lines). lines_text (cut.first ∷ (cut.front ++ ls))) new
    ∙ ap (λ (ls : Lines). lines_text (cut.first ∷ ls))
    (sym (append_assoc cut.front old (line ∷ (step command end).0)))
    ∙ lines_text_append cut.first (cut.front ++ old) (line ∷ (step command end).0)
    ∙ sym (ap (λ (ls : Lines). lines_text (ls ++ old) ++ behind_ends (line ∷ (step command end).0))
    (taken live.text start cut live.text start.commands cut.is))
    ∙ ap (λ (v : LiveView). recording_of live.text start
    ++ behind_ends (line ∷ (step_of v.program command v.chip).0)) is

pub said_recorded : (live : LiveView) (command recording : List ℕ) → IsOpened live.text (Ok live)
    → IsClean command → IsRecorded live.text (Ok recording)
    → IsRecorded (said command live).text (unless_too_long (recording
    ++ behind_ends ((codes "> " ++ command) ∷ (step_of live.program command live.chip).0)))
unfolding recorded_from
said_recorded live command recording opened clean (start, loaded, is) =
    let o = parts_of live.text live opened in
    let same : start ≡ o.start =
    cc (one_loaded live.text (Ok start) (Ok o.start) loaded o.loaded) in
    let made : recording_of live.text o.start ≡ recording =
    not_too_long (recording_of live.text o.start) recording
    (not_early (early_reply (o.start.line + 1) o.start.commands) _ recording
    (sym (ap (recorded_from live.text) same) ∙ is)) in
    let text = text_said live.text command in
    let after = start_said o.start command in
    let replies = behind_ends
    ((codes "> " ++ command) ∷ (step_of live.program command live.chip).0) in
    recorded_by text after (unless_too_long (recording ++ replies))
    (loaded_said live.text command o.start o.loaded clean)
    (ap (λ found. unless_early found (unless_too_long (recording_of text after)))
    (early_more o.start.commands command (o.start.line + 1) o.none)
    ∙ ap unless_too_long (whole_said live command o.start o.loaded clean o.is)
    ∙ ap (λ t. unless_too_long (t ++ replies)) made)

-- ---- the lines before a command

before_at : (line : List ℕ) (lines : Lines) (number : ℕ) (kind : Kind) → kind_of line ≡ kind
    → before_command number (line ∷ lines)
    ≡ by_kind kind
    (λ command. if number == 0 then [] else line ∷ before_command (number - 1) lines)
    (line ∷ before_command number lines) (line ∷ before_command number lines)
before_at line lines number kind e = rw (e) refl

-- no reply comes before all commands there either
early_before_by : (line : List ℕ) (lines : Lines) (left number : ℕ) (kind : Kind) (none : Bool)
    → kind_of line ≡ kind → (left == 0) ≡ none → early_reply number (line ∷ lines) ≡ None
    → ((left number : ℕ) → early_reply number lines ≡ None
    → early_reply number (before_command left lines) ≡ None)
    → early_reply number (before_command left (line ∷ lines)) ≡ None
early_before_by line lines left number (Command command) true e is_zero early ih =
    ap (early_reply number) (before_at line lines left (Command command) e
    ∙ ap (λ b. if b then [] else line ∷ before_command (left - 1) lines) is_zero)
early_before_by line lines left number (Command command) false e is_zero early ih =
    ap (early_reply number) (before_at line lines left (Command command) e
    ∙ ap (λ b. if b then [] else line ∷ before_command (left - 1) lines) is_zero)
    ∙ early_by number line (before_command (left - 1) lines) (Command command) e
early_before_by line lines left number Note none e is_zero early ih =
    ap (early_reply number) (before_at line lines left Note e)
    ∙ early_by number line (before_command left lines) Note e
    ∙ ih left (suc number) (sym (early_by number line lines Note e) ∙ early)
early_before_by line lines left number Reply none e is_zero early ih =
    absurd (cc (sym (early_by number line lines Reply e) ∙ early))

early_before : (lines : Lines) (left number : ℕ) → early_reply number lines ≡ None
    → early_reply number (before_command left lines) ≡ None
early_before [] left number early = refl
early_before (line ∷ lines) left number early =
    early_before_by line lines left number (kind_of line) (left == 0) refl refl early
    (early_before lines)

-- and no LF is in one
clean_before_by : (line : List ℕ) (lines : Lines) (left : ℕ) (kind : Kind) (none : Bool)
    → kind_of line ≡ kind → (left == 0) ≡ none → AreClean (line ∷ lines)
    → ((left : ℕ) → AreClean (before_command left lines))
    → AreClean (before_command left (line ∷ lines))
clean_before_by line lines left (Command command) true e is_zero clean ih =
    subst AreClean (sym (before_at line lines left (Command command) e
    ∙ ap (λ b. if b then [] else line ∷ before_command (left - 1) lines) is_zero)) (All-nil IsClean)
clean_before_by line lines left (Command command) false e is_zero clean ih =
    subst AreClean (sym (before_at line lines left (Command command) e
    ∙ ap (λ b. if b then [] else line ∷ before_command (left - 1) lines) is_zero))
    (All-cons IsClean line (before_command (left - 1) lines) (All-head IsClean line lines clean)
    (ih (left - 1)))
clean_before_by line lines left Note none e is_zero clean ih =
    subst AreClean (sym (before_at line lines left Note e))
    (All-cons IsClean line (before_command left lines) (All-head IsClean line lines clean)
    (ih left))
clean_before_by line lines left Reply none e is_zero clean ih =
    subst AreClean (sym (before_at line lines left Reply e))
    (All-cons IsClean line (before_command left lines) (All-head IsClean line lines clean)
    (ih left))

clean_before : (lines : Lines) → AreClean lines → (left : ℕ) → AreClean (before_command left lines)
clean_before [] clean left = All-nil IsClean
clean_before (line ∷ lines) clean left =
    clean_before_by line lines left (kind_of line) (left == 0) refl refl clean
    (clean_before lines (All-tail IsClean line lines clean))

-- what is left of a session opens again
pub before_opens : (count : ℕ) (text before : List ℕ) (live : LiveView)
    → IsOpened text (Ok live) → IsBefore count text before
    → (new : LiveView) × IsOpened before (Ok new)
before_opens count text before live opened (start, loaded, is) =
    let o = parts_of text live opened in
    let same : o.start ≡ start =
    cc (one_loaded text (Ok o.start) (Ok start) o.loaded loaded) in
    let none : early_reply (start.line + 1) start.commands ≡ None =
    sym (ap (λ (s : Start). early_reply (s.line + 1) s.commands) same) ∙ o.none in
    let left = command_count start.commands - count in
    let kept = before_command left start.commands in
    let cut = cut_of text start loaded in
    let parts = clean_parts (cut.first ∷ cut.front) start.commands
    (subst AreClean cut.is (split_clean text)) in
    let lines : lines_of before ≡ cut.first ∷ (cut.front ++ kept) =
    ap lines_of (is ∙ ap (λ (ls : Lines). lines_text (ls ++ kept))
    (taken text start cut text start.commands cut.is))
    ∙ lines_of_text cut.first (cut.front ++ kept)
    (All-head IsClean cut.first cut.front parts.0)
    (All-append IsClean cut.front kept (All-tail IsClean cut.first cut.front parts.0)
    (clean_before start.commands parts.1 left)) in
    let after = record start { commands = kept } in (
      live_from before after,
      opened_by before after (live_from before after) (cut.loads before kept lines)
          (early_before start.commands left (start.line + 1) none) refl,
    )

-- so its text has no fault
pub before_right : (count : ℕ) (text before : List ℕ) (live : LiveView) (fault : Fault)
    → IsOpened text (Ok live) → IsBefore count text before → IsOpened before (Err fault) → ⊥
before_right count text before live fault opened is fails =
    let (new, right) = before_opens count text before live opened is in
    absurd (cc (one_opened before (Ok new) (Err fault) right fails))

-- nor has its head
pub head_right : (text : List ℕ) (live : LiveView) (error : ReplayError)
    → IsOpened text (Ok live) → IsLoaded text (Err error) → ⊥
head_right text live error opened fails =
    let o = parts_of text live opened in
    absurd (cc (one_loaded text (Ok o.start) (Err error) o.loaded fails))

-- what is handed on of such faults
pub head_fault : (text : List ℕ) (live : LiveView) (error : ReplayError)
    → (error ≡ replay.Memory → ⊥) → IsOpened text (Ok live)
    → head.FailsRightly (IsLoaded text) error → ⊥
head_fault text live replay.Memory not opened fails = not refl
head_fault text live error not opened fails = head_right text live error opened fails

pub session_fault : (count : ℕ) (text before : List ℕ) (live : LiveView) (error : TranscriptError)
    → (error ≡ code.Memory → ⊥) → IsOpened text (Ok live) → IsBefore count text before
    → FailsRightly (IsOpened before) (fault_of error) → ⊥
session_fault count text before live code.Memory not opened is fails = not refl
session_fault count text before live error not opened is fails =
    before_right count text before live (fault_of error) opened is fails
