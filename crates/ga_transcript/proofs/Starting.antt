-- The result of the lines behind a head is the result of the text.
use Rattle.std.proofs.Common.{◌≡◌, ◌∙◌, inr, ℕ, ◌+◌, ◌<◌, List, ◌∷◌, ◌++◌, Some, None, Result, Ok, Err, ap, append_assoc, arith, length, subst, sym, take}
use Rattle.std.specs.Result.{IsErrAnd}
use Rattle.std.proofs.lemmas.Grind.{flat_map-append}
use Rattle.ga_pack.specs.Model.Text.{lines_of}
use Rattle.ga_debug.specs.Beginning.{IsLoaded, Start}
use Rattle.ga_transcript.specs.declared.error.TranscriptError.{TranscriptError}
use Rattle.ga_transcript.specs.Check.{Answers, EarlyReply, FailsRightly, Fault, Memory, IsChecked, checked_by, checked_from, fault_of, unless_early}
use Rattle.ga_transcript.specs.Following.{Lines, checked, early_reply, recorded}
use Rattle.ga_transcript.specs.Record.{IsRecorded, behind_ends, lines_text, recorded_from, recording_of, unless_too_long}
use Rattle.ga_transcript.specs.Reply.{step_from}
use Rattle.ga_transcript.proofs.Fronts.{head_front}
use Rattle.ga_transcript.proofs.Recordings.{take_front}

-- a reply before all commands
pub early_checked : (start : Start) (line : ℕ)
    → early_reply (start.line + 1) start.commands ≡ Some line
    → checked_from start ≡ Err (EarlyReply line)
unfolding checked_from
early_checked start line early =
    ap (λ found. unless_early found
    (checked_by (checked (step_from start) (start.line + 1) 0 start.chip start.commands)))
    early

pub early_recorded : (text : List ℕ) (start : Start) (line : ℕ)
    → early_reply (start.line + 1) start.commands ≡ Some line
    → recorded_from text start ≡ Err (EarlyReply line)
unfolding recorded_from
early_recorded text start line early =
    ap (λ found. unless_early found (unless_too_long (recording_of text start))) early

-- what is right of a fault may be said in other words
pub fails : {A B : Type 0} (IsRight : Result A Fault → Type 0) (IsAlso : Result B Fault → Type 0)
    (fault : Fault) → ((fault : Fault) → IsRight (Err fault) → IsAlso (Err fault))
    → FailsRightly IsRight fault → FailsRightly IsAlso fault
fails IsRight IsAlso Memory also is = tt
fails IsRight IsAlso fault also is = also fault is

-- what is checked of the lines
pub checked_behind : (text : List ℕ) (start : Start) (result : Result ℕ TranscriptError)
    → IsLoaded text (Ok start) → early_reply (start.line + 1) start.commands ≡ None
    → Answers (λ count. count) (λ answer. checked_by
    (checked (step_from start) (start.line + 1) 0 start.chip start.commands) ≡ answer) result
    → Answers (λ count. count) (IsChecked text) result
unfolding checked_from
checked_behind text start (Ok count) loaded none is = (
  start,
  loaded,
  ap (λ found. unless_early found (checked_by
      (checked (step_from start) (start.line + 1) 0 start.chip start.commands))) none ∙ is,
)
checked_behind text start (Err error) loaded none is =
    let whole =
    checked_by (checked (step_from start) (start.line + 1) 0 start.chip start.commands) in
    fails (λ answer. whole ≡ answer) (IsChecked text) (fault_of error)
    (λ fault same. inr (start, loaded, ap (λ found. unless_early found whole) none ∙ same)) is

-- the line `go` has a number that isn't 0
pub go_line : (text : List ℕ) (start : Start) → IsLoaded text (Ok start) → 0 < start.line
go_line text start (head, is, images, chip, line, commands) =
    let f = head_front text head is in omega (arith, f.size, line)

-- what is recorded of the lines
pub lines_text_append : (line : List ℕ) (lines more : Lines)
    → lines_text ((line ∷ lines) ++ more) ≡ lines_text (line ∷ lines) ++ behind_ends more
lines_text_append line lines more =
    ap (λ t. line ++ t) (flat_map-append (λ (l : List ℕ). 10 ∷ l) lines more)
    ∙ sym (append_assoc line (behind_ends lines) (behind_ends more))

abbrev behind_go : Start → List ℕ
behind_go start = behind_ends (recorded (step_from start) start.chip start.commands)

abbrev IsFront : List ℕ → Start → List ℕ → Type 0
IsFront text start front = front ≡ lines_text (take start.line (lines_of text))

-- the front, with what is recorded of the lines behind it, is the whole recording
recording_made : (text : List ℕ) (start : Start) (front : List ℕ) → IsLoaded text (Ok start)
    → IsFront text start front → recording_of text start ≡ front ++ behind_go start
recording_made text start front (head, is, images, chip, line, commands) front_is =
    let f = head_front text head is in
    let first = f.first ∷ f.front in
    let rec = recorded (step_from start) start.chip start.commands in
    let lines : lines_of text ≡ first ++ start.commands =
    f.is ∙ ap (λ (cs : Lines). f.first ∷ (f.front ++ cs)) commands in
    let size : length first ≡ start.line = omega (arith, f.size, line) in
    let taken : take start.line (lines_of text) ≡ first =
    ap (take start.line) lines ∙ take_front first start.commands start.line size in
    ap (λ (ls : Lines). lines_text (ls ++ rec)) taken ∙ lines_text_append f.first f.front rec
    ∙ sym (ap (λ (ls : Lines). lines_text ls ++ behind_ends rec) taken)
    ∙ sym (ap (λ t. t ++ behind_ends rec) front_is)

-- the result of the lines behind a head is the result of the text
pub recorded_by : (text : List ℕ) (start : Start) (answer : Result (List ℕ) Fault)
    → IsLoaded text (Ok start) → recorded_from text start ≡ answer → IsRecorded text answer
recorded_by text start (Ok recording) loaded is = (start, loaded, is)
recorded_by text start (Err fault) loaded is = inr (start, loaded, is)

pub recorded_whole : (text : List ℕ) (start : Start) (front : List ℕ)
    (answer : Result (List ℕ) Fault) → IsLoaded text (Ok start)
    → early_reply (start.line + 1) start.commands ≡ None → IsFront text start front
    → unless_too_long (front ++ behind_go start) ≡ answer → IsRecorded text answer
unfolding recorded_from
recorded_whole text start front answer loaded none front_is is =
    recorded_by text start answer loaded
    (ap (λ found. unless_early found (unless_too_long (recording_of text start))) none
    ∙ ap unless_too_long (recording_made text start front loaded front_is) ∙ is)

-- a fault of these lines that is handed on
pub recorded_fails : {A : Type 0} (view : A → List ℕ) (text : List ℕ) (start : Start)
    (front : List ℕ) (result : Result A TranscriptError) (error : TranscriptError)
    → IsErrAnd result (λ e. e ≡ error) → IsLoaded text (Ok start)
    → early_reply (start.line + 1) start.commands ≡ None → IsFront text start front
    → FailsRightly (λ answer. unless_too_long (front ++ behind_go start) ≡ answer) (fault_of error)
    → Answers view (IsRecorded text) result
recorded_fails view text start front (Ok value) error handed loaded none front_is is = absurd handed
recorded_fails view text start front (Err e) error handed loaded none front_is is =
    let fails_so =
    fails (λ answer. unless_too_long (front ++ behind_go start) ≡ answer) (IsRecorded text)
    (fault_of error)
    (λ fault same. recorded_whole text start front (Err fault) loaded none front_is same) is in
    let Fails = λ (e : TranscriptError). FailsRightly (IsRecorded text) (fault_of e) in
    subst Fails (sym handed) fails_so
