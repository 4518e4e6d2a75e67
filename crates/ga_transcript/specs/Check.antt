-- Whether the replies of a transcript are those that come.
use Rattle.std.specs.Prelude.{◌≡◌, ◌⊎◌, ℕ, ◌+◌, Bool, true, List, [], ◌∷◌, ◌++◌, Option, Some, None, Result, Ok, Err}
use Rattle.std.specs.List.{flat_map}
use Rattle.std.specs.String.{string_bytes}
use Rattle.ga_debug.specs.Beginning.{IsLoaded, Start}
use Rattle.ga_debug.specs.Session.{without_line_end}
use Rattle.ga_debug.specs.declared.replay_error.ReplayError.{ReplayError}
use Rattle.ga_transcript.specs.declared.error.TranscriptError.{TranscriptError}
use Rattle.ga_transcript.specs.declared.error.TranscriptError.TheVariants as error
use Rattle.ga_transcript.specs.Following.{Difference, Lines, checked, early_reply}
use Rattle.ga_transcript.specs.Reply.{step_from}
use Rattle.ga_transcript.specs.declared.unmet.Unmet.{Unmet}
use Rattle.ga_transcript.specs.Unmet.{unmet_in, unmet_of}

-- What is wrong with a transcript.
pub data Fault : Type 0 where
  -- with its head
  Head : ReplayError → Fault
  -- a line of a reply comes before all commands; this is its number
  EarlyReply : ℕ → Fault
  -- a command replies something else: the number of its line, and the expected and the actual
  -- lines, as text
  Differs : ℕ → List ℕ → Fault
  -- all replies are as they stand there, but some are replies to expectations that aren't met
  Failed : Unmet → Fault
  -- of what would be recorded: it has more bytes than a recording may have
  TooLong : Fault
  -- out of memory, which no text has by itself
  Memory : Fault

abbrev pub fault_of : TranscriptError → Fault
fault_of (error.Head fault) = Head fault
fault_of (error.EarlyReply line) = EarlyReply line
fault_of (error.Differs line lines) = Differs line (string_bytes lines)
fault_of (error.Failed found) = Failed found
fault_of error.TooLong = TooLong
fault_of error.Memory = Memory

-- lines, each behind a sign and ended by LF
abbrev pub signed : ℕ → Lines → List ℕ
signed sign lines = flat_map (λ line. sign ∷ (line ++ 10 ∷ [])) lines

-- the result; a difference has the expected lines behind `-` and the actual ones behind `+`,
-- without the last LF
abbrev pub checked_by : Result ℕ Difference → Result ℕ Fault
checked_by (Ok count) = Ok count
checked_by (Err difference) =
    Err (Differs difference.line
    (without_line_end (signed 45 difference.wanted ++ signed 43 difference.came)))

abbrev pub unless_early : {A : Type 0} → Option ℕ → Result A Fault → Result A Fault
unless_early (Some line) result = Err (EarlyReply line)
unless_early None result = result

-- the result of the lines behind a head
unfoldable pub checked_from : Start → Result ℕ Fault
checked_from start =
    let first = start.line + 1 in
    unless_early (early_reply first start.commands)
    (checked_by (checked (step_from start) first 0 start.chip start.commands))

-- a value made by `from` of the start that a head gives, or the first fault
abbrev pub IsBehindHead : {A : Type 0} → List ℕ → (Start → Result A Fault) → Result A Fault → Type 0
IsBehindHead text from (Ok value) =
    (start : Start) × IsLoaded text (Ok start) × (from start ≡ Ok value)
IsBehindHead text from (Err fault) =
    ((error : ReplayError) × IsLoaded text (Err error) × (fault ≡ Head error))
    ⊎ ((start : Start) × IsLoaded text (Ok start) × (from start ≡ Err fault))

-- How many commands a transcript has, if each has the reply behind it; or the first fault: of its
-- head, or else a reply before all commands, or else the first difference.
abbrev pub IsChecked : List ℕ → Result ℕ Fault → Type 0
IsChecked text answer = IsBehindHead text checked_from answer

-- What is right by `IsRight`; but a value that passes is none if expectations of the transcript
-- aren't met: that is the fault then.
abbrev pub IfMet : {A : Type 0} → List ℕ → (A → Bool) → (Result A Fault → Type 0) → Result A Fault
    → Type 0
IfMet text passes IsRight (Ok value) =
    IsRight (Ok value) × (passes value ≡ true → unmet_of (unmet_in text) ≡ None)
IfMet {A = A} text passes IsRight (Err fault) =
    IsRight (Err fault)
    ⊎ ((value : A) × (found : Unmet) × IsRight (Ok value) × (passes value ≡ true)
    × (unmet_of (unmet_in text) ≡ Some found) × (fault ≡ Failed found))

-- How many commands a transcript has, if each has the reply behind it and all expectations are met;
-- or the first fault.
abbrev pub IsPassed : List ℕ → Result ℕ Fault → Type 0
IsPassed text answer = IfMet text (λ count. true) (IsChecked text) answer

-- What a function answers is right, a value seen through a view, unless memory ran out.
abbrev pub FailsRightly : {B : Type 0} → (Result B Fault → Type 0) → Fault → Type 0
FailsRightly IsRight Memory = Unit {0}
FailsRightly IsRight fault = IsRight (Err fault)

abbrev pub Answers : {A B : Type 0} → (A → B) → (Result B Fault → Type 0) → Result A TranscriptError
    → Type 0
Answers view IsRight (Ok value) = IsRight (Ok (view value))
Answers view IsRight (Err error) = FailsRightly IsRight (fault_of error)
