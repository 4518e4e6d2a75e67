-- Transcripts whose head names its source: the whole text, and the way back to the file's lines.
use Rattle.std.specs.Prelude.{◌≡◌, ◌≤◌, ◌⊎◌, ◌<◌, ◌==◌, ℕ, ◌+◌, ◌-◌, ◌*◌, ◌%◌, ◌^◌, List, [], ◌∷◌, ◌++◌, IfSome, Option, Some, option_map, Result, Ok, Err, codes, drop, fold, length, map, nat_eq, take, if◌then◌else◌}
use Rattle.std.specs.Fmt.{decimal}
use Rattle.std.specs.List.{after_first, before_first, flat_map, starts_with}
use Rattle.ga_asm.specs.Text.{IsImagesOf}
use Rattle.ga_pack.specs.Model.Text.{lines_of}
use Rattle.ga_path.specs.Stream.{Images}
use Rattle.ga_debug.specs.Pieces.{pieces}
use Rattle.ga_debug.specs.Session.{without_line_end}
use Rattle.ga_transcript.specs.Record.{lines_text}
use Rattle.ga_input.specs.declared.fault.ServeError.{ServeError}
use Rattle.ga_input.specs.declared.fault.OutputFault.TheVariants as OutputFault
use Rattle.ga_input.specs.declared.fault.ServeError.TheVariants.{Input, Output, Shown}
use Rattle.ga_input.specs.declared.fault.InputFault.TheVariants.{TooLong}
use Rattle.ga_input.specs.declared.fault.TextFault.{TextFault}
use Rattle.ga_input.specs.declared.fault.TextFault.TheVariants.{Differs, EarlyReply, Failed}
use Rattle.ga_input.specs.Session.{ended_lines}
use Rattle.ga_messages.specs.Shown.{whole_line}
use Rattle.ga_replays.specs.SourceName.{fault_in_source}
use Rattle.ga_input.specs.Text.{IsInText, text_in}
use Rattle.ga_input.specs.TextFault.{shown_fault}
use Rattle.ga_replays.specs.Transcript.{IsReplacement}

-- A text with these lines in the place of as many as a count says, from the third line on.
unfoldable pub with_lines : List ℕ → ℕ → List (List ℕ) → List ℕ
with_lines text count lines =
    flat_map (λ line. line ++ 10 ∷ []) (take 2 (lines_of text)) ++ ended_lines lines
    ++ lines_text (drop (2 + count) (lines_of text))

-- the lines of a source text, as a head has them
abbrev pub source_lines : List ℕ → List (List ℕ)
source_lines source = pieces 10 (without_line_end source)

-- What is known of a transcript whose head names its source.
pub record SourcedView : Type 0 where
  -- the line that names the source
  pub line : List ℕ
  -- how many lines the source has
  pub count : ℕ
  -- the transcript with these lines in the place of that one
  pub whole : List ℕ

-- by the text of the file, and by the source
abbrev pub sourced_by : List ℕ → List ℕ → SourcedView
sourced_by text source = record {
  line = whole_line text 3;
  count = length (source_lines source);
  whole = with_lines text 1 (source_lines source);
}

-- the text of an input that is source text and has images, or its first fault as it is shown
abbrev pub IsFaultless : List ℕ → Result (List ℕ) ServeError → Type 0
IsFaultless source (Ok text) =
    (text_in source ≡ Ok text) × ((images : Images) × IsImagesOf text (Ok images))
IsFaultless source (Err fault) = IsInText shown_fault IsImagesOf source (Err fault)

-- The transcript of a text that names a source, unless together they have more bytes than an input
-- may.
abbrev pub IsJoined : List ℕ → List ℕ → Result SourcedView ServeError → Type 0
IsJoined text source (Ok sourced) =
    (sourced ≡ sourced_by text source) × (length sourced.whole ≤ 1048576)
IsJoined text source (Err fault) =
    (fault ≡ Input TooLong) × (1048576 < length (sourced_by text source).whole)

-- The transcript of a text that names a source, which comes from a file of this name and is
-- assembled before all else; or the fault of the source; or they are too long.
abbrev pub IsSourced : List ℕ → List ℕ → List ℕ → Result SourcedView ServeError → Type 0
IsSourced text name input (Ok sourced) =
    (source : List ℕ) × IsFaultless input (Ok source) × IsJoined text source (Ok sourced)
IsSourced text name input (Err fault) =
    ((found : ServeError) × IsFaultless input (Err found) × (fault_in_source name found ≡ fault))
    ⊎ ((source : List ℕ) × IsFaultless input (Ok source) × IsJoined text source (Err fault))

-- the line of the file for a line of the whole text behind its source
abbrev pub line_in_file : ℕ → ℕ → ℕ
line_in_file count line = line - (count - 1)

-- a fault of the whole text, by the lines of the file
abbrev pub text_fault_in_file : ℕ → TextFault → TextFault
text_fault_in_file count (EarlyReply line) = EarlyReply (line_in_file count line)
text_fault_in_file count (Differs line) = Differs (line_in_file count line)
text_fault_in_file count (Failed unmet) =
    Failed (record unmet { first = line_in_file count unmet.first })
text_fault_in_file count fault = fault

abbrev pub fault_in_file : ℕ → ServeError → ServeError
fault_in_file count (Shown fault shown) = Shown (text_fault_in_file count fault) shown
fault_in_file count fault = fault

-- a recording of the whole text, as that of the file: it names its source
abbrev pub recording_in_file : SourcedView → List ℕ → List ℕ
recording_in_file sourced recording =
    with_lines recording sourced.count (pieces 10 sourced.line)

-- the answer for a file is a right one for the whole text, seen through the way back
abbrev pub IsInFile : {A B : Type 0} → SourcedView → (A → B) → (Result A ServeError → Type 0)
    → Result B ServeError → Type 0
IsInFile {A = A} sourced back IsRight (Ok value) =
    (found : A) × IsRight (Ok found) × (back found ≡ value)
IsInFile sourced back IsRight (Err fault) =
    (found : ServeError) × IsRight (Err found) × (fault_in_file sourced.count found ≡ fault)

-- what replaces the file; its recording may have too many bytes, too, since it has a name in the
-- place of the source
abbrev pub IsReplacementInFile : SourcedView → Result (Option (List ℕ)) ServeError → Type 0
IsReplacementInFile sourced (Ok text) =
    IsInFile sourced (option_map (recording_in_file sourced)) (IsReplacement sourced.whole)
    (Ok text) × IfSome text (λ text. length text ≤ 1048576)
IsReplacementInFile sourced (Err fault) =
    IsInFile sourced (option_map (recording_in_file sourced)) (IsReplacement sourced.whole)
    (Err fault)
    ⊎ ((recording : List ℕ) × IsReplacement sourced.whole (Ok (Some recording))
    × (fault ≡ Output OutputFault.TooLong)
    × (1048576 < length (recording_in_file sourced recording)))

-- the number that decimal digits write; one of 2 ^ 64 or more wraps
abbrev pub number_of : List ℕ → ℕ
number_of digits =
    fold (λ number digit. ((number * 10) % 2 ^ 64 + (digit - 48)) % 2 ^ 64) 0 digits

-- what is behind the `:` of `:LINE:` and more, with the name of the file, and its line
abbrev pub named_line : ℕ → List ℕ → List ℕ → List ℕ
named_line count name behind =
    name ++ codes ":"
    ++ decimal (line_in_file count (number_of (before_first (λ c. c == 58) behind))) ++ codes ":"
    ++ after_first (λ c. c == 58) behind

-- A line of the report on the whole text, in a file without a name. If it names a line, it is
-- `:LINE:` and more; else it shows a reply, behind a sign or blanks.
abbrev pub line_of_report : ℕ → List ℕ → List ℕ → List ℕ
line_of_report count name line =
    if starts_with nat_eq line (codes ":") then named_line count name (drop 1 line) else line

-- a report on the whole text, in a file without a name, as that on the file with a name
unfoldable pub report_in_file : ℕ → List ℕ → List ℕ → List ℕ
report_in_file count name report = lines_text (map (line_of_report count name) (lines_of report))
