-- What `check` of several files reports of one of them.
use Rattle.std.specs.Prelude.{◌≡◌, ◌⊎◌, ◌==◌, ℕ, List, [], ◌++◌, codes, false, string_bytes, Result, Ok, Err, if◌then◌else◌}
use Rattle.std.specs.Fmt.{decimal}
use Rattle.ga_transcript.specs.Compare.{IsComparedIfMet, View}
use Rattle.ga_input.specs.declared.fault.ServeError.{ServeError}
use Rattle.ga_replays.specs.declared.file_report.FileReport.{FileReport}
use Rattle.ga_messages.specs.Shown.{shown_lines, shown_name}
use Rattle.ga_replays.specs.Sourced.{SourcedView, report_in_file}
use Rattle.ga_input.specs.Text.{IsInText}
use Rattle.ga_input.specs.TranscriptFault.{shown_transcript_fault}

-- what is found of all commands of an input in a file of this name, or the input's first fault
abbrev pub IsComparedIn : List ℕ → List ℕ → Result View ServeError → Type 0
IsComparedIn name input answer = IsInText shown_transcript_fault (IsComparedIfMet name) input answer

-- a line with the number of commands, if none differs; or the report on those that differ, and how
-- many they are
abbrev pub found_text : List ℕ → View → List ℕ
found_text name found =
    if found.differences == 0 then name ++ codes ": same " ++ decimal found.commands ++ codes "\n"
    else shown_lines found.report ++ name ++ codes ": " ++ decimal found.differences ++ codes " of "
    ++ decimal found.commands ++ codes " differ\n"

-- a line with the name of a file and its fault; nothing is promised of the fault's text
abbrev pub IsRefused : List ℕ → FileReport → Type 0
IsRefused name report =
    (report.passes ≡ false) × ((fault : List ℕ)
    × (string_bytes report.text ≡ shown_name name ++ codes ": " ++ fault ++ codes "\n"))

-- The report on a file of this name with these bytes: on what is found of its commands, and it
-- passes if none differs; or on the first fault. The report is never refused.
abbrev pub IsFileReport : List ℕ → List ℕ → Result FileReport ServeError → Type 0
IsFileReport name input (Ok report) =
    ((found : View) × IsComparedIn (shown_name name) input (Ok found)
    × (string_bytes report.text ≡ found_text (shown_name name) found)
    × (report.passes ≡ (found.differences == 0)))
    ⊎ ((fault : ServeError) × IsComparedIn (shown_name name) input (Err fault)
    × IsRefused name report)
IsFileReport name input (Err fault) = ⊥

-- The same for a file whose head names its source: the comparison of the whole text, with the name
-- and the lines of the file.
abbrev pub IsSourcedReport : List ℕ → SourcedView → Result FileReport ServeError → Type 0
IsSourcedReport name sourced (Ok report) =
    ((found : View) × IsComparedIn [] sourced.whole (Ok found)
    × (string_bytes report.text
    ≡ found_text (shown_name name)
    (record found { report = report_in_file sourced.count (shown_name name) found.report }))
    × (report.passes ≡ (found.differences == 0)))
    ⊎ ((fault : ServeError) × IsComparedIn [] sourced.whole (Err fault) × IsRefused name report)
IsSourcedReport name sourced (Err fault) = ⊥
