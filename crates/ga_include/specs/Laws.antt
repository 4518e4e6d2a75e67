-- Texts without include lines, the origins of lines, and the files that are wanted.
use Rattle.std.specs.Prelude.{◌≡◌, ◌<◌, ◌≤◌, ℕ, ◌+◌, false, List, [], ◌∷◌, None, Ok, length, string_bytes}
use Rattle.std.specs.List.{list_any}
use Rattle.ga_pack.specs.Model.Text.{lines_of}
use Rattle.ga_include.specs.declared.error.IncludeError.{IncludeError}
use Rattle.ga_include.specs.declared.error.IncludeError.TheVariants.{Wanted}
use Rattle.ga_include.specs.declared.file.LineOrigin.{LineOrigin}
use Rattle.ga_include.specs.File.{File, index_of, text_at}
use Rattle.ga_include.specs.IncludeLine.{is_include}
use Rattle.ga_include.specs.Including.{Whole, included, most_files, most_text}

-- the origins of lines of a file, of which the first has a number
abbrev pub origins_from : ℕ → ℕ → List (List ℕ) → List LineOrigin
origins_from file number [] = []
origins_from file number (line ∷ lines) =
    record { file = file; line = number } ∷ origins_from file (number + 1) lines

-- a text without include lines stands for itself, if it isn't too long
abbrev pub PlainStays : List File → Type 0
PlainStays files =
    let text = text_at files 0 in
    list_any is_include (lines_of text) ≡ false → length text ≤ most_text
    → included files ≡ Ok (record { text = text; lines = origins_from 0 1 (lines_of text) })

-- each line of a text has its origin
abbrev pub LinesHaveOrigins : Whole → Type 0
LinesHaveOrigins whole = length whole.lines ≡ length (lines_of whole.text)

-- a file that is wanted isn't among the files, of which there may be one more
abbrev pub IsAbsent : List File → List ℕ → Type 0
IsAbsent files name = (index_of files name ≡ None) × (length files < most_files)

abbrev pub WantsAbsent : List File → IncludeError → Type 0
WantsAbsent files (Wanted place name) = IsAbsent files (string_bytes name)
WantsAbsent files error = Unit {0}
