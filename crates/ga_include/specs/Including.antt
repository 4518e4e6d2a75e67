-- The text that a file stands for, with the files that it includes.
use Rattle.std.specs.Prelude.{◌==◌, ◌&&◌, ℕ, zero, suc, ◌+◌, ◌-◌, List, [], ◌∷◌, ◌++◌, Option, Some, None, Result, Ok, Err, length, nat_le, nat_lt, slice_get, string_bytes, if◌then◌else◌}
use Rattle.std.specs.List.{list_any}
use Rattle.ga_word.specs.Text.{is_empty}
use Rattle.ga_pack.specs.Model.Text.{lines_of}
use Rattle.ga_include.specs.declared.error.IncludeFaultKind.{IncludeFaultKind}
use Rattle.ga_include.specs.declared.error.IncludeFaultKind.TheVariants.{BadInclude, IncludeCycle, IncludeDepth, IncludeSize, IncludeCount}
use Rattle.ga_include.specs.declared.error.IncludePlace.{IncludePlace}
use Rattle.ga_include.specs.declared.file.LineOrigin.{LineOrigin}
use Rattle.ga_include.specs.declared.including.Included as written
use Rattle.ga_include.specs.Error.{Faulty, Missing, Trouble}
use Rattle.ga_include.specs.File.{File, index_of, name_at, text_at}
use Rattle.ga_include.specs.IncludeLine.{column_of, is_include, name_in}
use Rattle.ga_include.specs.Path.{source_path}

-- a line, with the LF at its end if it has one, and where it was written
pub record Line : Type 0 where
  pub text : List ℕ
  pub origin : LineOrigin

-- What a line of a file stands for: lines, or what is in the way of a text.
abbrev pub Items : Type 0
Items = List (Result Line Trouble)

abbrev pub written_line : LineOrigin → List ℕ → Items
written_line origin text = Ok (record { text = text; origin = origin }) ∷ []

abbrev pub fault : IncludePlace → IncludeFaultKind → Items
fault place kind = Err (Faulty place kind) ∷ []

-- ---- an include line

-- the most files of a text
abbrev pub most_files : ℕ
most_files = 64

-- the most files that include each other in a row, with the file itself
abbrev pub most_open : ℕ
most_open = 16

-- the files; and those in which a line stands, each included by the one before it
pub record Scope : Type 0 where
  pub files : List File
  pub around : List ℕ

abbrev pub inside : Scope → ℕ → Scope
inside scope index = record { files = scope.files; around = scope.around ++ index ∷ [] }

-- what stands for the file with an index that a line in a scope at a place includes
abbrev pub Inner : Type 0
Inner = Scope → IncludePlace → ℕ → Items

abbrev pub index_items : Inner → Scope → IncludePlace → List ℕ → Option ℕ → Items
index_items inner scope place name (Some index) =
    if list_any (λ other. other == index) scope.around then fault place IncludeCycle
    else inner scope place index
index_items inner scope place name None =
    if nat_lt (length scope.files) most_files then Err (Missing place name) ∷ []
    else fault place IncludeCount

abbrev pub path_items : Inner → Scope → IncludePlace → List ℕ → Items
path_items inner scope place path =
    index_items inner scope place path (index_of scope.files path)

abbrev pub name_items : Inner → Scope → IncludePlace → Option (List ℕ) → Items
name_items inner scope place None = fault place BadInclude
name_items inner scope place (Some name) =
    path_items inner scope place (source_path (name_at scope.files place.file) name)

-- the place of the first token of a line
abbrev pub place_in : LineOrigin → List ℕ → IncludePlace
place_in origin line =
    record { file = origin.file; line = origin.line; column = column_of line }

unfoldable pub include_items : Inner → Scope → LineOrigin → List ℕ → Items
include_items inner scope origin line =
    name_items inner scope (place_in origin line) (name_in line)

-- ---- the lines of a file

-- a line that is ended by LF
abbrev pub line_items : Inner → Scope → LineOrigin → List ℕ → Items
line_items inner scope origin line =
    if is_include line then include_items inner scope origin line
    else written_line origin (line ++ 10 ∷ [])

-- such lines of a file, of which the first has a number
unfoldable pub lines_items : Inner → Scope → ℕ → ℕ → List (List ℕ) → Items
lines_items inner scope file number [] = []
lines_items inner scope file number (line ∷ lines) =
    line_items inner scope (record { file = file; line = number }) line
    ++ lines_items inner scope file (number + 1) lines

-- the lines of a text that LF ends, and what is behind the last LF
abbrev pub ended_lines : List (List ℕ) → List (List ℕ)
ended_lines [] = []
ended_lines (line ∷ []) = []
ended_lines (line ∷ next ∷ lines) = line ∷ ended_lines (next ∷ lines)

abbrev pub last_line : List (List ℕ) → List ℕ
last_line [] = []
last_line (line ∷ []) = line
last_line (line ∷ next ∷ lines) = last_line (next ∷ lines)

-- An included text that doesn't end by LF gets one. So what is behind its last LF is a line, unless
-- it is empty and there are other lines.
abbrev pub rest_items : Inner → Scope → LineOrigin → List ℕ → Items
rest_items inner scope origin line =
    if is_empty line && nat_lt 1 origin.line then [] else line_items inner scope origin line

-- What is behind the last LF of the file itself is its last line, which has no LF. If it is an
-- include line, an empty line is behind what it stands for.
abbrev pub last_items : Inner → Scope → LineOrigin → List ℕ → Items
last_items inner scope origin line =
    if is_include line then include_items inner scope origin line ++ written_line origin []
    else written_line origin line

-- the line behind the last LF of a file
abbrev pub last_origin : ℕ → List (List ℕ) → LineOrigin
last_origin file lines = record { file = file; line = length (ended_lines lines) + 1 }

abbrev pub opened_items : Inner → Scope → ℕ → List (List ℕ) → Items
opened_items inner scope file lines =
    lines_items inner scope file 1 (ended_lines lines)
    ++ rest_items inner scope (last_origin file lines) (last_line lines)

-- an included file, if this many more files may include each other
unfoldable pub file_items : ℕ → Inner
file_items zero scope place index = fault place IncludeDepth
file_items (suc left) scope place index =
    opened_items (file_items left) (inside scope index) index
    (lines_of (text_at scope.files index))

-- the file itself, which is the first one
abbrev pub first_scope : List File → Scope
first_scope files = record { files = files; around = 0 ∷ [] }

abbrev pub root_inner : Inner
root_inner = file_items (most_open - 1)

abbrev pub root_items : List File → List (List ℕ) → Items
root_items files lines =
    lines_items root_inner (first_scope files) 0 1 (ended_lines lines)
    ++ last_items root_inner (first_scope files) (last_origin 0 lines) (last_line lines)

-- ---- the whole text

-- a text, and the origins of its lines
pub record Whole : Type 0 where
  pub text : List ℕ
  pub lines : List LineOrigin

abbrev pub whole_of : written.Included → Whole
whole_of made = record { text = string_bytes made.text; lines = made.lines.items }

-- the most bytes of a text
abbrev pub most_text : ℕ
most_text = 1048576

abbrev pub start_of : LineOrigin → IncludePlace
start_of origin = record { file = origin.file; line = origin.line; column = 1 }

-- a line more, if it fits
abbrev pub with_line : Whole → Line → Result Whole Trouble
with_line whole line =
    if nat_le (length whole.text + length line.text) most_text
    then Ok (record {
      text = whole.text ++ line.text;
      lines = whole.lines ++ line.origin ∷ [];
    })
    else Err (Faulty (start_of line.origin) IncludeSize)

abbrev pub with_item : Whole → Result Line Trouble → Result Whole Trouble
with_item whole (Ok line) = with_line whole line
with_item whole (Err trouble) = Err trouble

abbrev pub go_on : Result Whole Trouble → (Whole → Result Whole Trouble) → Result Whole Trouble
go_on (Ok whole) rest = rest whole
go_on (Err trouble) rest = Err trouble

-- the items behind a text: it is longer by their lines, or the first trouble is in the way
unfoldable pub with_items : Whole → Items → Result Whole Trouble
with_items whole [] = Ok whole
with_items whole (item ∷ items) =
    go_on (with_item whole item) (λ next. with_items next items)

abbrev pub empty : Whole
empty = record { text = []; lines = [] }

-- The text of the first of some files with those that it includes, or the first trouble.
unfoldable pub included : List File → Result Whole Trouble
included files = with_items empty (root_items files (lines_of (text_at files 0)))

-- the origin of a line, by its number from 1
abbrev pub origin_of : List LineOrigin → ℕ → Option LineOrigin
origin_of lines zero = None
origin_of lines (suc before) = slice_get lines before
