-- Where the lines of a text were written.
use Rattle.std.specs.Prelude.{ℕ, List, [], Option, Some, None, slice_get, string_bytes}
use Rattle.ga_include.specs.Including.{origin_of}
use Rattle.ga_include.specs.declared.file.LineOrigin.{LineOrigin}
use Rattle.ga_include.specs.declared.file.SourceFile.{SourceFile}
use Rattle.ga_diagnostics.specs.declared.lines.Lines as written
use Rattle.ga_diagnostics.specs.declared.lines.Lines.TheVariants.{File, Files}

-- the name of a file, and a line of it
pub record Origin : Type 0 where
  pub name : List ℕ
  pub line : ℕ

-- where each line of a text was written
abbrev pub Origins : Type 0
Origins = ℕ → Origin

-- in the file with a name
abbrev pub origins_in : List ℕ → Origins
origins_in name line = record { name = name; line = line }

abbrev pub name_in : Option SourceFile → List ℕ
name_in (Some file) = string_bytes file.name
name_in None = []

-- the name of the file with an index
abbrev pub name_at : List SourceFile → ℕ → List ℕ
name_at files index = name_in (slice_get files index)

abbrev pub origin_in : List SourceFile → ℕ → Option LineOrigin → Origin
origin_in files line (Some origin) =
    record { name = name_at files origin.file; line = origin.line }
origin_in files line None = record { name = []; line = line }

-- in a file, or in those that include each other
abbrev pub origins_of : written.Lines → Origins
origins_of (File name) = origins_in name.now
origins_of (Files files made) =
    λ line. origin_in files.now line (origin_of made.now.lines.items line)

-- the name of the file, or of the one that includes the others
abbrev pub name_of : written.Lines → List ℕ
name_of (File name) = name.now
name_of (Files files made) = name_at files.now 0
