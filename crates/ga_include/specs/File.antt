-- Files, and the lines of their texts.
use Rattle.std.specs.Prelude.{ℕ, List, [], Option, Some, None, slice_get, string_bytes}
use Rattle.std.specs.List.{position}
use Rattle.std.specs.Str.{bytes_eq}
use Rattle.ga_include.specs.declared.file.SourceFile as written

-- a file's name and its text
pub record File : Type 0 where
  pub name : List ℕ
  pub text : List ℕ

abbrev pub file_of : written.SourceFile → File
file_of file = record { name = string_bytes file.name; text = string_bytes file.text }

-- a name means the first file that has it
abbrev pub index_of : List File → List ℕ → Option ℕ
index_of files name = position (λ file. bytes_eq file.name name) files

abbrev pub name_of : Option File → List ℕ
name_of (Some file) = file.name
name_of None = []

abbrev pub text_of : Option File → List ℕ
text_of (Some file) = file.text
text_of None = []

abbrev pub name_at : List File → ℕ → List ℕ
name_at files index = name_of (slice_get files index)

abbrev pub text_at : List File → ℕ → List ℕ
text_at files index = text_of (slice_get files index)
