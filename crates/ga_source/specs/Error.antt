-- How the faults of a text are written.
use Rattle.std.specs.Prelude.{ℕ, List, ◌++◌, codes}
use Rattle.std.specs.Fmt.{decimal}
use Rattle.ga_source.specs.declared.error.SourceError as written
use Rattle.ga_pack.specs.Model.Text.{Place}
use Rattle.ga_pack.specs.Model.Token.{source_kind_name}

-- the line, a colon, the column, a space, and the kind
abbrev pub error_text : written.SourceError → List ℕ
error_text error =
    decimal error.line ++ codes ":" ++ decimal error.column ++ codes " "
    ++ source_kind_name error.kind

abbrev pub error_place : written.SourceError → Place
error_place error = record { line = error.line; column = error.column }
