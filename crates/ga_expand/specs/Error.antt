-- How the errors of a text are written, and where they are.
use Rattle.std.specs.Prelude.{ℕ, List, ◌++◌, codes}
use Rattle.std.specs.Fmt.{decimal}
use Rattle.ga_pack.specs.Model.Text.{Place}
use Rattle.ga_expand.specs.declared.error.ExpandError as written
use Rattle.ga_expand.specs.declared.error.ExpandErrorKind.{ExpandErrorKind}
use Rattle.ga_expand.specs.declared.error.ExpandErrorKind.TheVariants.{BadToken, NumberRange, MixedSides, ReservedName, DuplicateName, OpenDefinition, UnknownBody, TooLarge, BadNode, NoNeighbour, Memory}

abbrev pub kind_name : ExpandErrorKind → List ℕ
kind_name BadToken = codes "BadToken"
kind_name NumberRange = codes "NumberRange"
kind_name MixedSides = codes "MixedSides"
kind_name ReservedName = codes "ReservedName"
kind_name DuplicateName = codes "DuplicateName"
kind_name OpenDefinition = codes "OpenDefinition"
kind_name UnknownBody = codes "UnknownBody"
kind_name TooLarge = codes "TooLarge"
kind_name BadNode = codes "BadNode"
kind_name NoNeighbour = codes "NoNeighbour"
kind_name Memory = codes "Memory"

-- the line, a colon, the column, a space, and the kind
abbrev pub error_text : written.ExpandError → List ℕ
error_text error =
    decimal error.line ++ codes ":" ++ decimal error.column ++ codes " " ++ kind_name error.kind

-- an error and its place
pub record Fault : Type 0 where
  pub kind : ExpandErrorKind
  pub place : Place

abbrev pub fault_of : written.ExpandError → Fault
fault_of error =
    record { kind = error.kind; place = record { line = error.line; column = error.column } }
