-- How the faults of a program are written.
use Rattle.std.specs.Prelude.{ℕ, List, ◌++◌, codes}
use Rattle.std.specs.Fmt.{decimal}
use Rattle.ga_asm.specs.declared.error.AsmError as written
use Rattle.ga_pack.specs.Model.LayoutFault.{asm_kind_name}
use Rattle.ga_pack.specs.Model.Text.{Place}
use Rattle.ga_place.specs.Node.{node_text}

-- the node, a space, the line, a colon, the column, a space, and the kind
abbrev pub error_text : written.AsmError → List ℕ
error_text error =
    node_text error.node ++ codes " " ++ decimal error.line ++ codes ":" ++ decimal error.column
    ++ codes " " ++ asm_kind_name error.kind

abbrev pub error_place : written.AsmError → Place
error_place error = record { line = error.line; column = error.column }
