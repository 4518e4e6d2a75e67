-- How warnings are written.
use Rattle.std.specs.Prelude.{ℕ, List, ◌++◌, codes}
use Rattle.std.specs.Fmt.{decimal}
use Rattle.ga_lint.specs.declared.warning.Warning as written
use Rattle.ga_lint.specs.declared.warning.WarningKind.{WarningKind}
use Rattle.ga_lint.specs.declared.warning.WarningKind.TheVariants.{UnextRepeats, SplitLoop, RunsOff, PushesTooMany, PopsTooMany, UnusedLabel, Unreachable, SeveralPorts, ReturnsNowhere, LeavesExtended, OverMemory, IntoData, BeginsInData, ReadsIo, EdgePort}
use Rattle.ga_pack.specs.Model.Text.{Place}
use Rattle.ga_place.specs.Node.{node_text}

-- the name of a kind
abbrev pub kind_name : WarningKind → List ℕ
kind_name UnextRepeats = codes "UnextRepeats"
kind_name SplitLoop = codes "SplitLoop"
kind_name RunsOff = codes "RunsOff"
kind_name PushesTooMany = codes "PushesTooMany"
kind_name PopsTooMany = codes "PopsTooMany"
kind_name UnusedLabel = codes "UnusedLabel"
kind_name Unreachable = codes "Unreachable"
kind_name SeveralPorts = codes "SeveralPorts"
kind_name ReturnsNowhere = codes "ReturnsNowhere"
kind_name LeavesExtended = codes "LeavesExtended"
kind_name OverMemory = codes "OverMemory"
kind_name IntoData = codes "IntoData"
kind_name BeginsInData = codes "BeginsInData"
kind_name ReadsIo = codes "ReadsIo"
kind_name EdgePort = codes "EdgePort"

-- the node, a space, the line, a colon, the column, a space, and the kind
abbrev pub warning_text : written.Warning → List ℕ
warning_text warning =
    node_text warning.node ++ codes " " ++ decimal warning.line ++ codes ":"
    ++ decimal warning.column ++ codes " " ++ kind_name warning.kind

-- a warning about a node at a place
abbrev pub warning_at : ℕ → Place → WarningKind → written.Warning
warning_at name place kind =
    record { node = name; line = place.line; column = place.column; kind = kind }
