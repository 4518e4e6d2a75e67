-- A read of io by a B that the node hasn't set, which isn't meant as its end.
use Rattle.std.specs.Prelude.{◌&&◌, ◌||◌, ℕ, Bool, true, false, not, List, [], ◌∷◌}
use Rattle.std.specs.List.{slice_get}
use Rattle.std.specs.Option.{option_map_or}
use Rattle.ga_disasm.specs.Disassembling.{ItemView, Code}
use Rattle.ga_lint.specs.NodeView.{NodeView}
use Rattle.ga_lint.specs.RunsOff.{is_last_code}
use Rattle.ga_lint.specs.StraightRun.{is_fetch_b, is_first_wrong}
use Rattle.ga_lint.specs.declared.warning.WarningKind.TheVariants.{ReadsIo}
use Rattle.ga_word.specs.declared.op.Op.{Op}
use Rattle.ga_word.specs.declared.op.Op.TheVariants.{Nop}

abbrev pub is_filler : Op → Bool
is_filler Nop = true
is_filler o = false

-- an opcode that is no filler stands behind an `@b`, which is among these or was before them
abbrev pub goes_on_behind : Bool → List Op → Bool
goes_on_behind read [] = false
goes_on_behind read (o ∷ ops) =
    read && not (is_filler o) || goes_on_behind (read || is_fetch_b o) ops

abbrev pub goes_on_in : ItemView → Bool
goes_on_in (Code reading) = goes_on_behind false reading.ops
goes_on_in item = false

abbrev pub goes_on_at : NodeView → ℕ → Bool
goes_on_at node address = option_map_or goes_on_in (slice_get node.words address) false

-- The word at an address is the first one of the straight run with an `@b` before any `b!`, and the
-- node has code behind that. A last `@b` is meant to stop the node.
abbrev pub reads_io : NodeView → ℕ → Bool
reads_io node address =
    is_first_wrong ReadsIo node address
    && (goes_on_at node address || not (is_last_code node address))
