-- The warnings about a node.
use Rattle.std.specs.Prelude.{ℕ, Bool, false, List, [], ◌∷◌, ◌++◌, length, if◌then◌else◌}
use Rattle.std.specs.List.{flat_map, range_with_len}
use Rattle.ga_lint.specs.DataRuns.{begins_in_data, into_data}
use Rattle.ga_lint.specs.LabelWarnings.{entry_warnings, unused_labels}
use Rattle.ga_lint.specs.LeavesExtended.{leaves_extended}
use Rattle.ga_lint.specs.NodeView.{NodeView}
use Rattle.ga_lint.specs.OverMemory.{over_memory}
use Rattle.ga_lint.specs.PortWrites.{writes_refused_at}
use Rattle.ga_lint.specs.ReadsIo.{reads_io}
use Rattle.ga_lint.specs.RunsOff.{runs_off}
use Rattle.ga_lint.specs.SplitLoop.{split_loop}
use Rattle.ga_lint.specs.StraightRun.{is_first_wrong}
use Rattle.ga_lint.specs.UnextRepeats.{unext_repeats}
use Rattle.ga_lint.specs.Unreachable.{unreachable}
use Rattle.ga_lint.specs.Warning.{warning_at}
use Rattle.ga_lint.specs.declared.port_writes.Refused.TheVariants.{Several, Edge}
use Rattle.ga_lint.specs.declared.warning.Warning.{Warning}
use Rattle.ga_lint.specs.declared.warning.WarningKind.{WarningKind}
use Rattle.ga_lint.specs.declared.warning.WarningKind.TheVariants.{UnextRepeats, SplitLoop, RunsOff, PushesTooMany, PopsTooMany, UnusedLabel, Unreachable, SeveralPorts, ReturnsNowhere, LeavesExtended, OverMemory, IntoData, BeginsInData, ReadsIo, EdgePort}
use Rattle.ga_pack.specs.Model.Program.{place_at}

-- a warning of this kind applies to the word at an address of a node with this name
abbrev pub applies : WarningKind → ℕ → NodeView → ℕ → Bool
applies UnextRepeats name node address = unext_repeats node address
applies SplitLoop name node address = split_loop node address
applies RunsOff name node address = runs_off node address
applies PushesTooMany name node address = is_first_wrong PushesTooMany node address
applies PopsTooMany name node address = is_first_wrong PopsTooMany node address
applies UnusedLabel name node address = false
applies Unreachable name node address = unreachable node address
applies SeveralPorts name node address = writes_refused_at Several node address
applies ReturnsNowhere name node address = is_first_wrong ReturnsNowhere node address
applies LeavesExtended name node address = leaves_extended node address
applies OverMemory name node address = over_memory node address
applies IntoData name node address = into_data node address
applies BeginsInData name node address = begins_in_data node address
applies ReadsIo name node address = reads_io node address
applies EdgePort name node address = writes_refused_at (Edge name) node address

-- the kinds of warnings about words, in their order
abbrev pub word_kinds : List WarningKind
word_kinds =
    UnextRepeats ∷ SplitLoop ∷ RunsOff ∷ PushesTooMany ∷ PopsTooMany ∷ Unreachable ∷ SeveralPorts
    ∷ ReturnsNowhere ∷ LeavesExtended ∷ OverMemory ∷ IntoData ∷ BeginsInData ∷ ReadsIo ∷ EdgePort
    ∷ []

-- those of these kinds about the word at an address
abbrev pub word_warnings : ℕ → NodeView → ℕ → List WarningKind → List Warning
word_warnings name node address [] = []
word_warnings name node address (kind ∷ kinds) =
    (if applies kind name node address
    then warning_at name (place_at node.word_places address) kind ∷ [] else [])
    ++ word_warnings name node address kinds

-- those about the labels and the words of a node, by address
unfoldable pub by_address : ℕ → NodeView → List Warning
by_address name node =
    flat_map (λ address. unused_labels name node address
    ++ word_warnings name node address word_kinds) (range_with_len 0 (length node.words))

-- all warnings about a node; that about its entry has the address behind the last word
unfoldable pub node_warnings : ℕ → NodeView → List Warning
node_warnings name node = by_address name node ++ entry_warnings name node
