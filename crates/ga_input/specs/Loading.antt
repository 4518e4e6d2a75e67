-- How a chip is loaded from an input.
use Rattle.std.specs.Prelude.{◌≡◌, ◌⊎◌, Bool, false, List, ℕ, MatchBool, Ok, Err, Result, codes, nat_eq, string_bytes}
use Rattle.std.specs.Option.{option_map_or}
use Rattle.std.specs.List.{starts_with}
use Rattle.ga_asm.specs.Text.{IsImagesOf}
use Rattle.ga_asm.specs.declared.text.TextError.{TextError}
use Rattle.ga_chip.specs.Chip.{Chip, reset_chip}
use Rattle.ga_debug.specs.Beginning.{IsLoaded, Start, all_placed, booted_tree}
use Rattle.ga_debug.specs.declared.replay_error.ReplayError.{ReplayError}
use Rattle.ga_path.specs.Stream.{Images, unreached}
use Rattle.ga_path.specs.Tree.{TreeView}
use Rattle.ga_path.specs.declared.error.BootError.TheVariants.{Unreached}
use Rattle.ga_input.specs.declared.fault.ServeError.{ServeError}
use Rattle.ga_input.specs.declared.fault.ServeError.TheVariants.{Boot}
use Rattle.ga_input.specs.declared.loading.Loading.{Loading}
use Rattle.ga_input.specs.declared.loading.Loading.TheVariants.{Any, Place, Route}
use Rattle.ga_input.specs.Text.{and_then}
use Rattle.ga_input.specs.TextFault.{shown_fault}
use Rattle.ga_input.specs.TranscriptFault.{shown_head_fault}
use Rattle.ga_input.specs.Tree.{tree_in}

-- whether a text is the head of a session
abbrev pub is_head : Loading → List ℕ → Bool
is_head Any text = starts_with nat_eq text (codes "profile")
is_head Place text = false
is_head (Route names) text = false

-- the chip of a head, or its first fault
abbrev pub IsHeadChip : List ℕ → Result Chip ServeError → Type 0
IsHeadChip text (Ok chip) = (start : Start) × IsLoaded text (Ok start) × (start.chip ≡ chip)
IsHeadChip text (Err fault) =
    (error : ReplayError) × IsLoaded text (Err error) × (shown_head_fault text error ≡ fault)

-- the chip that boots a tree, if each node with an image is in it
abbrev pub routed_by : Images → Result TreeView ServeError → Result Chip ServeError
routed_by images tree =
    and_then (λ found. option_map_or (λ node. Err (Boot (Unreached node)))
    (unreached images found.nodes) (Ok (booted_tree images found))) tree

-- the chip into which images are loaded: it boots a tree, or each is placed in its node
abbrev pub chip_by : Loading → Images → Result Chip ServeError
chip_by (Route names) images = routed_by images (tree_in (string_bytes names))
chip_by Any images = Ok (all_placed images reset_chip)
chip_by Place images = Ok (all_placed images reset_chip)

-- the chip of a source text, or its first fault: of the text, of the routes, of the tree, of the
-- boot
abbrev pub IsSourceChip : Loading → List ℕ → Result Chip ServeError → Type 0
IsSourceChip loading text (Ok chip) =
    (images : Images) × IsImagesOf text (Ok images) × (chip_by loading images ≡ Ok chip)
IsSourceChip loading text (Err fault) =
    ((error : TextError) × IsImagesOf text (Err error) × (shown_fault text error ≡ fault))
    ⊎ ((images : Images) × IsImagesOf text (Ok images) × (chip_by loading images ≡ Err fault))

-- the chip of a text, or its first fault
abbrev pub IsChipIn : Loading → List ℕ → Result Chip ServeError → Type 0
IsChipIn loading text answer =
    MatchBool (is_head loading text) (IsHeadChip text answer) (IsSourceChip loading text answer)
