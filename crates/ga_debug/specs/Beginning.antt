-- The chip after the head of a replay text.
use Rattle.std.specs.Prelude.{◌≡◌, ◌⊎◌, ℕ, List, [], ◌∷◌, ◌++◌, Some, None, Result, Ok, Err}
use Rattle.std.specs.Option.{option_map_or}
use Rattle.ga_asm.specs.Text.{HasImages, IsTextFault}
use Rattle.ga_asm.specs.declared.text.TextError.{TextError}
use Rattle.ga_chip.specs.Chip.{Chip, placed, refusal, reset_chip, stream_refusal, streamed, unless_refused}
use Rattle.ga_path.specs.Route.{routes_fault}
use Rattle.ga_path.specs.Stream.{Images, tree_load, tree_start, unreached}
use Rattle.ga_path.specs.Tree.{TreeView, tree_of}
use Rattle.ga_path.specs.declared.error.BootError.TheVariants.{Unreached}
use Rattle.ga_debug.specs.declared.beginning.Loaded.{Loaded}
use Rattle.ga_debug.specs.declared.profile.Profile.{Profile}
use Rattle.ga_debug.specs.declared.replay_error.ReplayError.{ReplayError}
use Rattle.ga_debug.specs.declared.replay_error.ReplayError.TheVariants.{Boot}
use Rattle.ga_debug.specs.Profile.{SESSION_PROFILE}
use Rattle.ga_debug.specs.ReplayError.{fault_of_route, fault_of_text, fault_of_tree}
use Rattle.ga_debug.specs.Head.{Head, Loading, head_in}

-- each image is placed in its node, with its entry
abbrev pub all_placed : Images → Chip → Chip
all_placed [] chip = chip
all_placed (image ∷ images) chip =
    all_placed images
    (unless_refused (refusal chip image.0) (placed chip image.0 image.1.words image.1.entry) chip)

-- a chip after reset that boots a tree: its root was given both parts of the boot stream, as one
-- stream
abbrev pub booted_tree : Images → TreeView → Chip
booted_tree images tree =
    unless_refused (stream_refusal reset_chip tree.root)
    (streamed reset_chip tree.root (tree_load images tree ++ tree_start images tree)) reset_chip

-- The chip with images loaded into it, or the fault: that of a route, or of the tree of the routes,
-- or that a node with an image isn't in the tree.
abbrev pub chip_of : Loading → Images → Result Chip ReplayError
chip_of None images = Ok (all_placed images reset_chip)
chip_of (Some lists) images =
    elim (routes_fault lists) [
      | Some fault ↦ Err (fault_of_route fault)
      | None ↦
          elim (tree_of lists) [
            | Err fault ↦ Err (fault_of_tree fault)
            | Ok tree ↦
                option_map_or (λ node. Err (Boot (Unreached node))) (unreached images tree.nodes)
                (Ok (booted_tree images tree))
          ]
    ]

-- the chip that a head leads to, or its first fault: of the source, of the assembly, of the routes,
-- of the tree, of the boot
abbrev pub IsChipOf : Head → Result Chip ReplayError → Type 0
IsChipOf head (Ok chip) =
    (images : Images) × HasImages head.source images × (chip_of head.loading images ≡ Ok chip)
IsChipOf head (Err fault) =
    ((error : TextError) × IsTextFault head.source error × (fault_of_text error ≡ fault))
    ⊎ ((images : Images) × HasImages head.source images × (chip_of head.loading images ≡ Err fault))

-- The chip after the head of a text of a profile, with the head; or the first fault.
abbrev pub IsBegun : Profile → List ℕ → Result (Chip × Head) ReplayError → Type 0
IsBegun profile text (Ok (chip, head)) = (head_in profile text ≡ Ok head) × IsChipOf head (Ok chip)
IsBegun profile text (Err fault) =
    (head_in profile text ≡ Err fault)
    ⊎ ((head : Head) × (head_in profile text ≡ Ok head) × IsChipOf head (Err fault))

-- What a text begins with: a chip, the images that are loaded into it, the number of the line `go`,
-- and the lines behind it.
pub record Start : Type 0 where
  pub chip : Chip
  pub images : Images
  pub line : ℕ
  pub commands : List (List ℕ)

abbrev pub start_view : Loaded → Start
start_view loaded = record {
  chip = loaded.program.start;
  images = loaded.program.images;
  line = loaded.line;
  commands = loaded.lines;
}

-- the chip after the head of a text of profile 2, with its images; or the first fault
abbrev pub IsLoaded : List ℕ → Result Start ReplayError → Type 0
IsLoaded text (Ok start) =
    (head : Head) × (head_in SESSION_PROFILE text ≡ Ok head) × HasImages head.source start.images
    × (chip_of head.loading start.images ≡ Ok start.chip)
    × (head.line ≡ start.line) × (head.commands ≡ start.commands)
IsLoaded text (Err fault) = IsBegun SESSION_PROFILE text (Err fault)

-- the source lines in the head of a text of profile 2, or the first fault of the head
abbrev pub IsHeadSource : List ℕ → Result (List ℕ) ReplayError → Type 0
IsHeadSource text (Ok source) =
    (head : Head) × (head_in SESSION_PROFILE text ≡ Ok head) × (head.source ≡ source)
IsHeadSource text (Err fault) = head_in SESSION_PROFILE text ≡ Err fault

-- The chip after the head of a text of profile 2, and the number of its line `go`; or the first
-- fault.
abbrev pub IsBeginning : List ℕ → Result (Chip × ℕ) ReplayError → Type 0
IsBeginning text (Ok (chip, line)) =
    (head : Head) × IsBegun SESSION_PROFILE text (Ok (chip, head)) × (head.line ≡ line)
IsBeginning text (Err fault) = IsBegun SESSION_PROFILE text (Err fault)
