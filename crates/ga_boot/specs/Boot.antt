-- The boot of a tree, at a moment of a run: which words were taken, which nodes have started, and
-- what they hold.
use Rattle.std.specs.Prelude.{◌≡◌, ℕ, ◌+◌, ◌-◌, ◌≤◌, List, [], ◌∷◌, ◌++◌, ◌⊎◌, length, replicate, Option, Some}
use Rattle.std.specs.Option.{option_map_or}
use Rattle.ga_asm.specs.Image.{ImageView}
use Rattle.ga_path.specs.Sequences.{Grove, image_words, part_words, pumps, sent}
use Rattle.ga_path.specs.declared.parts.Part.TheVariants.{Load, Start}
use Rattle.ga_place.specs.Cell.{read_cell}
use Rattle.ga_place.specs.declared.side.Side.{Side}
use Rattle.ga_node.specs.State.{State}
use Rattle.ga_chip.specs.Chip.{Chip, part_of, reset_chip, stream_opened, streamed}
use Rattle.ga_chip.specs.Laws.{IsPrefix}
use Rattle.ga_chip.specs.Legal.{DifferInBreaks}
use Rattle.ga_chip.specs.Part.{Part}
use Rattle.ga_chip.specs.Run.{Event, input_words, ran, taken_words, words_fed}
use Rattle.ga_boot.specs.Tree.{Place}

-- the stream that boots a tree, for its root: the words that load the nodes, and those that start
-- them
abbrev pub stream_words : ℕ → Option ImageView → Grove → List ℕ
stream_words root image trees =
    part_words Load root image trees ++ part_words Start root image trees

-- all words that another node of the tree is sent
abbrev pub node_words : Place → List ℕ
node_words p =
    sent Load p.name p.side p.image (pumps Load p.inner)
    ++ sent Start p.name p.side p.image (pumps Start p.inner)

-- A chip after reset, apart from breakpoints, whose root was given a prefix of the words as its
-- stream, or all; or whose root's stream was opened, and the pieces that it is fed in the run are
-- together a prefix of the words.
abbrev pub IsSupplied : Chip → ℕ → List ℕ → List Event → Type 0
IsSupplied chip root words events =
    ((given : List ℕ) × DifferInBreaks chip (streamed reset_chip root given) × IsPrefix given words)
    ⊎ (DifferInBreaks chip (stream_opened reset_chip root)
    × IsPrefix (words_fed chip events root) words)

-- the words that a node takes at a side in a run
abbrev pub words_from : Chip → List Event → ℕ → Side → List ℕ
words_from chip events name side =
    option_map_or (λ cell. taken_words chip events cell) (read_cell name side) []

-- the load part was taken: the root has taken as many words of its stream as the load part has, or
-- more
abbrev pub LoadTaken : Chip → ℕ → Option ImageView → Grove → List Event → Type 0
LoadTaken chip root image trees events =
    length (part_words Load root image trees) ≤ length (input_words chip events root)

-- the root has started: it has taken the last word of the start part
abbrev pub RootBegun : Chip → ℕ → Option ImageView → Grove → List Event → Type 0
RootBegun chip root image trees events =
    length (stream_words root image trees) ≤ length (input_words chip events root)

-- another node has started: it has taken its start word, the last that it is sent
abbrev pub Begun : Chip → Place → List Event → Type 0
Begun chip p events = length (node_words p) ≤ length (words_from chip events p.name p.side)

-- memory is the image's words, then zeros
abbrev pub Holds : State → Option ImageView → Type 0
Holds state image = state.ram ≡ image_words image ++ replicate (64 - length (image_words image)) 0

-- An event of a run made something true. The node, given by its part now, made this many steps
-- since that event.
pub record CameToBe (chip : Chip) (name : ℕ) (IsSo : List Event → Type 0) (events : List Event)
    (now : Part) (steps : ℕ)
    : Type 0 where
  pub before : List Event
  pub event : Event
  pub behind : List Event
  pub run : events ≡ (before ++ event ∷ []) ++ behind
  pub not_before : IsSo before → ⊥
  pub so : IsSo (before ++ event ∷ [])
  pub old : Part
  pub there : part_of (ran chip (before ++ event ∷ [])) name ≡ Some old
  pub made : now.state.steps ≡ old.state.steps + steps
