-- The text for a report on all runs of a chip.
use Rattle.std.specs.Prelude.{◌≡◌, ◌==◌, ◌%◌, ◌+◌, ◌-◌, ◌^◌, ℕ, Bool, false, min, List, [], ◌∷◌, ◌++◌, bit_xor, codes, drop, get_or, length, Option, Some, None, if◌then◌else◌}
use Rattle.std.specs.Fmt.{decimal}
use Rattle.std.specs.List.{concat, flat_map, range_with_len}
use Rattle.std.specs.Option.{option_map_or}
use Rattle.ga_word.specs.Hex.{hex_digits}
use Rattle.ga_place.specs.Address.{where_is}
use Rattle.ga_place.specs.Cell.{name_at}
use Rattle.ga_place.specs.Node.{node_text}
use Rattle.ga_place.specs.Side.{bits_of}
use Rattle.ga_place.specs.declared.address.Where.{Where}
use Rattle.ga_place.specs.declared.address.Where.TheVariants.{Ram}
use Rattle.ga_place.specs.declared.side.Side.{Side}
use Rattle.ga_place.specs.declared.side.Side.TheVariants.{Right, Down, Left, Up}
use Rattle.ga_place.specs.declared.side.Sides.{Sides}
use Rattle.ga_pack.specs.Model.Program.{IsProgram, PlacedSection}
use Rattle.ga_asm.specs.Assembling.{IsAssembled}
use Rattle.ga_asm.specs.Image.{ImageView, image_of}
use Rattle.ga_debug.specs.Pieces.{pieces}
use Rattle.ga_list.specs.Lines.{line_from}
use Rattle.ga_node.specs.declared.place.Place.{Place}
use Rattle.ga_node.specs.declared.place.Place.TheVariants.{Fetch}
use Rattle.ga_waits.specs.Label.{label_in}
use Rattle.ga_race.specs.declared.found.MultiportTake.{MultiportTake}
use Rattle.ga_race.specs.declared.found.Post.{Post}
use Rattle.ga_race.specs.declared.found.Race.{Race}
use Rattle.ga_race.specs.declared.found.SideWord.{SideWord}
use Rattle.ga_race.specs.declared.verdict.Report.{Report}
use Rattle.ga_race.specs.declared.verdict.Verdict.{Verdict}
use Rattle.ga_race.specs.declared.verdict.Verdict.TheVariants as verdict
use Rattle.ga_views.specs.Witness.{lines_to_go}

-- ---- how long a run is

-- a number with its noun
abbrev pub counted : ℕ → List ℕ → List ℕ
counted count noun =
    decimal count ++ codes " " ++ noun ++ (if count == 1 then [] else codes "s")

-- how many turns a run has, how many steps, and how many multiport reads
unfoldable pub counts_text : Report → List ℕ
counts_text report =
    counted report.turns (codes "turn") ++ codes ", " ++ counted report.steps (codes "step")
    ++ codes ", " ++ counted report.multiport_reads (codes "multiport read")

-- ---- where a node is

-- the address of the ports of sides
abbrev pub ports_address : Sides → ℕ
ports_address sides = bit_xor 0x155 (bits_of sides)

-- the address of the word that a node executes, with its label; a word of its loader has none
abbrev pub place_text : List (ℕ × ImageView) → ℕ → Option ℕ → List ℕ
place_text images node None = codes " in its loader"
place_text images node (Some at) =
    codes " at " ++ hex_digits 3 (at % 0x400) ++ label_in (image_of images node) (where_is at)

-- The line of the input in which a word of RAM begins, by how many lines come before the program's
-- text. The number stays at the largest one of 64 bits.
abbrev pub line_in_ram : List PlacedSection → List (ℕ × ImageView) → ℕ → ℕ → Where → List ℕ
line_in_ram program images before node (Ram index) =
    option_map_or
    (λ line. codes " (line " ++ decimal (min (line + before) (2 ^ 64 - 1)) ++ codes ")")
    (line_from program 0 images node index) []
line_in_ram program images before node other = []

abbrev pub line_text : List PlacedSection → List (ℕ × ImageView) → ℕ → ℕ → Option ℕ → List ℕ
line_text program images before node None = []
line_text program images before node (Some at) =
    line_in_ram program images before node (where_is at)

-- ---- a race

-- the name of a side, in a column
abbrev pub side_column : Side → List ℕ
side_column Right = codes "right"
side_column Down = codes "down "
side_column Left = codes "left "
side_column Up = codes "up   "

-- a node that fetches is at P; else it executes a word
abbrev pub take_address : Place → MultiportTake → Option ℕ
take_address Fetch take = Some take.p
take_address place take = take.address

module _ (program : List PlacedSection) (images : List (ℕ × ImageView)) (before : ℕ) where
  -- where a word was posted, if it was in the run
  abbrev pub posted_text : ℕ → Option Post → List ℕ
  posted_text node None = []
  posted_text node (Some post) =
      place_text images node post.address ++ line_text program images before node post.address

  -- a word that the reader may take: its side, the word, and its writer
  unfoldable pub word_line : SideWord → List ℕ
  word_line word =
      concat (codes "  " ∷ side_column word.side ∷ codes " " ∷ hex_digits 5 word.word
      ∷ codes " from " ∷ node_text word.writer ∷ posted_text word.writer word.post
      ∷ codes "\n" ∷ [])

  -- the node that takes a word at this address, and the ports that it reads
  unfoldable pub reader_line : MultiportTake → Option ℕ → List ℕ
  reader_line take at =
      concat (codes "race: " ∷ node_text take.reader ∷ place_text images take.reader at
      ∷ codes " reads " ∷ hex_digits 3 (ports_address take.sides)
      ∷ line_text program images before take.reader at
      ∷ codes "; the schedule decides which word it takes\n" ∷ [])

  -- the reader, and the two words that it may take
  unfoldable pub race_text : Race → List ℕ
  race_text race =
      reader_line race.take (take_address race.take.place race.take)
      ++ word_line race.take.taken ++ word_line race.left_out

-- ---- no race

-- the nodes that spin, in order of name, by a list that has it for each
abbrev pub spinning_if : List Bool → ℕ → List ℕ
spinning_if spins index = if get_or spins index false then name_at index ∷ [] else []

unfoldable pub spinning_nodes : List Bool → List ℕ
spinning_nodes spins = flat_map (spinning_if spins) (range_with_len 0 144)

-- their names, if there are any
abbrev pub names_text : List ℕ → List ℕ
names_text nodes = flat_map (λ name. 32 ∷ node_text name) nodes

unfoldable pub some_spinning : List ℕ → List ℕ
some_spinning nodes = concat (codes "; spinning:" ∷ names_text nodes ∷ [])

abbrev pub spinning_text : List ℕ → List ℕ
spinning_text nodes = if length nodes == 0 then [] else some_spinning nodes

unfoldable pub rest_text : Report → List Bool → List ℕ
rest_text report spins =
    concat (codes "no race: no schedule leads elsewhere\n  at rest after " ∷ counts_text report
    ∷ spinning_text (spinning_nodes spins) ∷ codes "\n" ∷ [])

unfoldable pub period_text : ℕ → List ℕ
period_text period = codes "of " ++ decimal period ++ codes " turns\n"

unfoldable pub round_text : Report → ℕ → List ℕ
round_text report period =
    concat (codes "no race in 2 rounds " ∷ period_text period
    ∷ codes "  all is as before a round after " ∷ counts_text report ∷ codes "\n" ∷ [])

unfoldable pub open_text : Report → List ℕ
open_text report =
    concat (codes "no race so far: still moving after " ∷ counts_text report ∷ codes "\n" ∷ [])

-- ---- the report

-- the source lines of an input: those of a head stand between its second line and the line `go`
abbrev pub source_lines : Bool → List ℕ → List ℕ
source_lines has_head input = if has_head then lines_to_go (drop 2 (pieces 10 input)) else input

-- how many lines of the input come before them
abbrev pub lines_before : Bool → ℕ
lines_before has_head = if has_head then 2 else 0

-- The text for a race on the chip of an input, by the program of its source lines and its images.
pub record IsRaceText (has_head : Bool) (input : List ℕ) (race : Race) (text : List ℕ)
    : Type 0 where
  pub program : List PlacedSection
  pub is : IsProgram (source_lines has_head input) program
  pub images : List (ℕ × ImageView)
  pub assembled : IsAssembled program images
  pub shown : text ≡ race_text program images (lines_before has_head) race

-- the text for a report on the chip of an input, by its verdict
abbrev pub IsVerdictText : Bool → List ℕ → Report → Verdict → List ℕ → Type 0
IsVerdictText has_head input report (verdict.Race race) text = IsRaceText has_head input race text
IsVerdictText has_head input report (verdict.AtRest spins) text = text ≡ rest_text report spins
IsVerdictText has_head input report (verdict.Round period) text = text ≡ round_text report period
IsVerdictText has_head input report verdict.Open text = text ≡ open_text report
