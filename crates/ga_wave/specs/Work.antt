-- What a node runs.
use Rattle.std.specs.Prelude.{ℕ, List}
use Rattle.std.specs.Option.{option_map_or}
use Rattle.ga_word.specs.Op.{name_of}
use Rattle.ga_node.specs.Line.{place_text}
use Rattle.ga_node.specs.declared.place.Place.{Place}
use Rattle.ga_observe.specs.Step.{op_run}
use Rattle.ga_wave.specs.declared.work.Work.{Work}
use Rattle.ga_wave.specs.declared.work.Work.TheVariants.{Runs, Elsewhere}

-- the opcode at a place of a word, or the place if it is no slot
abbrev pub work_of : Place → ℕ → Work
work_of place word = option_map_or Runs (op_run place word) (Elsewhere place)

-- its name
abbrev pub work_text : Work → List ℕ
work_text (Runs op) = name_of op
work_text (Elsewhere place) = place_text place
