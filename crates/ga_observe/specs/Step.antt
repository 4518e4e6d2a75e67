-- The opcode of a step.
use Rattle.std.specs.Prelude.{ℕ, Option, Some, None}
use Rattle.ga_word.specs.declared.op.Op.{Op}
use Rattle.ga_node.specs.State.{op_at}
use Rattle.ga_node.specs.declared.place.Place.{Place}
use Rattle.ga_node.specs.declared.place.Place.TheVariants.{Slot0, Slot1, Slot2, Slot3}

-- the opcode that a node runs at a place of a word, if the place is a slot
abbrev pub op_run : Place → ℕ → Option Op
op_run Slot0 word = Some (op_at Slot0 word)
op_run Slot1 word = Some (op_at Slot1 word)
op_run Slot2 word = Some (op_at Slot2 word)
op_run Slot3 word = Some (op_at Slot3 word)
op_run _ word = None
