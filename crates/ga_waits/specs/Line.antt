-- The line of a node that has started.
use Rattle.std.specs.Prelude.{ℕ, Bool, List, [], ◌∷◌, codes, if◌then◌else◌}
use Rattle.std.specs.List.{concat}
use Rattle.std.specs.Option.{option_map_or}
use Rattle.ga_word.specs.Hex.{hex_digits}
use Rattle.ga_word.specs.Op.{name_of}
use Rattle.ga_place.specs.Address.{where_is}
use Rattle.ga_place.specs.Node.{node_text}
use Rattle.ga_node.specs.Line.{place_text}
use Rattle.ga_node.specs.Need.{need_of}
use Rattle.ga_node.specs.State.{State, op_at}
use Rattle.ga_node.specs.declared.place.Place.{Place}
use Rattle.ga_node.specs.declared.place.Place.TheVariants.{Fetch, Slot0, Slot1, Slot2, Slot3, Completion, Transfer, Count, Body}
use Rattle.ga_asm.specs.Image.{ImageView, image_of}
use Rattle.ga_chip.specs.Chip.{Chip, state_of}
use Rattle.ga_chip.specs.Run.{stands_held}
use Rattle.ga_waits.specs.Begun.{has_begun}
use Rattle.ga_waits.specs.Label.{label_in}
use Rattle.ga_waits.specs.Sides.{told_need}

-- in front of a slot, the name of its opcode behind a blank
abbrev pub op_text : Place → ℕ → List ℕ
op_text Slot0 word = 32 ∷ name_of (op_at Slot0 word)
op_text Slot1 word = 32 ∷ name_of (op_at Slot1 word)
op_text Slot2 word = 32 ∷ name_of (op_at Slot2 word)
op_text Slot3 word = 32 ∷ name_of (op_at Slot3 word)
op_text Fetch word = []
op_text Completion word = []
op_text Transfer word = []
op_text Count word = []
op_text Body word = []

-- The line of a node in a state: its place, what it needs and from whom, whether its tries are
-- held, and whether it is stuck. The line's end isn't part of it.
unfoldable pub wait_line : List (ℕ × ImageView) → Chip → Bool → ℕ → State → List ℕ
wait_line images chip stuck name state =
    concat (node_text name ∷ codes " P " ∷ hex_digits 3 state.p
    ∷ label_in (image_of images name) (where_is state.p)
    ∷ codes " " ∷ place_text state.place ∷ op_text state.place state.word
    ∷ told_need chip name (need_of state)
    ∷ (if stands_held chip name then codes ", held" else [])
    ∷ (if stuck then codes ", stuck" else []) ∷ [])

-- only a node that has started has a line
abbrev pub node_lines : List (ℕ × ImageView) → Chip → Bool → ℕ → List (List ℕ)
node_lines images chip stuck name =
    option_map_or (λ state. if has_begun name state then wait_line images chip stuck name state ∷ []
    else []) (state_of chip name) []
