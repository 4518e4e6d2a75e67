-- A node with its place in its program, and what it does.
use Rattle.std.specs.Prelude.{ℕ, List, [], ◌∷◌, codes}
use Rattle.std.specs.List.{concat}
use Rattle.std.specs.Option.{option_map_or}
use Rattle.ga_word.specs.Hex.{hex_digits}
use Rattle.ga_place.specs.Address.{where_is}
use Rattle.ga_place.specs.Node.{node_text}
use Rattle.ga_asm.specs.Image.{ImageView, image_of}
use Rattle.ga_node.specs.State.{State}
use Rattle.ga_chip.specs.Chip.{Chip, state_of}
use Rattle.ga_chip.specs.Run.{stands_held}
use Rattle.ga_waits.specs.Label.{label_in}
use Rattle.ga_waits.specs.Sides.{doing_text}
use Rattle.ga_trace.specs.At.{at_word}

-- the address of the word in execution, or before a fetch P
abbrev pub address_of : State → ℕ
address_of state = at_word state.place state.p state.word

-- a node, this address with its label, and what the node does
unfoldable pub position : List (ℕ × ImageView) → Chip → ℕ → List ℕ
position images chip name =
    option_map_or (λ state. concat (node_text name ∷ codes " at " ∷ hex_digits 3 (address_of state)
    ∷ label_in (image_of images name) (where_is (address_of state))
    ∷ codes " " ∷ doing_text (stands_held chip name) name (state_of chip name) ∷ []))
    (state_of chip name) []
