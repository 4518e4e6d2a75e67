-- A node as one line of text.
use Rattle.std.specs.Prelude.{ℕ, List, [], ◌∷◌, ◌++◌, codes, if◌then◌else◌}
use Rattle.std.specs.List.{concat}
use Rattle.std.specs.Fmt.{decimal}
use Rattle.ga_word.specs.Hex.{hex_digits}
use Rattle.ga_place.specs.Node.{node_text}
use Rattle.ga_node.specs.State.{State}
use Rattle.ga_node.specs.Need.{need_of}
use Rattle.ga_node.specs.declared.need.Need.{Need}
use Rattle.ga_node.specs.declared.need.Need.TheVariants.{Own, Take, Post, Check, Input, Stopped}
use Rattle.ga_node.specs.declared.need.Stop.{Stop}
use Rattle.ga_node.specs.declared.need.Stop.TheVariants.{MultiWrite, IoRead, Unmapped, Rom, Counted}
use Rattle.ga_node.specs.declared.place.Place.{Place}
use Rattle.ga_node.specs.declared.place.Place.TheVariants.{Fetch, Slot0, Slot1, Slot2, Slot3, Completion, Transfer, Count, Body}

abbrev pub place_text : Place → List ℕ
place_text Fetch = codes "fetch"
place_text Slot0 = codes "slot0"
place_text Slot1 = codes "slot1"
place_text Slot2 = codes "slot2"
place_text Slot3 = codes "slot3"
place_text Completion = codes "completion"
place_text Transfer = codes "transfer"
place_text Count = codes "count"
place_text Body = codes "body"

abbrev pub stop_text : Stop → List ℕ
stop_text MultiWrite = codes "MultiWrite"
stop_text IoRead = codes "IoRead"
stop_text Unmapped = codes "Unmapped"
stop_text Rom = codes "Rom"
stop_text Counted = codes "Counted"

abbrev pub need_text : Need → List ℕ
need_text Own = codes "own"
need_text (Take sides) = codes "take"
need_text (Post side word) = codes "post"
need_text (Check side) = codes "check"
need_text Input = codes "input"
need_text (Stopped stop) = codes "stopped " ++ stop_text stop

-- the registers, the place, the steps and the need of a node, ended by LF
unfoldable pub line_of : State → List ℕ
line_of state =
    concat (codes "node " ∷ node_text state.node
    ∷ codes " P " ∷ hex_digits 3 state.p
    ∷ codes " A " ∷ hex_digits 5 state.a
    ∷ codes " B " ∷ hex_digits 3 state.b
    ∷ codes " R " ∷ hex_digits 5 state.r
    ∷ codes " S " ∷ hex_digits 5 state.s
    ∷ codes " T " ∷ hex_digits 5 state.t
    ∷ codes " C " ∷ (if state.carry then codes "1" else codes "0")
    ∷ codes " io " ∷ hex_digits 5 state.io
    ∷ codes " at " ∷ place_text state.place
    ∷ codes " steps " ∷ decimal state.steps
    ∷ codes " need " ∷ need_text (need_of state) ∷ codes "\n" ∷ [])
