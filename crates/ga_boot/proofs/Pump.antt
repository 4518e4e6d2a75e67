-- The pump: a node that executes from a port posts the words that follow, in order, and comes back
-- to the port.
use Rattle.std.proofs.Common.{◌≡◌, ℕ, suc, ◌-◌, List, [], ◌∷◌, length, refl, sym, ◌∙◌, subst, arith}
use Rattle.ga_word.specs.Op.{op_with}
use Rattle.ga_pack.specs.Decoded.{reading_of}
use Rattle.ga_place.specs.Address.{port_address_of}
use Rattle.ga_place.specs.declared.side.Side.{Side}
use Rattle.ga_node.specs.State.{State, push_data, pop_data, pop_return}
use Rattle.ga_node.specs.declared.place.Place.TheVariants.{Fetch, Slot0, Slot1, Slot2, Slot3}
use Rattle.ga_path.specs.Sequences.{SET_A, PUSH, SEND, NOPS}
use Rattle.ga_boot.specs.inner.Local.{Local, Own}
use Rattle.ga_boot.specs.inner.Script.{head_moves, send_moves, pump_moves}
use Rattle.ga_boot.proofs.Steps.{Way, done, both, at_port, in_slot, fetches, fetches_next, literal, nop, sets_a, pushes, posts, repeats, ends_loop, with_a, with_r, a_set, pushed}

-- in slot 0 of the word that is run again and again, with A and R set
abbrev pub in_loop : Side → ℕ → ℕ → ℕ → State → State
in_loop side address count loop state =
    in_slot side loop Slot0 (with_a address (with_r count state))

-- The node comes along the moves to a state of this form, whose other fields are those of `rest`.
pub record Comes (P : Type 0) (form : State → State) (state : State)
    (moves : List Local) : Type 0 where
  pub rest : State
  pub way : Way P state moves (form rest)
  pub ram : rest.ram ≡ state.ram

-- A is set, R is set, and the word is fetched
pub head : {P : Type 0} (side : Side) (address count loop : ℕ) (state : State) → Comes P
    (in_loop side address count loop) (at_port side state) (head_moves side address count loop)
unfolding reading_of op_with
head side address count loop state =
    let one = push_data address state in
    let two = a_set one in
    let three = push_data count two in
    let four = pushed three in
    record {
      rest = four;
      way =
          fetches side SET_A state _ _ (
          literal side SET_A address Slot0 state _ _ tt refl (
          sets_a side SET_A Slot1 one _ _ tt refl (
          literal side SET_A count Slot2 two _ _ tt refl (
          nop side SET_A Slot3 three _ _ tt refl (
          fetches_next side SET_A PUSH three _ _ (
          pushes side PUSH Slot0 three _ _ tt refl (
          nop side PUSH Slot1 four _ _ tt refl (
          nop side PUSH Slot2 four _ _ tt refl (
          nop side PUSH Slot3 four _ _ tt refl (
          fetches_next side PUSH loop four _ _ (done _)))))))))));
      ram = refl;
    }

-- Each word is posted and seen to be read; R counts those that are left behind it.
sends : {P : Type 0} (side out : Side) (word : ℕ) (words : List ℕ) (state : State) → Comes P
    (in_slot side SEND Fetch) (in_loop side (port_address_of out) (length words) SEND state)
    (send_moves side out (word ∷ words))
unfolding reading_of op_with
sends side out word [] state =
    let one = pop_data (push_data word (with_r 0 state)) in
    record {
      rest = pop_return (with_a (port_address_of out) one);
      way =
          literal side SEND word Slot0 (with_a (port_address_of out) (with_r 0 state)) _ _ tt refl (
          posts side out SEND Slot1 (push_data word (with_r 0 state)) _ _ tt refl (
          ends_loop side SEND Slot2 (with_a (port_address_of out) one) _ _ tt refl (
          nop side SEND Slot3 (pop_return (with_a (port_address_of out) one)) _ _ tt refl
          (done _))));
      ram = refl;
    }
sends side out word (next ∷ words) state =
    let one = pop_data (push_data word (with_r (length (next ∷ words)) state)) in
    let more = sends side out next words one in
    record {
      rest = more.rest;
      way =
          literal side SEND word Slot0
          (with_a (port_address_of out) (with_r (length (next ∷ words)) state)) _ _ tt refl (
          posts side out SEND Slot1
          (push_data word (with_r (length (next ∷ words)) state)) _ _ tt refl (
          repeats side SEND (length words) Slot2
          (with_a (port_address_of out) one) _ _ tt refl more.way));
      ram = more.ram;
    }

-- the count that is sent is one less than the words
pub less : (n : ℕ) → suc n - 1 ≡ n
less n = omega arith

-- the pump of at least one word
pub pumps_on : {P : Type 0} (side out : Side) (word : ℕ) (words : List ℕ) (state : State)
    → Comes P (at_port side) (at_port side state) (pump_moves side out (word ∷ words))
pumps_on {P} side out word words state =
    let one : Comes P (in_loop side (port_address_of out) (length words) SEND) (at_port side state)
    (head_moves side (port_address_of out) (length words) SEND) =
    head side (port_address_of out) (length words) SEND state in
    let two : Comes P (in_slot side SEND Fetch) (in_loop side (port_address_of out) (length words)
    SEND one.rest) (send_moves side out (word ∷ words)) = sends side out word words one.rest in
    let first : Way P (at_port side state)
    (head_moves side (port_address_of out) (length (word ∷ words) - 1) SEND)
    (in_loop side (port_address_of out) (length words) SEND one.rest) =
    subst (λ n. Way P (at_port side state) (head_moves side (port_address_of out) n SEND) (in_loop
    side (port_address_of out) (length words) SEND one.rest)) (sym (less (length words))) one.way in
    record {
      rest = record two.rest { word = SEND };
      way = both _ _ _ (head_moves side (port_address_of out) (length (word ∷ words) - 1) SEND)
          (send_moves side out (word ∷ words)) first two.way;
      ram = two.ram ∙ one.ram;
    }

-- `. . . .` is taken, and run
pub closes : {P : Type 0} (side : Side) (state end : State) (moves : List Local)
    → Way P (at_port side (record state { word = NOPS })) moves end
    → Way P (in_slot side NOPS Slot0 state) (Own ∷ Own ∷ Own ∷ Own ∷ moves) end
unfolding reading_of op_with
closes side state end moves way =
    nop side NOPS Slot0 state _ _ tt refl (
    nop side NOPS Slot1 state _ _ tt refl (
    nop side NOPS Slot2 state _ _ tt refl (
    nop side NOPS Slot3 state _ _ tt refl way)))
