-- The moves of a node that executes from the port at one side, one at a time.
use Rattle.std.proofs.Common.{◌≡◌, ℕ, suc, ◌==◌, ◌-◌, Bool, false, List, [], ◌∷◌, ◌++◌, slice_set, Option, Some, None, refl, sym, ap, ◌∙◌, subst, arith}
use Rattle.std.specs.Prelude.{if◌then◌else◌, unwrap_or}
use Rattle.std.specs.List.{slice_get}
use Rattle.std.proofs.lemmas.Bool.{ne_eqb}
use Rattle.ga_word.specs.declared.op.Op.{Op}
use Rattle.ga_word.specs.declared.op.Op.TheVariants as op
use Rattle.ga_pack.specs.Decoded.{reading_of}
use Rattle.ga_place.specs.Address.{port_address_of, advance_of, where_is}
use Rattle.ga_place.specs.declared.address.Where.TheVariants as at
use Rattle.ga_place.specs.Side.{one_side, sides_with, side_bit}
use Rattle.ga_place.specs.declared.side.Side.{Side}
use Rattle.ga_place.specs.declared.side.Side.TheVariants.{Right, Down, Left, Up}
use Rattle.ga_node.specs.State.{State, slot_of, next_place, push_data, pop_data, push_return, pop_return}
use Rattle.ga_node.specs.Need.{wants, op_need, write_need}
use Rattle.ga_node.specs.Slot.{row, moved, written_at}
use Rattle.ga_node.specs.declared.need.Need.TheVariants as need
use Rattle.ga_node.specs.declared.place.Place.{Place}
use Rattle.ga_node.specs.declared.place.Place.TheVariants.{Fetch, Slot0, Slot1, Slot2, Slot3}
use Rattle.ga_boot.specs.inner.Local.{Local, Own, Take, Post, Check, given, lived, Suits, Goes, Calm}

-- The node goes along the moves, to the end state. If P holds, no move changes its memory.
pub record Way (P : Type 0) (state : State) (moves : List Local) (end : State) : Type 0 where
  pub goes : Goes state moves
  pub calm : P → Calm state moves
  pub to : lived state moves ≡ end

pub done : {P : Type 0} (state : State) → Way P state [] state
done state = record { goes = tt; calm = λ p. tt; to = refl }

-- one move, and then more
pub move : {P : Type 0} (state next end : State) (m : Local) (moves : List Local)
    → Suits m (wants state) → moved state (given m) ≡ next → (P → next.ram ≡ state.ram)
    → Way P next moves end → Way P state (m ∷ moves) end
move state next end m moves suits leads same way = record {
  goes = (suits, subst (λ s. Goes s moves) (sym leads) way.goes);
  calm = λ p. (ap (λ s. s.ram) leads ∙ same p, subst (λ s. Calm s moves) (sym leads) (way.calm p));
  to = ap (λ s. lived s moves) leads ∙ way.to;
}

pub goes-append : (state : State) (ms more : List Local) → Goes state ms
    → Goes (lived state ms) more → Goes state (ms ++ more)
goes-append state [] more g h = h
goes-append state (m ∷ ms) more g h = (g.0, goes-append (moved state (given m)) ms more g.1 h)

pub calm-append : (state : State) (ms more : List Local) → Calm state ms
    → Calm (lived state ms) more → Calm state (ms ++ more)
calm-append state [] more g h = h
calm-append state (m ∷ ms) more g h = (g.0, calm-append (moved state (given m)) ms more g.1 h)

pub lived-append : (state : State) (ms more : List Local)
    → lived state (ms ++ more) ≡ lived (lived state ms) more
lived-append state [] more = refl
lived-append state (m ∷ ms) more = lived-append (moved state (given m)) ms more

pub both : {P : Type 0} (state middle end : State) (ms more : List Local) → Way P state ms middle
    → Way P middle more end → Way P state (ms ++ more) end
both state middle end ms more way rest = record {
  goes = goes-append state ms more way.goes (subst (λ s. Goes s more) (sym way.to) rest.goes);
  calm = λ p. calm-append state ms more (way.calm p)
      (subst (λ s. Calm s more) (sym way.to) (rest.calm p));
  to = lived-append state ms more ∙ ap (λ s. lived s more) way.to ∙ rest.to;
}

-- the memory at the end, if no move changes it
pub calm_ram : (state : State) (ms : List Local) → Calm state ms → (lived state ms).ram ≡ state.ram
calm_ram state [] c = refl
calm_ram state (m ∷ ms) c = calm_ram (moved state (given m)) ms c.1 ∙ c.0

-- about to fetch at the port of a side
abbrev pub at_port : Side → State → State
at_port side state = record state { p = port_address_of side; place = Fetch; posted = None }

-- in a slot of a word that came from the port
abbrev pub in_slot : Side → ℕ → Place → State → State
in_slot side word place state =
    record state { p = port_address_of side; word = word; place = place; posted = None }

abbrev pub IsSlot : Place → Type 0
IsSlot Slot0 = Unit {0}
IsSlot Slot1 = Unit {0}
IsSlot Slot2 = Unit {0}
IsSlot Slot3 = Unit {0}
IsSlot _ = ⊥

-- the opcode in a slot of a word
abbrev pub op_at : ℕ → Place → Op
op_at word place = unwrap_or (slice_get (reading_of word).ops (slot_of place)) op.Nop

slot_moved : (side : Side) (word : ℕ) (place : Place) (state : State) (taken : Option ℕ)
    → IsSlot place → moved (in_slot side word place state) taken
    ≡ row (op_at word place) (in_slot side word place state) taken
slot_moved side word Slot0 state taken is = refl
slot_moved side word Slot1 state taken is = refl
slot_moved side word Slot2 state taken is = refl
slot_moved side word Slot3 state taken is = refl
slot_moved side word _ state taken is = absurd is

slot_wants : (side : Side) (word : ℕ) (place : Place) (state : State) → IsSlot place
    → wants (in_slot side word place state)
    ≡ op_need (op_at word place) (in_slot side word place state)
slot_wants side word Slot0 state is = refl
slot_wants side word Slot1 state is = refl
slot_wants side word Slot2 state is = refl
slot_wants side word Slot3 state is = refl
slot_wants side word _ state is = absurd is

-- an opcode in a slot
op_moved : (side : Side) (word : ℕ) (place : Place) (opcode : Op) (state : State) (taken : Option ℕ)
    → IsSlot place → op_at word place ≡ opcode
    → moved (in_slot side word place state) taken ≡ row opcode (in_slot side word place state) taken
op_moved side word place opcode state taken is e =
    slot_moved side word place state taken is
    ∙ ap (λ o. row o (in_slot side word place state) taken) e

op_wants : (side : Side) (word : ℕ) (place : Place) (opcode : Op) (state : State) → IsSlot place
    → op_at word place ≡ opcode
    → wants (in_slot side word place state) ≡ op_need opcode (in_slot side word place state)
op_wants side word place opcode state is e =
    slot_wants side word place state is ∙ ap (λ o. op_need o (in_slot side word place state)) e

-- a fetch at the port
fetch_wants : (side : Side) (state : State)
    → wants (at_port side state) ≡ need.Take (sides_with (side_bit side))
fetch_wants Right state = refl
fetch_wants Down state = refl
fetch_wants Left state = refl
fetch_wants Up state = refl

fetch_moved : (side : Side) (word : ℕ) (state : State)
    → moved (at_port side state) (Some word) ≡ in_slot side word Slot0 state
fetch_moved Right word state = refl
fetch_moved Down word state = refl
fetch_moved Left word state = refl
fetch_moved Up word state = refl

pub fetches : {P : Type 0} (side : Side) (word : ℕ) (state end : State) (moves : List Local)
    → Way P (in_slot side word Slot0 state) moves end
    → Way P (at_port side state) (Take side word ∷ moves) end
fetches side word state end moves way =
    move (at_port side state) (in_slot side word Slot0 state) end (Take side word) moves
    (fetch_wants side state) (fetch_moved side word state) (λ p. refl) way

-- and so behind slot 3 of a word
pub fetches_next : {P : Type 0} (side : Side) (old word : ℕ) (state end : State)
    (moves : List Local) → Way P (in_slot side word Slot0 state) moves end
    → Way P (in_slot side old Fetch state) (Take side word ∷ moves) end
fetches_next side old word state end moves way =
    fetches side word (record state { word = old }) end moves way

-- `@p` at the port
literal_wants : (side : Side) (word : ℕ) (place : Place) (state : State)
    → op_need op.FetchP (in_slot side word place state) ≡ need.Take (sides_with (side_bit side))
literal_wants Right word place state = refl
literal_wants Down word place state = refl
literal_wants Left word place state = refl
literal_wants Up word place state = refl

literal_row : (side : Side) (word value : ℕ) (place : Place) (state : State)
    → row op.FetchP (in_slot side word place state) (Some value)
    ≡ in_slot side word (next_place place) (push_data value state)
unfolding row
literal_row Right word value place state = refl
literal_row Down word value place state = refl
literal_row Left word value place state = refl
literal_row Up word value place state = refl

pub literal : {P : Type 0} (side : Side) (word value : ℕ) (place : Place) (state end : State)
    (moves : List Local) → IsSlot place → op_at word place ≡ op.FetchP
    → Way P (in_slot side word (next_place place) (push_data value state)) moves end
    → Way P (in_slot side word place state) (Take side value ∷ moves) end
literal side word value place state end moves is e way =
    move (in_slot side word place state)
    (in_slot side word (next_place place) (push_data value state)) end (Take side value) moves
    (op_wants side word place op.FetchP state is e ∙ literal_wants side word place state)
    (op_moved side word place op.FetchP state (Some value) is e
    ∙ literal_row side word value place state) (λ p. refl) way

-- `.`
pub nop : {P : Type 0} (side : Side) (word : ℕ) (place : Place) (state end : State)
    (moves : List Local) → IsSlot place → op_at word place ≡ op.Nop
    → Way P (in_slot side word (next_place place) state) moves end
    → Way P (in_slot side word place state) (Own ∷ moves) end
unfolding row
nop side word place state end moves is e way =
    move (in_slot side word place state) (in_slot side word (next_place place) state) end Own moves
    (op_wants side word place op.Nop state is e) (op_moved side word place op.Nop state None is e)
    (λ p. refl) way

-- `a!`
abbrev pub a_set : State → State
a_set state = pop_data (record state { a = state.t })

pub sets_a : {P : Type 0} (side : Side) (word : ℕ) (place : Place) (state end : State)
    (moves : List Local) → IsSlot place → op_at word place ≡ op.AStore
    → Way P (in_slot side word (next_place place) (a_set state)) moves end
    → Way P (in_slot side word place state) (Own ∷ moves) end
unfolding row
sets_a side word place state end moves is e way =
    move (in_slot side word place state) (in_slot side word (next_place place) (a_set state)) end
    Own moves (op_wants side word place op.AStore state is e)
    (op_moved side word place op.AStore state None is e) (λ p. refl) way

-- `push`
abbrev pub pushed : State → State
pushed state = pop_data (push_return state.t state)

pub pushes : {P : Type 0} (side : Side) (word : ℕ) (place : Place) (state end : State)
    (moves : List Local) → IsSlot place → op_at word place ≡ op.Push
    → Way P (in_slot side word (next_place place) (pushed state)) moves end
    → Way P (in_slot side word place state) (Own ∷ moves) end
unfolding row
pushes side word place state end moves is e way =
    move (in_slot side word place state) (in_slot side word (next_place place) (pushed state)) end
    Own moves (op_wants side word place op.Push state is e)
    (op_moved side word place op.Push state None is e) (λ p. refl) way

-- `!` with A at a port: the word is posted, and then seen to be read
abbrev pub with_a : ℕ → State → State
with_a address state = record state { a = address }

abbrev pub checking : Side → ℕ → Place → Side → ℕ → State → State
checking side word place out value state =
    record (in_slot side word place state) { posted = Some (out, value) }

store_wants : (side out : Side) (word : ℕ) (place : Place) (state : State) → op_need op.Store
    (in_slot side word place (with_a (port_address_of out) state)) ≡ need.Post out state.t
store_wants side Right word place state = refl
store_wants side Down word place state = refl
store_wants side Left word place state = refl
store_wants side Up word place state = refl

store_row : (side out : Side) (word : ℕ) (place : Place) (state : State)
    → row op.Store (in_slot side word place (with_a (port_address_of out) state)) None
    ≡ checking side word place out state.t (with_a (port_address_of out) (pop_data state))
unfolding row
store_row side Right word place state = refl
store_row side Down word place state = refl
store_row side Left word place state = refl
store_row side Up word place state = refl

check_wants : (side out : Side) (word value : ℕ) (place : Place) (state : State) → IsSlot place
    → wants (checking side word place out value state) ≡ need.Check out
check_wants side out word value Slot0 state is = refl
check_wants side out word value Slot1 state is = refl
check_wants side out word value Slot2 state is = refl
check_wants side out word value Slot3 state is = refl
check_wants side out word value _ state is = absurd is

check_moved : (side out : Side) (word value : ℕ) (place : Place) (state : State) → IsSlot place
    → moved (checking side word place out value state) None
    ≡ in_slot side word (next_place place) state
check_moved side out word value Slot0 state is = refl
check_moved side out word value Slot1 state is = refl
check_moved side out word value Slot2 state is = refl
check_moved side out word value Slot3 state is = refl
check_moved side out word value _ state is = absurd is

pub posts : {P : Type 0} (side out : Side) (word : ℕ) (place : Place) (state end : State)
    (moves : List Local) → IsSlot place → op_at word place ≡ op.Store → Way P
    (in_slot side word (next_place place) (with_a (port_address_of out) (pop_data state))) moves end
    → Way P (in_slot side word place (with_a (port_address_of out) state))
    (Post out state.t ∷ Check out ∷ moves) end
posts side out word place state end moves is e way =
    move (in_slot side word place (with_a (port_address_of out) state))
    (checking side word place out state.t (with_a (port_address_of out) (pop_data state))) end
    (Post out state.t) (Check out ∷ moves)
    (op_wants side word place op.Store (with_a (port_address_of out) state) is e
    ∙ store_wants side out word place state)
    (op_moved side word place op.Store (with_a (port_address_of out) state) None is e
    ∙ store_row side out word place state) (λ p. refl)
    (move (checking side word place out state.t (with_a (port_address_of out) (pop_data state)))
    (in_slot side word (next_place place) (with_a (port_address_of out) (pop_data state))) end
    (Check out) moves
    (check_wants side out word state.t place (with_a (port_address_of out) (pop_data state)) is)
    (check_moved side out word state.t place (with_a (port_address_of out) (pop_data state)) is)
    (λ p. refl) way)

-- `unext`: R counts down, and the word runs again; or R is popped
abbrev pub with_r : ℕ → State → State
with_r count state = record state { r = count }

again : (b : Bool) (x y : State) → b ≡ false → (if b then x else y) ≡ y
again b x y e = rw e refl

pub not_zero : (n : ℕ) → (suc n == 0) ≡ false
not_zero n = ne_eqb (suc n) 0 (λ e. absurd (apart n e))
  where
    apart : (k : ℕ) → suc k ≡ 0 → ⊥
    apart k e = omega arith

less : (n : ℕ) → suc n - 1 ≡ n
less n = omega arith

pub repeats : {P : Type 0} (side : Side) (word count : ℕ) (place : Place) (state end : State)
    (moves : List Local) → IsSlot place → op_at word place ≡ op.Micronext
    → Way P (in_slot side word Slot0 (with_r count state)) moves end
    → Way P (in_slot side word place (with_r (suc count) state)) (Own ∷ moves) end
unfolding row
repeats side word count place state end moves is e way =
    move (in_slot side word place (with_r (suc count) state))
    (in_slot side word Slot0 (with_r count state)) end Own moves
    (op_wants side word place op.Micronext (with_r (suc count) state) is e)
    (op_moved side word place op.Micronext (with_r (suc count) state) None is e
    ∙ again (suc count == 0) _ _ (not_zero count)
    ∙ ap (λ n. in_slot side word Slot0 (with_r n state)) (less count)) (λ p. refl) way

pub ends_loop : {P : Type 0} (side : Side) (word : ℕ) (place : Place) (state end : State)
    (moves : List Local) → IsSlot place → op_at word place ≡ op.Micronext
    → Way P (in_slot side word (next_place place) (pop_return state)) moves end
    → Way P (in_slot side word place (with_r 0 state)) (Own ∷ moves) end
unfolding row
ends_loop side word place state end moves is e way =
    move (in_slot side word place (with_r 0 state))
    (in_slot side word (next_place place) (pop_return state)) end Own moves
    (op_wants side word place op.Micronext (with_r 0 state) is e)
    (op_moved side word place op.Micronext (with_r 0 state) None is e) (λ p. refl) way

-- `!+` with A in memory
store_plus_wants : (side : Side) (word index : ℕ) (place : Place) (state : State)
    → where_is state.a ≡ at.Ram index
    → op_need op.StorePlus (in_slot side word place state) ≡ need.Own
store_plus_wants side word index place state e = ap (λ w. write_need w state.t) e

store_plus_row : (side : Side) (word index : ℕ) (place : Place) (state : State)
    → where_is state.a ≡ at.Ram index
    → row op.StorePlus (in_slot side word place state) None ≡ in_slot side word (next_place place)
    (pop_data (record state { ram = slice_set state.ram index state.t; a = advance_of state.a }))
unfolding row
store_plus_row side word index place state e =
    ap (λ w.
    pop_data (record (written_at w (in_slot side word place state)) { a = advance_of state.a })) e

pub stores : {P : Type 0} (side : Side) (word index : ℕ) (place : Place) (state end : State)
    (moves : List Local) → (P → ⊥) → IsSlot place → op_at word place ≡ op.StorePlus
    → where_is state.a ≡ at.Ram index → Way P (in_slot side word (next_place place)
    (pop_data (record state { ram = slice_set state.ram index state.t; a = advance_of state.a })))
    moves end → Way P (in_slot side word place state) (Own ∷ moves) end
stores side word index place state end moves none is e there way =
    move (in_slot side word place state) (in_slot side word (next_place place)
    (pop_data (record state { ram = slice_set state.ram index state.t; a = advance_of state.a })))
    end Own moves
    (op_wants side word place op.StorePlus state is e
    ∙ store_plus_wants side word index place state there)
    (op_moved side word place op.StorePlus state None is e
    ∙ store_plus_row side word index place state there) (λ p. absurd (none p)) way

-- `jump` in slot 0, wherever P is
abbrev pub in_slot0 : ℕ → State → State
in_slot0 word state = record state { word = word; place = Slot0; posted = None }

abbrev pub fetching : ℕ → State → State
fetching address state = record state { p = address; place = Fetch; posted = None }

abbrev pub with_word : ℕ → State → State
with_word word state = record state { word = word }

pub jumps : {P : Type 0} (word dest : ℕ) (state end : State) (moves : List Local)
    → op_at word Slot0 ≡ op.Jump → (reading_of word).dest ≡ Some dest
    → Way P (fetching dest (with_word word state)) moves end
    → Way P (in_slot0 word state) (Own ∷ moves) end
unfolding row
jumps word dest state end moves e to way =
    move (in_slot0 word state) (fetching dest (with_word word state)) end Own moves
    (ap (λ o. op_need o (in_slot0 word state)) e)
    (ap (λ o. row o (in_slot0 word state) None) e
    ∙ ap (λ d. fetching (unwrap_or d 0) (with_word word state)) to) (λ p. refl) way
