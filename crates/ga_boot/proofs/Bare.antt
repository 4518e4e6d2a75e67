-- A node's count of steps changes nothing else.
use Rattle.std.proofs.Common.{◌≡◌, ℕ, ◌==◌, ◌-◌, ◌/◌, ◌^◌, Bool, true, false, Option, Some, None, refl, sym, ap}
use Rattle.std.specs.Prelude.{if◌then◌else◌, unwrap_or}
use Rattle.ga_word.specs.declared.op.Op.{Op}
use Rattle.ga_word.specs.declared.op.Op.TheVariants as op
use Rattle.ga_place.specs.Address.{where_is, advance_of}
use Rattle.ga_place.specs.declared.side.Side.{Side}
use Rattle.ga_place.specs.declared.address.Where.{Where}
use Rattle.ga_place.specs.declared.address.Where.TheVariants as at
use Rattle.ga_node.specs.State.{State, op_of, push_data, pop_data, pop_return, go_on, to_fetch}
use Rattle.ga_node.specs.Need.{wants, need_at, op_need, slot_need}
use Rattle.ga_node.specs.Fetch.{found_word}
use Rattle.ga_node.specs.Slot.{row, moved, step, step_at, slot_step, written_at, jumped}
use Rattle.ga_node.specs.Loader.{MORE, frame_ended, with_left, word_done, stored, with_io, body_taken, body_posted, body_step}
use Rattle.ga_node.specs.declared.place.Place.{Place}
use Rattle.ga_node.specs.declared.place.Place.TheVariants as place

-- the state with its steps counted anew
abbrev pub bare : State → State
bare state = record state { steps = 0 }

either : (b : Bool) (x y x' y' : State) → x' ≡ bare x → y' ≡ bare y
    → (if b then x' else y') ≡ bare (if b then x else y)
either true x y x' y' p q = p
either false x y x' y' p q = q

found_bare : (w : Where) (state : State) (taken : Option ℕ)
    → found_word w (bare state) taken ≡ found_word w state taken
found_bare (at.Ram index) state taken = refl
found_bare (at.Rom index) state taken = refl
found_bare (at.Ports sides) state taken = refl
found_bare at.Io state taken = refl
found_bare at.Unmapped state taken = refl

written_bare : (w : Where) (state : State) → written_at w (bare state) ≡ bare (written_at w state)
written_bare (at.Ram index) state = refl
written_bare (at.Rom index) state = refl
written_bare (at.Ports sides) state = refl
written_bare at.Io state = refl
written_bare at.Unmapped state = refl

row_bare : (opcode : Op) (state : State) (taken : Option ℕ)
    → row opcode (bare state) taken ≡ bare (row opcode state taken)
unfolding row
row_bare op.Return state taken = refl
row_bare op.Execute state taken = refl
row_bare op.Jump state taken = refl
row_bare op.Call state taken = refl
row_bare op.Micronext state taken = either (state.r == 0) _ _ _ _ refl refl
row_bare op.Next state taken =
    ap to_fetch
    (either (state.r == 0) (pop_return state) (record (jumped state) { r = state.r - 1 })
    (pop_return (bare state)) (record (jumped (bare state)) { r = state.r - 1 }) refl refl)
row_bare op.If state taken =
    ap to_fetch
    (either (state.t == 0) (jumped state) state (jumped (bare state)) (bare state) refl refl)
row_bare op.MinusIf state taken =
    ap to_fetch (either (state.t / 2 ^ 17 == 0) (jumped state) state (jumped (bare state))
    (bare state) refl refl)
row_bare op.FetchP state taken =
    ap (λ w. go_on (push_data w (record (bare state) { p = advance_of state.p })))
    (found_bare (where_is state.p) state taken)
row_bare op.FetchPlus state taken =
    ap (λ w. go_on (push_data w (record (bare state) { a = advance_of state.a })))
    (found_bare (where_is state.a) state taken)
row_bare op.FetchB state taken =
    ap (λ w. go_on (push_data w (bare state))) (found_bare (where_is state.b) state taken)
row_bare op.Fetch state taken =
    ap (λ w. go_on (push_data w (bare state))) (found_bare (where_is state.a) state taken)
row_bare op.StoreP state taken =
    ap (λ s. pop_data (record s { p = advance_of state.p })) (written_bare (where_is state.p) state)
row_bare op.StorePlus state taken =
    ap (λ s. pop_data (record s { a = advance_of state.a })) (written_bare (where_is state.a) state)
row_bare op.StoreB state taken = ap pop_data (written_bare (where_is state.b) state)
row_bare op.Store state taken = ap pop_data (written_bare (where_is state.a) state)
row_bare op.MultiplyStep state taken = refl
row_bare op.TwoStar state taken = refl
row_bare op.TwoSlash state taken = refl
row_bare op.Not state taken = refl
row_bare op.Plus state taken = refl
row_bare op.And state taken = refl
row_bare op.Or state taken = refl
row_bare op.Drop state taken = refl
row_bare op.Dup state taken = refl
row_bare op.Pop state taken = refl
row_bare op.Over state taken = refl
row_bare op.A state taken = refl
row_bare op.Nop state taken = refl
row_bare op.Push state taken = refl
row_bare op.BStore state taken = refl
row_bare op.AStore state taken = refl

ended_bare : (state : State) → frame_ended (bare state) ≡ bare (frame_ended state)
ended_bare state = either (state.loader.completion == MORE) _ _ _ _ refl refl

next_bare : (state : State) → word_done (bare state) ≡ bare (word_done state)
next_bare state =
    either (state.loader.left == 1) (frame_ended (with_left 0 state))
    (with_left (state.loader.left - 1) state) (frame_ended (with_left 0 (bare state)))
    (with_left (state.loader.left - 1) (bare state)) (ended_bare (with_left 0 state)) refl

body_bare : (w : Where) (state : State) (word : ℕ)
    → body_taken w word (bare state) ≡ bare (body_taken w word state)
body_bare (at.Ram index) state word = next_bare (stored index word state)
body_bare (at.Rom index) state word = refl
body_bare (at.Ports sides) state word = refl
body_bare at.Io state word = next_bare (with_io word state)
body_bare at.Unmapped state word = refl

held_bare : (w : Where) (state : State) (word : ℕ)
    → body_posted w word (bare state) ≡ bare (body_posted w word state)
held_bare (at.Ports sides) state word = refl
held_bare _ state word = refl

step_body : (post : Option (Side × ℕ)) (held : Option ℕ) (state : State) (word : ℕ)
    → body_step post held (bare state) word ≡ bare (body_step post held state word)
step_body (Some post) held state word = next_bare (record state { posted = None })
step_body None (Some held) state word = held_bare (where_is state.loader.transfer) state held
step_body None None state word = body_bare (where_is state.loader.transfer) state word

slot_bare : (post : Option (Side × ℕ)) (state : State) (taken : Option ℕ)
    → slot_step post (bare state) taken ≡ bare (slot_step post state taken)
slot_bare (Some post) state taken = refl
slot_bare None state taken = row_bare (op_of state) state taken

place_bare : (p : Place) (state : State) (taken : Option ℕ)
    → step_at p (bare state) taken ≡ bare (step_at p state taken)
place_bare place.Fetch state taken =
    ap (λ w. record (bare state) { word = w; p = advance_of state.p; place = place.Slot0 })
    (found_bare (where_is state.p) state taken)
place_bare place.Slot0 state taken = slot_bare state.posted state taken
place_bare place.Slot1 state taken = slot_bare state.posted state taken
place_bare place.Slot2 state taken = slot_bare state.posted state taken
place_bare place.Slot3 state taken = slot_bare state.posted state taken
place_bare place.Completion state taken = refl
place_bare place.Transfer state taken = refl
place_bare place.Count state taken =
    either (unwrap_or taken 0 == 0) (frame_ended (with_left 0 state))
    (record (with_left (unwrap_or taken 0) state) { place = place.Body })
    (frame_ended (with_left 0 (bare state))) (record (with_left (unwrap_or taken 0) (bare state))
    { place = place.Body }) (ended_bare (with_left 0 state)) refl
place_bare place.Body state taken =
    step_body state.posted state.loader.held state (unwrap_or taken 0)

-- a step, its count aside
pub step_bare : (state : State) (taken : Option ℕ)
    → bare (step state taken) ≡ moved (bare state) taken
unfolding step
step_bare state taken = sym (place_bare state.place state taken)

op_need_bare : (opcode : Op) (state : State) → op_need opcode (bare state) ≡ op_need opcode state
op_need_bare op.FetchP state = refl
op_need_bare op.FetchPlus state = refl
op_need_bare op.FetchB state = refl
op_need_bare op.Fetch state = refl
op_need_bare op.StoreP state = refl
op_need_bare op.StorePlus state = refl
op_need_bare op.StoreB state = refl
op_need_bare op.Store state = refl
op_need_bare _ state = refl

slot_need_bare : (post : Option (Side × ℕ)) (state : State)
    → slot_need post (op_of state) (bare state) ≡ slot_need post (op_of state) state
slot_need_bare (Some post) state = refl
slot_need_bare None state = op_need_bare (op_of state) state

need_at_bare : (p : Place) (state : State) → need_at p (bare state) ≡ need_at p state
need_at_bare place.Fetch state = refl
need_at_bare place.Slot0 state = slot_need_bare state.posted state
need_at_bare place.Slot1 state = slot_need_bare state.posted state
need_at_bare place.Slot2 state = slot_need_bare state.posted state
need_at_bare place.Slot3 state = slot_need_bare state.posted state
need_at_bare place.Completion state = refl
need_at_bare place.Transfer state = refl
need_at_bare place.Count state = refl
need_at_bare place.Body state = refl

pub wants_bare : (state : State) → wants (bare state) ≡ wants state
wants_bare state = need_at_bare state.place state

pub moved_bare : (state : State) (taken : Option ℕ)
    → moved (bare state) taken ≡ bare (moved state taken)
moved_bare state taken = place_bare state.place state taken
