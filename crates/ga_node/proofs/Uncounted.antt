-- A node's number of steps changes nothing that it does, so a node that spins still spins.
use Rattle.std.proofs.Common.{◌≡◌, ℕ, ◌≤◌, ◌<◌, ◌==◌, zero, suc, Bool, true, false, ◌⊎◌, inl, inr, Option, Some, None, unwrap_or, refl, sym, ap, ◌∙◌, arith}
use Rattle.std.specs.Prelude.{◌-◌, ◌/◌, ◌%◌, ◌^◌, if◌then◌else◌}
use Rattle.std.proofs.lemmas.Bool.{cases_lt}
use Rattle.ga_word.specs.declared.op.Op.{Op}
use Rattle.ga_word.specs.declared.op.Op.TheVariants as op
use Rattle.ga_place.specs.Address.{advance_of, where_is}
use Rattle.ga_place.specs.declared.side.Side.{Side}
use Rattle.ga_place.specs.declared.address.Where.{Where}
use Rattle.ga_place.specs.declared.address.Where.TheVariants as at
use Rattle.ga_node.specs.State.{State, go_on, op_of, pop_data, pop_return, push_data, to_fetch}
use Rattle.ga_node.specs.Need.{checked_or, need_at, op_need, wants}
use Rattle.ga_node.specs.Fetch.{found_word}
use Rattle.ga_node.specs.Loader.{MORE, body_posted, body_step, body_taken, count_taken, frame_ended, stored, with_io, with_left, word_done}
use Rattle.ga_node.specs.Slot.{jumped, moved, row, slot_step, step, step_at, written_at}
use Rattle.ga_node.specs.declared.need.Need.TheVariants as need
use Rattle.ga_node.specs.declared.place.Place.{Place}
use Rattle.ga_node.specs.declared.place.Place.TheVariants.{Fetch, Slot0, Completion, Transfer, Count, Body}
use Rattle.ga_node.specs.Running.{own_run}
use Rattle.ga_node.specs.Spins.{Spins, StillSpins, uncounted}

-- a choice of two states leaves out the number of steps
either : (b : Bool) (one other : State) (x y : State) → one ≡ uncounted x → other ≡ uncounted y
    → (if b then one else other) ≡ uncounted (if b then x else y)
either true one other x y e f = e
either false one other x y e f = f

-- a read finds the same word, whatever the number of steps
found_same : (place : Where) (state : State) (taken : Option ℕ)
    → found_word place (uncounted state) taken ≡ found_word place state taken
found_same (at.Ram index) state taken = refl
found_same _ state taken = refl

-- a write changes the same, but for the number of steps
written_same : (place : Where) (state : State)
    → written_at place (uncounted state) ≡ uncounted (written_at place state)
written_same (at.Ram index) state = refl
written_same _ state = refl

-- an opcode does the same, but for the number of steps
row_same : (opcode : Op) (state : State) (taken : Option ℕ)
    → row opcode (uncounted state) taken ≡ uncounted (row opcode state taken)
unfolding row
row_same op.Micronext state taken =
    either (state.r == 0) _ _ (go_on (pop_return state))
    (record state { r = state.r - 1; place = Slot0 }) refl refl
row_same op.Next state taken =
    ap to_fetch (either (state.r == 0) _ _ (pop_return state)
    (record (jumped state) { r = state.r - 1 }) refl refl)
row_same op.If state taken = ap to_fetch (either (state.t == 0) _ _ (jumped state) state refl refl)
row_same op.MinusIf state taken =
    ap to_fetch (either (state.t / 2 ^ 17 == 0) _ _ (jumped state) state refl refl)
row_same op.FetchP state taken =
    ap (λ word. go_on (push_data word (record (uncounted state) { p = advance_of state.p })))
    (found_same (where_is state.p) state taken)
row_same op.FetchPlus state taken =
    ap (λ word. go_on (push_data word (record (uncounted state) { a = advance_of state.a })))
    (found_same (where_is state.a) state taken)
row_same op.FetchB state taken =
    ap (λ word. go_on (push_data word (uncounted state)))
    (found_same (where_is state.b) state taken)
row_same op.Fetch state taken =
    ap (λ word. go_on (push_data word (uncounted state)))
    (found_same (where_is state.a) state taken)
row_same op.StoreP state taken =
    ap (λ (s : State). pop_data (record s { p = advance_of state.p }))
    (written_same (where_is state.p) state)
row_same op.StorePlus state taken =
    ap (λ (s : State). pop_data (record s { a = advance_of state.a }))
    (written_same (where_is state.a) state)
row_same op.StoreB state taken = ap pop_data (written_same (where_is state.b) state)
row_same op.Store state taken = ap pop_data (written_same (where_is state.a) state)
row_same _ state taken = refl

-- a step in a slot does the same
slot_same : (post : Option (Side × ℕ)) (state : State) (taken : Option ℕ)
    → slot_step post (uncounted state) taken ≡ uncounted (slot_step post state taken)
slot_same (Some post) state taken = refl
slot_same None state taken = row_same (op_of state) state taken

-- the end of a frame does the same
ended_same : (state : State) → frame_ended (uncounted state) ≡ uncounted (frame_ended state)
ended_same state = either (state.loader.completion == MORE) _ _
    (record state { place = Completion })
    (record state { p = state.loader.completion % 2 ^ 10; place = Fetch }) refl refl

-- the end of a word of a frame does the same
done_same : (state : State) → word_done (uncounted state) ≡ uncounted (word_done state)
done_same state = either (state.loader.left == 1) _ _ (frame_ended (with_left 0 state))
    (with_left (state.loader.left - 1) state) (ended_same (with_left 0 state)) refl

-- a word that comes in does the same
taken_same : (place : Where) (word : ℕ) (state : State)
    → body_taken place word (uncounted state) ≡ uncounted (body_taken place word state)
taken_same (at.Ram index) word state = done_same (stored index word state)
taken_same at.Io word state = done_same (with_io word state)
taken_same _ word state = refl

-- a word that is posted does the same
posted_same : (place : Where) (word : ℕ) (state : State)
    → body_posted place word (uncounted state) ≡ uncounted (body_posted place word state)
posted_same (at.Ram index) word state = refl
posted_same _ word state = refl

-- the count of a frame does the same
count_same : (word : ℕ) (state : State)
    → count_taken word (uncounted state) ≡ uncounted (count_taken word state)
count_same word state =
    either (word == 0) _ _ (frame_ended (with_left 0 state))
    (record (with_left word state) { place = Body }) (ended_same (with_left 0 state)) refl

-- a step in the body of a frame does the same
body_same : (post : Option (Side × ℕ)) (held : Option ℕ) (state : State) (word : ℕ)
    → body_step post held (uncounted state) word ≡ uncounted (body_step post held state word)
body_same (Some post) held state word = done_same (record state { posted = None })
body_same None (Some held) state word = posted_same (where_is state.loader.transfer) held state
body_same None None state word = taken_same (where_is state.loader.transfer) word state

-- a step at each place does the same
place_same : (place : Place) (state : State) (taken : Option ℕ)
    → step_at place (uncounted state) taken ≡ uncounted (step_at place state taken)
place_same Fetch state taken =
    ap (λ word. record (uncounted state) { word = word; p = advance_of state.p; place = Slot0 })
    (found_same (where_is state.p) state taken)
place_same Completion state taken = refl
place_same Transfer state taken = refl
place_same Count state taken = count_same (unwrap_or taken 0) state
place_same Body state taken = body_same state.posted state.loader.held state (unwrap_or taken 0)
place_same _ state taken = slot_same state.posted state taken

-- A step does the same, but for the number of steps.
pub step_same : (one two : State) (taken : Option ℕ) → uncounted one ≡ uncounted two
    → uncounted (step one taken) ≡ uncounted (step two taken)
unfolding step
step_same one two taken e = sym (place_same one.place one taken) ∙ ap (λ s. moved s taken) e
    ∙ place_same two.place two taken

-- an opcode needs the same, whatever the number of steps
op_same : (opcode : Op) (state : State) → op_need opcode (uncounted state) ≡ op_need opcode state
op_same op.Nop state = refl
op_same _ state = refl

-- a node needs the same at each place
need_same : (place : Place) (state : State) → need_at place (uncounted state) ≡ need_at place state
need_same Fetch state = refl
need_same Completion state = refl
need_same Transfer state = refl
need_same Count state = refl
need_same Body state = refl
need_same _ state = ap (checked_or state.posted) (op_same (op_of state) state)

-- States that are equal but for the number of steps have the same need.
pub wants_same : (one two : State) → uncounted one ≡ uncounted two → wants one ≡ wants two
wants_same one two e = sym (need_same one.place one) ∙ ap wants e ∙ need_same two.place two

-- a step before own steps is a step behind them
pub own_next : (steps : ℕ) (state : State)
    → own_run steps (step state None) ≡ step (own_run steps state) None
own_next zero state = refl
own_next (suc steps) state = own_next steps (step state None)

-- A node that spins has own work to do.
pub spins_own : (state : State) → Spins state → wants state ≡ need.Own
spins_own state spins = spins.own 0 spins.some

-- A node that spins still spins after an own step.
unfoldable pub spins_next : (state : State) → Spins state → Spins (step state None)
spins_next state spins = record {
  period = spins.period;
  some = spins.some;
  own = λ steps below. by steps (cases_lt (suc steps) spins.period) below;
  back = ap uncounted (own_next spins.period state)
      ∙ step_same (own_run spins.period state) state None spins.back;
}
  where
    by : (steps : ℕ) → (suc steps < spins.period) ⊎ (spins.period ≤ suc steps)
        → steps < spins.period → wants (own_run steps (step state None)) ≡ need.Own
    by steps (inl h) below = spins.own (suc steps) h
    by steps (inr h) below =
        let last : suc steps ≡ spins.period = omega arith in
        ap (λ n. wants (own_run n state)) last
        ∙ wants_same (own_run spins.period state) state spins.back ∙ spins_own state spins

-- and after any number of own steps
pub still_spins : StillSpins
still_spins state zero spins = spins
still_spins state (suc steps) spins = still_spins (step state None) steps (spins_next state spins)
