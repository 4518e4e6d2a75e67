-- What a step does to the words below the top ones of a node's stacks.
use Rattle.std.proofs.Common.{◌≡◌, ◌∙◌, ℕ, zero, suc, ◌+◌, ◌-◌, ◌/◌, ◌==◌, ◌^◌, ◌<◌, ◌≤◌, Bool, true, false, List, [], ◌∷◌, length, length-append, length-take, get_or, min, slice_index, take, Option, Some, None, unwrap_or, refl, sym, ap, subst, arith}
use Rattle.std.specs.Prelude.{if◌then◌else◌}
use Rattle.std.proofs.lemmas.List.{get_or-take, get_or_append_left}
use Rattle.ga_word.specs.declared.op.Op.{Op}
use Rattle.ga_word.specs.declared.op.Op.TheVariants as op
use Rattle.ga_place.specs.Address.{where_is}
use Rattle.ga_place.specs.declared.address.Where.{Where}
use Rattle.ga_place.specs.declared.address.Where.TheVariants as at
use Rattle.ga_place.specs.declared.side.Side.{Side}
use Rattle.ga_node.specs.State.{State, op_at, op_of, pop_data, rotated}
use Rattle.ga_node.specs.Loader.{MORE, body_posted, body_step, body_taken, count_taken, frame_ended, stored, with_io, with_left, word_done}
use Rattle.ga_node.specs.Slot.{row, slot_step, step, step_at, written_at}
use Rattle.ga_node.specs.declared.place.Place.{Place}
use Rattle.ga_node.specs.declared.place.Place.TheVariants.{Fetch, Slot0, Slot1, Slot2, Slot3, Completion, Transfer, Count, Body}
use Rattle.ga_observe.specs.Step.{op_run}
use Rattle.ga_trace.specs.Depth.{changed, data_change, loop_change, return_change}
use Rattle.ga_laws.specs.Stacks.{HasStacks, Stack, Data, Return, room_of, words_of}

-- ---- what happens to a stack

pub data Shift : Type 0 where
  Push : Shift
  Pop : Shift
  Keep : Shift

-- how many words there are then
abbrev pub shift_words : Shift → ℕ → ℕ
shift_words Push words = min (words + 1) (2 ^ 64 - 1)
shift_words Pop words = words - 1
shift_words Keep words = words

-- what happened to a stack of one word, by how many it has then
abbrev shift_by : ℕ → Shift
shift_by words = if words == 2 then Push else if words == 0 then Pop else Keep

abbrev pub data_shift : Op → Shift
data_shift opcode = shift_by (changed (data_change opcode) 1)

abbrev loop_shift : ℕ → Shift
loop_shift r = if r == 0 then Pop else Keep

abbrev pub return_shift : Op → ℕ → Shift
return_shift op.Micronext r = loop_shift r
return_shift op.Next r = loop_shift r
return_shift opcode r = shift_by (changed (return_change opcode r) 1)

pub data_counts : (opcode : Op) (words : ℕ)
    → changed (data_change opcode) words ≡ shift_words (data_shift opcode) words
data_counts op.Return words = refl
data_counts _ words = refl

loop_counts : (ends : Bool) (words : ℕ)
    → changed (if ends then loop_change 0 else loop_change 1) words
    ≡ shift_words (if ends then Pop else Keep) words
loop_counts true words = refl
loop_counts false words = refl

pub return_counts : (opcode : Op) (r words : ℕ)
    → changed (return_change opcode r) words ≡ shift_words (return_shift opcode r) words
return_counts op.Micronext r words = loop_counts (r == 0) words
return_counts op.Next r words = loop_counts (r == 0) words
return_counts _ r words = refl

-- ---- the words below the top ones

abbrev data_below : Shift → State → List ℕ
data_below Push state = state.t ∷ state.s ∷ take 7 state.data_stack
data_below Pop state = slice_index state.data_stack 0 ∷ rotated state.data_stack
data_below Keep state = state.s ∷ state.data_stack

abbrev return_below : Shift → State → List ℕ
return_below Push state = state.r ∷ take 7 state.return_stack
return_below Pop state = rotated state.return_stack
return_below Keep state = state.return_stack

abbrev below : Shift → Shift → State → List ℕ × List ℕ
below one two state = (data_below one state, return_below two state)

-- what the work of an opcode does to a stack, by R; a step that does no work leaves it
abbrev pub shift_of : Stack → Option Op → ℕ → Shift
shift_of stack None r = Keep
shift_of Data (Some opcode) r = data_shift opcode
shift_of Return (Some opcode) r = return_shift opcode r

-- the words below the top ones of a state, and those of the next one
abbrev pub Leaves : Option Op → State → State → Type 0
Leaves worked state next =
    below Keep Keep next
    ≡ below (shift_of Data worked state.r) (shift_of Return worked state.r) state

-- ---- the rows

either : (b : Bool) (P : State → Type 0) (x y : State) → P x → P y → P (if b then x else y)
either true P x y p q = p
either false P x y p q = q

loop_leaves : (ends : Bool) (state one two : State)
    → below Keep Keep one ≡ below Keep Pop state → below Keep Keep two ≡ below Keep Keep state
    → below Keep Keep (if ends then one else two) ≡ below Keep (if ends then Pop else Keep) state
loop_leaves true state one two pop keep = pop
loop_leaves false state one two pop keep = keep

write_leaves : (place : Where) (state : State)
    → below Keep Keep (pop_data (written_at place state)) ≡ below Pop Keep state
write_leaves (at.Ram index) state = refl
write_leaves _ state = refl

row_leaves : (opcode : Op) (state : State) (taken : Option ℕ)
    → Leaves (Some opcode) state (row opcode state taken)
unfolding row
row_leaves op.Micronext state taken = loop_leaves (state.r == 0) state _ _ refl refl
row_leaves op.Next state taken = loop_leaves (state.r == 0) state _ _ refl refl
row_leaves op.If state taken = either (state.t == 0) (Leaves None state) _ _ refl refl
row_leaves op.MinusIf state taken =
    either (state.t / 2 ^ 17 == 0) (Leaves None state) _ _ refl refl
row_leaves op.StoreP state taken = write_leaves (where_is state.p) state
row_leaves op.StorePlus state taken = write_leaves (where_is state.a) state
row_leaves op.StoreB state taken = write_leaves (where_is state.b) state
row_leaves op.Store state taken = write_leaves (where_is state.a) state
row_leaves _ state taken = refl

-- ---- the loader

ended_leaves : (state : State) → Leaves None state (frame_ended state)
ended_leaves state =
    either (state.loader.completion == MORE) (Leaves None state) _ _ refl refl

done_leaves : (state : State) → Leaves None state (word_done state)
done_leaves state =
    either (state.loader.left == 1) (Leaves None state) _ _ (ended_leaves (with_left 0 state)) refl

taken_leaves : (place : Where) (word : ℕ) (state : State)
    → Leaves None state (body_taken place word state)
taken_leaves (at.Ram index) word state = done_leaves (stored index word state)
taken_leaves at.Io word state = done_leaves (with_io word state)
taken_leaves _ word state = refl

count_leaves : (word : ℕ) (state : State) → Leaves None state (count_taken word state)
count_leaves word state =
    either (word == 0) (Leaves None state) _ _ (ended_leaves (with_left 0 state)) refl

held_leaves : (place : Where) (word : ℕ) (state : State)
    → Leaves None state (body_posted place word state)
held_leaves (at.Ram index) word state = refl
held_leaves _ word state = refl

body_leaves : (post : Option (Side × ℕ)) (held : Option ℕ) (state : State) (word : ℕ)
    → Leaves None state (body_step post held state word)
body_leaves (Some post) held state word = done_leaves (record state { posted = None })
body_leaves None (Some held) state word = held_leaves (where_is state.loader.transfer) held state
body_leaves None None state word = taken_leaves (where_is state.loader.transfer) word state

-- ---- a step

-- the opcode whose work is done, if there is no post to check
abbrev pub worked_post : Option (Side × ℕ) → Option Op → Option Op
worked_post (Some post) worked = None
worked_post None worked = worked

abbrev pub worked_at : Place → State → Option Op
worked_at place state = worked_post state.posted (op_run place state.word)

no_work : (post : Option (Side × ℕ)) (state next : State) → Leaves None state next
    → Leaves (worked_post post None) state next
no_work (Some post) state next leaves = leaves
no_work None state next leaves = leaves

slot_leaves : (post : Option (Side × ℕ)) (place : Place) (state : State) (taken : Option ℕ)
    → state.place ≡ place
    → Leaves (worked_post post (Some (op_at place state.word))) state (slot_step post state taken)
slot_leaves (Some post) place state taken e = refl
slot_leaves None place state taken e =
    subst (λ at. Leaves (Some (op_at at state.word)) state (row (op_of state) state taken)) e
    (row_leaves (op_of state) state taken)

place_leaves : (place : Place) (state : State) (taken : Option ℕ) → state.place ≡ place
    → Leaves (worked_at place state) state (step_at place state taken)
place_leaves Slot0 state taken e = slot_leaves state.posted Slot0 state taken e
place_leaves Slot1 state taken e = slot_leaves state.posted Slot1 state taken e
place_leaves Slot2 state taken e = slot_leaves state.posted Slot2 state taken e
place_leaves Slot3 state taken e = slot_leaves state.posted Slot3 state taken e
place_leaves Count state taken e =
    no_work state.posted state (count_taken (unwrap_or taken 0) state)
    (count_leaves (unwrap_or taken 0) state)
place_leaves Body state taken e =
    no_work state.posted state (body_step state.posted state.loader.held state (unwrap_or taken 0))
    (body_leaves state.posted state.loader.held state (unwrap_or taken 0))
place_leaves Fetch state taken e = no_work state.posted state state refl
place_leaves Completion state taken e = no_work state.posted state state refl
place_leaves Transfer state taken e = no_work state.posted state state refl

pub step_leaves : (state : State) (taken : Option ℕ)
    → Leaves (worked_at state.place state) state (step state taken)
unfolding step
step_leaves state taken = place_leaves state.place state taken refl

-- ---- each of them is where it was

-- where a word below the top one was in the stack
abbrev Was : ℕ → Shift → List ℕ → List ℕ → Type 0
Was room Push words left = (at : ℕ) → suc at < room → get_or left at 0 ≡ get_or words at 0
Was room Pop words left =
    (at : ℕ) → suc (suc at) < room → get_or left at 0 ≡ get_or words (suc (suc at)) 0
Was room Keep words left = (at : ℕ) → get_or left at 0 ≡ get_or words (suc at) 0

turned : (words : List ℕ) (at : ℕ) → suc at < length words
    → get_or (rotated words) at 0 ≡ get_or words (suc at) 0
turned [] at within = refl
turned (first ∷ rest) at within =
    get_or_append_left rest (first ∷ []) 0 at (omega (arith, within))

popped : (words : List ℕ) (at : ℕ) → at < length words
    → get_or (slice_index words 0 ∷ rotated words) at 0 ≡ get_or words at 0
popped words zero within = refl
popped words (suc at) within = turned words at within

data_was : (shift : Shift) (state : State) → HasStacks state
    → Was 10 shift (words_of Data state) (data_below shift state)
data_was Push state has = λ at few. get_or-take 9 (words_of Data state) at 0 (omega (arith, few))
data_was Pop state has =
    let all = has Data in λ at few. popped state.data_stack at (omega (arith, few, all))
data_was Keep state has = λ at. refl

return_was : (shift : Shift) (state : State) → HasStacks state
    → Was 9 shift (words_of Return state) (return_below shift state)
return_was Push state has =
    λ at few. get_or-take 8 (words_of Return state) at 0 (omega (arith, few))
return_was Pop state has =
    let all = has Return in λ at few. turned state.return_stack at (omega (arith, few, all))
return_was Keep state has = λ at. refl

-- by its height
by_height : (room : ℕ) (shift : Shift) (top : ℕ) (old left : List ℕ) (words more height : ℕ)
    → room ≤ 10 → more ≡ shift_words shift words → words ≤ room → more ≤ room → height + 1 < more
    → Was room shift old left
    → get_or (top ∷ left) (more - (height + 1)) 0 ≡ get_or old (words - (height + 1)) 0
by_height room Push top old left words more height small is before after under was =
    let at : ℕ = words - (height + 1) in
    let next : more - (height + 1) ≡ suc at = omega (arith, is, before, small, under) in
    ap (λ n. get_or (top ∷ left) n 0) next
    ∙ was at (omega (arith, is, before, after, small, under))
by_height room Pop top old left words more height small is before after under was =
    let at : ℕ = words - (height + 3) in
    let next : more - (height + 1) ≡ suc at = omega (arith, is, under) in
    let here : suc (suc at) ≡ words - (height + 1) = omega (arith, is, under) in
    ap (λ n. get_or (top ∷ left) n 0) next ∙ was at (omega (arith, is, before, under))
    ∙ ap (λ n. get_or old n 0) here
by_height room Keep top old left words more height small is before after under was =
    let at : ℕ = words - (height + 2) in
    let next : more - (height + 1) ≡ suc at = omega (arith, is, under) in
    let here : suc at ≡ words - (height + 1) = omega (arith, is, under) in
    ap (λ n. get_or (top ∷ left) n 0) next ∙ was at ∙ ap (λ n. get_or old n 0) here

pub word_kept : (stack : Stack) (worked : Option Op) (state next : State) (words more height : ℕ)
    → HasStacks state → Leaves worked state next
    → more ≡ shift_words (shift_of stack worked state.r) words → words ≤ room_of stack
    → more ≤ room_of stack → height + 1 < more
    → get_or (words_of stack next) (more - (height + 1)) 0
    ≡ get_or (words_of stack state) (words - (height + 1)) 0
word_kept Data worked state next words more height has leaves is before after under =
    by_height 10 (shift_of Data worked state.r) next.t (words_of Data state)
    (data_below Keep next) words more height (omega arith) is before after under
    (subst (Was 10 (shift_of Data worked state.r) (words_of Data state))
    (sym (ap (λ (both : List ℕ × List ℕ). both.0) leaves))
    (data_was (shift_of Data worked state.r) state has))
word_kept Return worked state next words more height has leaves is before after under =
    by_height 9 (shift_of Return worked state.r) next.r (words_of Return state)
    (return_below Keep next) words more height (omega arith) is before after under
    (subst (Was 9 (shift_of Return worked state.r) (words_of Return state))
    (sym (ap (λ (both : List ℕ × List ℕ). both.1) leaves))
    (return_was (shift_of Return worked state.r) state has))

-- ---- and none is more or less

turned_length : (words : List ℕ) → length (rotated words) ≡ length words
turned_length [] = refl
turned_length (first ∷ rest) =
    let all = length-append rest (first ∷ []) in omega (arith, all)

data_length : (shift : Shift) (state : State) → HasStacks state
    → length (data_below shift state) ≡ 9
data_length Push state has =
    let all = has Data in
    let front = length-take 7 state.data_stack in omega (arith, all, front)
data_length Pop state has =
    let all = has Data in
    let turn = turned_length state.data_stack in omega (arith, all, turn)
data_length Keep state has = let all = has Data in omega (arith, all)

return_length : (shift : Shift) (state : State) → HasStacks state
    → length (return_below shift state) ≡ 8
return_length Push state has =
    let all = has Return in
    let front = length-take 7 state.return_stack in omega (arith, all, front)
return_length Pop state has =
    let all = has Return in
    let turn = turned_length state.return_stack in omega (arith, all, turn)
return_length Keep state has = let all = has Return in omega (arith, all)

pub still_has : (worked : Option Op) (state next : State) → HasStacks state
    → Leaves worked state next → HasStacks next
still_has worked state next has leaves Data =
    let same = ap (λ (both : List ℕ × List ℕ). length both.0) leaves in
    let all = data_length (shift_of Data worked state.r) state has in omega (arith, same, all)
still_has worked state next has leaves Return =
    let same = ap (λ (both : List ℕ × List ℕ). length both.1) leaves in
    let all = return_length (shift_of Return worked state.r) state has in omega (arith, same, all)
