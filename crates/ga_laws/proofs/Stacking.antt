-- A step that an observer sees keeps the words of its node's stacks.
use Rattle.std.proofs.Common.{◌≡◌, ◌∙◌, ℕ, ◌-◌, ◌==◌, ◌^◌, Bool, true, false, [], ◌∷◌, inl, inr, Option, Some, None, option_map, refl, sym, ap, subst}
use Rattle.std.specs.Prelude.{if◌then◌else◌}
use Rattle.std.proofs.lemmas.Bool.{false≢true}
use Rattle.std.proofs.lemmas.Option.{none-some, same_Some}
use Rattle.ga_word.specs.declared.op.Op.{Op}
use Rattle.ga_place.specs.declared.side.Side.{Side}
use Rattle.ga_node.specs.State.{State, op_of}
use Rattle.ga_node.specs.Need.{need_at, need_of, slot_need, wants}
use Rattle.ga_node.specs.Slot.{step}
use Rattle.ga_node.specs.declared.need.Need.{Need}
use Rattle.ga_node.specs.declared.need.Need.TheVariants as need
use Rattle.ga_node.specs.declared.need.Stop.TheVariants.{Counted}
use Rattle.ga_node.specs.declared.place.Place.{Place}
use Rattle.ga_node.specs.declared.place.Place.TheVariants.{Slot0, Slot1, Slot2, Slot3}
use Rattle.ga_node.proofs.Rows.{FitsPost, need_fits}
use Rattle.ga_chip.specs.Chip.{Chip, found_by, state_of}
use Rattle.ga_chip.specs.Part.{Part, Asks, Nothing, Own, Feed, Post, Take, Check, after, asks}
use Rattle.ga_chip.specs.Run.{Try, happened}
use Rattle.ga_chip.proofs.Parts.{Fits, Passes, asks_fits, passed_after, stand_after, stands_after}
use Rattle.ga_observe.specs.Seen.{step_of, steps_in}
use Rattle.ga_observe.specs.Step.{op_run}
use Rattle.ga_observe.specs.declared.step.Step.{Step}
use Rattle.ga_observe.proofs.Tried.{part_here, tried_leaves}
use Rattle.ga_trace.specs.Depth.{both_deeper, worked_by}
use Rattle.ga_trace.specs.declared.depth.StackDepths.{StackDepths}
use Rattle.ga_laws.specs.Stacks.{HasStacks, Stack, Data, Return, StepKeepsWords, depth_of}
use Rattle.ga_laws.proofs.Shifting.{Leaves, data_counts, return_counts, shift_of, shift_words, still_has, step_leaves, word_kept, worked_at, worked_post}
use Rattle.ga_laws.proofs.Trying.{Stepped, move_by, tries}

-- ---- the opcode of an observed step

-- a need in which a node has no post to check
abbrev is_work : Need → Bool
is_work (need.Check side) = false
is_work (need.Stopped stop) = false
is_work _ = true

post_unworked : (post : Option (Side × ℕ)) → worked_post post None ≡ None
post_unworked (Some post) = refl
post_unworked None = refl

slot_unposted : (post : Option (Side × ℕ)) (opcode : Op) (state : State) (worked : Option Op)
    → is_work (slot_need post opcode state) ≡ true → worked_post post worked ≡ worked
slot_unposted (Some post) opcode state worked works = absurd (false≢true works)
slot_unposted None opcode state worked works = refl

place_unposted : (place : Place) (state : State) → is_work (need_at place state) ≡ true
    → worked_at place state ≡ op_run place state.word
place_unposted Slot0 state works = slot_unposted state.posted (op_of state) state _ works
place_unposted Slot1 state works = slot_unposted state.posted (op_of state) state _ works
place_unposted Slot2 state works = slot_unposted state.posted (op_of state) state _ works
place_unposted Slot3 state works = slot_unposted state.posted (op_of state) state _ works
place_unposted _ state works = post_unworked state.posted

need_unposted : (full : Bool) (state : State) (needs : Need)
    → (if full then need.Stopped Counted else wants state) ≡ needs → is_work needs ≡ true
    → worked_at state.place state ≡ op_run state.place state.word
need_unposted true state needs e works = absurd (false≢true (ap is_work e ∙ works))
need_unposted false state needs e works = place_unposted state.place state (ap is_work e ∙ works)

unposted : (state : State) (needs : Need) → need_of state ≡ needs → is_work needs ≡ true
    → worked_at state.place state ≡ op_run state.place state.word
unfolding need_of
unposted state needs e works = need_unposted (state.steps == 2 ^ 64 - 1) state needs e works

checks : (state : State) (side : Side) → need_of state ≡ need.Check side
    → worked_at state.place state ≡ None
checks state side e =
    let posted = subst (λ n. FitsPost n state.posted) e (need_fits state) in
    ap (λ post. worked_post post (op_run state.place state.word)) posted.1

-- ---- what a move leaves

-- the opcode whose work a move does, by what it asked for and found
abbrev opcode_by : State → Asks → Option ℕ → Option Op
opcode_by state asked found =
    let step =
    step_of 0 state (record { node = 0; asked = asked; found = found; picked = [] }) in
    worked_by step step.deed

working : (state : State) (taken : Option ℕ) (needs : Need) → need_of state ≡ needs
    → is_work needs ≡ true → Leaves (op_run state.place state.word) state (step state taken)
working state taken needs e works =
    subst (λ worked. Leaves worked state (step state taken)) (unposted state needs e works)
    (step_leaves state taken)

asked_leaves : (asked : Asks) (found : Option ℕ) (state : State)
    → Fits asked (need_of state) state.node → Passes asked found
    → Leaves (opcode_by state asked found) state (stand_after asked found state)
asked_leaves (Nothing outcome) found state fits passed = absurd passed
asked_leaves Own found state fits passed = working state None need.Own fits refl
asked_leaves (Feed word) found state fits passed =
    working state (Some word) need.Input fits refl
asked_leaves (Post side cell word) found state fits passed =
    working state None (need.Post side word) fits.1 refl
asked_leaves (Check side cell) None state fits passed =
    subst (λ worked. Leaves worked state (step state None)) (checks state side fits.1)
    (step_leaves state None)
asked_leaves (Check side cell) (Some word) state fits passed = refl
asked_leaves (Take side cell) None state fits passed =
    absurd (none-some passed.0 passed.1)
asked_leaves (Take side cell) (Some word) state fits passed =
    working state (Some word) (need.Take fits.0) fits.2 refl

-- what the step of a try leaves
pub record Left (chip : Chip) (name : ℕ) (side : Side) (step : Step) (old : State) : Type 0 where
  pub new : State
  pub leads : state_of (happened chip (Try name side)) name ≡ Some new
  pub leaves : Leaves (worked_by step step.deed) old new

left : (chip : Chip) (name turn : ℕ) (side : Side) (its : Stepped chip name turn side)
    → Left chip name side (step_of turn its.part.state (move_by chip name side its.part))
    its.part.state
unfolding after
left chip name turn side its =
    let asked = asks its.part side in
    let found = found_by asked chip.cells in
    record {
      new = (after its.part side found).1.state;
      leads = ap (option_map (λ (p : Part). p.state)) (part_here chip name side its.part _ asked
          (tried_leaves chip name side its.part its.there));
      leaves = subst (Leaves (opcode_by its.part.state asked found) its.part.state)
          (sym (stands_after its.part side found)) (asked_leaves asked found its.part.state
          (asks_fits its.part side) (passed_after its.part side found its.moved));
    }

pub step_left : (chip : Chip) (name turn : ℕ) (side : Side) (step : Step) (old : State)
    → state_of chip name ≡ Some old → steps_in turn chip (Try name side) ≡ step ∷ []
    → Left chip name side step old
step_left chip name turn side step old there one = elim (tries chip name turn side) [
  | inl (none, still) ↦ absurd cc
  | inr its ↦
      let same : its.part.state ≡ old =
      same_Some its.part.state old (sym (ap (option_map (λ (p : Part). p.state)) its.there)
      ∙ there) in
      let is : step_of turn its.part.state (move_by chip name side its.part) ≡ step =
      let both = sym its.one ∙ one in cc in
      subst (Left chip name side step) same
      (subst (λ s. Left chip name side s its.part.state) is (left chip name turn side its))
]

-- ---- the words

words_more : (stack : Stack) (worked : Option Op) (address r : ℕ) (depths : StackDepths)
    → (depth_of stack (both_deeper address r worked depths)).words
    ≡ shift_words (shift_of stack worked r) (depth_of stack depths).words
words_more Data None address r depths = refl
words_more Data (Some opcode) address r depths = data_counts opcode depths.data_stack.words
words_more Return None address r depths = refl
words_more Return (Some opcode) address r depths =
    return_counts opcode r depths.return_stack.words

-- a node still has its stacks
pub left_has : (chip : Chip) (name : ℕ) (side : Side) (step : Step) (old : State)
    → HasStacks old → (l : Left chip name side step old) → HasStacks l.new
left_has chip name side step old has l =
    still_has (worked_by step step.deed) old l.new has l.leaves

pub step_keeps_words : StepKeepsWords
step_keeps_words stack chip name turn side step old new depths more height has there one leads is
    before room below =
    let l = step_left chip name turn side step old there one in
    let worked = worked_by step step.deed in
    let same : l.new ≡ new = same_Some l.new new (sym l.leads ∙ leads) in
    word_kept stack worked old new (depth_of stack depths).words (depth_of stack more).words height
    has (subst (Leaves worked old) same l.leaves) (ap (λ d. (depth_of stack d).words) is
    ∙ words_more stack worked _ old.r depths) before room below
