-- Words stay in a stack in a run.
use Rattle.std.proofs.Common.{◌≡◌, ◌∙◌, ℕ, zero, suc, ◌+◌, ◌<◌, ◌≤◌, ◌==◌, ◌⊎◌, inl, inr, Bool, true, false, Option, Some, None, option_map, refl, sym, ap, ap₂, subst, arith}
use Rattle.std.specs.Prelude.{◌||◌, if◌then◌else◌, nat_lt}
use Rattle.std.specs.Option.{option_or}
use Rattle.std.proofs.lemmas.Bool.{cases_lt, ltb-false}
use Rattle.std.proofs.lemmas.Option.{none-some, same_Some}
use Rattle.ga_pack.proofs.ByCases.{on_test}
use Rattle.ga_word.specs.declared.op.Op.{Op}
use Rattle.ga_place.specs.declared.side.Side.{Side}
use Rattle.ga_node.specs.State.{State}
use Rattle.ga_chip.specs.Chip.{Chip, state_of}
use Rattle.ga_chip.specs.Legal.{IsLegal}
use Rattle.ga_chip.specs.Part.{Part}
use Rattle.ga_chip.specs.Run.{side_of_turn, turn_of}
use Rattle.ga_chip.proofs.Kept.{legal_ran}
use Rattle.ga_observe.specs.Seen.{step_of}
use Rattle.ga_observe.specs.declared.step.Step.{Step}
use Rattle.ga_trace.specs.Depth.{BOTH_EMPTY, DATA_ROOM, RETURN_ROOM, after_step, both_deeper, worked_by, deep_from, r_of}
use Rattle.ga_trace.specs.Traced.{moved_in, quiet_after, step_in, turned}
use Rattle.ga_trace.specs.declared.depth.StackDepths.{StackDepths}
use Rattle.ga_laws.specs.Stacks.{HasRoom, HasStacks, Stack, Data, Return, WordsStay, depth_of, depths_after, word_at}
use Rattle.ga_laws.proofs.Trying.{InTurn, in_tries, move_by}
use Rattle.ga_laws.proofs.Stacking.{left_has, step_keeps_words, step_left}

-- ---- one turn more of the count

abbrev next_of : ℕ → ℕ → StackDepths × Chip → StackDepths × Chip
next_of name turn now = (
  after_step (step_in name turn now.1) (r_of (state_of now.1 name)) now.0,
  turned turn now.1,
)

-- the count stays, or goes on by a turn
abbrev Goes : ℕ → ℕ → StackDepths × Chip → StackDepths × Chip → Type 0
Goes name turn now next = (next ≡ now) ⊎ (next ≡ next_of name turn now)

goes_if : (name turn : ℕ) (over : Bool) (one now next : StackDepths × Chip)
    → Goes name turn now next
    → Goes name turn (if over then one else now) (if over then one else next)
goes_if name turn true one now next goes = inl refl
goes_if name turn false one now next goes = goes

goes : (left turn quiet : ℕ) (done : Option State → Bool) (name : ℕ) (depths : StackDepths)
    (chip : Chip) → Goes name (turn + left) (deep_from left turn quiet done name depths chip)
    (deep_from (suc left) turn quiet done name depths chip)
unfolding deep_from
goes zero turn quiet done name depths chip =
    let here : turn ≡ turn + 0 = omega arith in
    subst (λ n. Goes name n (depths, chip) (deep_from 1 turn quiet done name depths chip)) here
    (on_test (done (state_of chip name) || (quiet == 4))
    (λ over. Goes name turn (depths, chip)
    (if over then (depths, chip) else next_of name turn (depths, chip)))
    (λ over. inl refl) (λ going. inr refl))
goes (suc left) turn quiet done name depths chip =
    let later : suc turn + left ≡ turn + suc left = omega arith in
    let more = after_step (step_in name turn chip) (r_of (state_of chip name)) depths in
    let calm = quiet_after quiet (moved_in turn chip) in
    goes_if name (turn + suc left) (done (state_of chip name) || (quiet == 4)) (depths, chip)
    (deep_from left (suc turn) calm done name more (turned turn chip))
    (deep_from (suc left) (suc turn) calm done name more (turned turn chip))
    (subst (λ n. Goes name n (deep_from left (suc turn) calm done name more (turned turn chip))
    (deep_from (suc left) (suc turn) calm done name more (turned turn chip))) later
    (goes left (suc turn) calm done name more (turned turn chip)))

-- ---- room

or_none : (one two : Option ℕ) → option_or one two ≡ None → (one ≡ None) × (two ≡ None)
or_none None two e = (refl, e)
or_none (Some address) two e = absurd (none-some address (sym e))

within : (room words address : ℕ) → (if nat_lt room words then Some address else None) ≡ None
    → words ≤ room
within room words address =
    on_test (nat_lt room words)
    (λ more. (if more then Some address else None) ≡ None → words ≤ room)
    (λ more e. absurd (none-some address (sym e))) (λ few e. ltb-false room words few)

-- a stack for which no push was too many had none before, and has room
abbrev Fits : Stack → StackDepths → StackDepths → Type 0
Fits stack depths more =
    (depth_of stack more).passed ≡ None
    → ((depth_of stack depths).passed ≡ None) × (HasRoom stack depths → HasRoom stack more)

fits_work : (stack : Stack) (worked : Option Op) (address r : ℕ) (depths : StackDepths)
    → Fits stack depths (both_deeper address r worked depths)
fits_work stack None address r depths none = (none, λ room. room)
fits_work Data (Some opcode) address r depths none =
    let parts = or_none depths.data_stack.passed _ none in
    (parts.0, λ room. within DATA_ROOM _ address parts.1)
fits_work Return (Some opcode) address r depths none =
    let parts = or_none depths.return_stack.passed _ none in
    (parts.0, λ room. within RETURN_ROOM _ address parts.1)

fits : (stack : Stack) (found : Option Step) (r : ℕ) (depths : StackDepths)
    → Fits stack depths (after_step found r depths)
fits stack None r depths none = (none, λ room. room)
fits stack (Some step) r depths none = fits_work stack (worked_by step step.deed) _ r depths none

-- ---- turns

-- a node is there, with its stacks
record Stands (name : ℕ) (now : StackDepths × Chip) : Type 0 where
  legal : IsLegal now.1
  state : State
  there : state_of now.1 name ≡ Some state
  has : HasStacks state

-- what one turn more of the count keeps of them
record On (name : ℕ) (now next : StackDepths × Chip) (old : Stands name now) : Type 0 where
  stands : Stands name next
  fits : (stack : Stack) → Fits stack now.0 next.0
  keeps : (stack : Stack) (height : ℕ) → HasRoom stack now.0 → HasRoom stack next.0
      → height + 1 < (depth_of stack next.0).words
      → word_at stack stands.state next.0 height ≡ word_at stack old.state now.0 height

turn_on : (name turn : ℕ) (now : StackDepths × Chip) (s : Stands name now)
    → On name now (next_of name turn now) s
unfolding turn_of
turn_on name turn now s =
    by (step_in name turn now.1)
    (in_tries name turn side 144 0 now.1 s.legal (omega arith))
  where
    side : Side
    side = side_of_turn turn

    r : ℕ
    r = r_of (state_of now.1 name)

    legal : IsLegal (turned turn now.1)
    legal = legal_ran now.1 (turn_of side) s.legal

    by : (found : Option Step) → InTurn name turn side now.1 (turned turn now.1) found
        → On name now (after_step found r now.0, turned turn now.1) s
    by found (inl (none, same)) =
        subst (λ f. On name now (after_step f r now.0, turned turn now.1) s) (sym none) (record {
          stands = record {
            legal = legal;
            state = s.state;
            there = ap (option_map (λ (p : Part). p.state)) same ∙ s.there;
            has = s.has;
          };
          fits = λ stack none. (none, λ room. room);
          keeps = λ stack height before room below. refl;
        })
    by found (inr made) =
        let here : state_of made.mid name ≡ Some s.state =
        ap (option_map (λ (p : Part). p.state)) made.there ∙ s.there in
        let step = step_of turn made.its.part.state (move_by made.mid name side made.its.part) in
        let left = step_left made.mid name turn side step s.state here made.its.one in
        record {
          stands = record {
            legal = legal;
            state = left.new;
            there = ap (option_map (λ (p : Part). p.state)) made.leads ∙ left.leads;
            has = left_has made.mid name side step s.state s.has left;
          };
          fits = λ stack. fits stack found r now.0;
          keeps = λ stack height before room below.
              step_keeps_words stack made.mid name turn side step s.state left.new now.0
              (after_step found r now.0) height s.has here made.its.one left.leads
              (ap₂ (λ f n. after_step f n now.0) made.is (ap r_of s.there)) before room below;
        }

goes_on : (name turn : ℕ) (now next : StackDepths × Chip) → Goes name turn now next
    → (s : Stands name now) → On name now next s
goes_on name turn now next (inl same) s =
    subst (λ n. On name now n s) (sym same) (record {
      stands = s;
      fits = λ stack none. (none, λ room. room);
      keeps = λ stack height before room below. refl;
    })
goes_on name turn now next (inr is) s =
    subst (λ n. On name now n s) (sym is) (turn_on name turn now s)

none_room : (stack : Stack) → HasRoom stack BOTH_EMPTY
none_room Data = omega arith
none_room Return = omega arith

module _ (name : ℕ) (done : Option State → Bool) (chip : Chip)
    (first : Stands name (BOTH_EMPTY, chip)) where
  abbrev made : ℕ → StackDepths × Chip
  made turns = depths_after done name chip turns

  on : (turns : ℕ) (s : Stands name (made turns)) → On name (made turns) (made (suc turns)) s
  on turns s =
      goes_on name (0 + turns) (made turns) (made (suc turns))
      (goes turns 0 0 done name BOTH_EMPTY chip) s

  stands : (turns : ℕ) → Stands name (made turns)
  unfolding deep_from
  stands zero = first
  stands (suc turns) = (on turns (stands turns)).stands

  abbrev NonePassed : Stack → ℕ → Type 0
  NonePassed stack turns = (depth_of stack (made turns).0).passed ≡ None

  rooms : (stack : Stack) (turns : ℕ) → NonePassed stack turns → HasRoom stack (made turns).0
  unfolding deep_from
  rooms stack zero none = none_room stack
  rooms stack (suc turns) none =
      let before = (on turns (stands turns)).fits stack none in
      before.1 (rooms stack turns before.0)

  module _ (stack : Stack) (height : ℕ) where
    abbrev word : ℕ → ℕ
    word turns = word_at stack (stands turns).state (made turns).0 height

    abbrev Above : ℕ → Type 0
    Above turns = height + 1 < (depth_of stack (made turns).0).words

    kept : (turns : ℕ) → NonePassed stack (suc turns) → Above (suc turns)
        → word (suc turns) ≡ word turns
    unfolding stands
    kept turns none above =
        let o = on turns (stands turns) in
        o.keeps stack height (rooms stack turns (o.fits stack none).0)
        (rooms stack (suc turns) none) above

    stay : (from until : ℕ) → from ≤ until → NonePassed stack until
        → ((turns : ℕ) → from < turns → turns ≤ until → Above turns) → word until ≡ word from
    stay from zero within none above =
        let same : 0 ≡ from = omega (arith, within) in ap word same
    stay from (suc turns) within none above =
        by (cases_lt from (suc turns)) (stay from turns)
      where
        by : (from < suc turns) ⊎ (suc turns ≤ from)
            → (from ≤ turns → NonePassed stack turns
            → ((at : ℕ) → from < at → at ≤ turns → Above at) → word turns ≡ word from)
            → word (suc turns) ≡ word from
        by (inl later) rest =
            kept turns none (above (suc turns) later (omega arith))
            ∙ rest (omega (arith, later)) ((on turns (stands turns)).fits stack none).0
            (λ at low high. above at low (omega (arith, high)))
        by (inr here) rest =
            let same : suc turns ≡ from = omega (arith, here, within) in ap word same

pub words_stay : WordsStay
words_stay stack chip name done begun old new from until height legal has there within here end none
    above =
    let first : Stands name (BOTH_EMPTY, chip) =
    record { legal = legal; state = begun; there = there; has = has } in
    let last = stands name done chip first until in
    let start = stands name done chip first from in
    ap (λ s. word_at stack s (depths_after done name chip until).0 height)
    (same_Some new last.state (sym end ∙ last.there))
    ∙ stay name done chip first stack height from until within none above
    ∙ ap (λ s. word_at stack s (depths_after done name chip from).0 height)
    (same_Some start.state old (sym start.there ∙ here))
