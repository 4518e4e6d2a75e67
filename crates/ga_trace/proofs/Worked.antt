-- What the definitions compute at values that were worked out by hand.
use Rattle.std.proofs.Common.{◌≡◌, ◌∙◌, ℕ, ◌==◌, List, [], ◌++◌, ap, append-nil, arith, codes, length, refl, true, false}
use Rattle.std.specs.Prelude.{Option, None, Some, if◌then◌else◌}
use Rattle.std.specs.List.{flat_map}
use Rattle.ga_asm.specs.Image.{ImageView}
use Rattle.ga_chip.specs.Chip.{Chip}
use Rattle.ga_node.specs.State.{reset_state}
use Rattle.ga_node.specs.declared.place.Place.TheVariants.{Fetch, Slot0, Slot1, Slot3}
use Rattle.ga_pack.specs.Decoded.{reading_of}
use Rattle.ga_place.specs.declared.side.Side.TheVariants.{Down, Right}
use Rattle.ga_word.specs.Hex.{hex_digits}
use Rattle.ga_word.specs.Op.{op_with}
use Rattle.ga_word.specs.declared.op.Op.TheVariants as op
use Rattle.ga_observe.specs.declared.step.Deed.TheVariants.{Own, Posted, SawRead}
use Rattle.ga_observe.specs.declared.step.Step.{Step}
use Rattle.ga_trace.specs.At.{at_word, retreat}
use Rattle.ga_trace.specs.Line.{changes, deed_text, ram_changes}
use Rattle.ga_trace.specs.Depth.{BOTH_EMPTY, EMPTY, after_step, deeper, return_change}
use Rattle.ga_trace.specs.declared.depth.Change.TheVariants as change
use Rattle.ga_trace.specs.declared.depth.StackDepth.{StackDepth}
use Rattle.ga_trace.specs.Rest.{is_unbroken}
use Rattle.ga_trace.specs.Stepped.{rest_line}
use Rattle.ga_trace.specs.Traced.{behind, line_in, own_steps, traced}
use Rattle.ga_trace.specs.Watched.{changes_in, changes_to, posted_at, watched}
use Rattle.ga_trace.specs.What.{same_value}
use Rattle.ga_trace.specs.declared.what.Value.{Value}
use Rattle.ga_trace.specs.declared.what.Value.TheVariants.{Nothing, Word, Count}
use Rattle.ga_trace.specs.declared.what.What.{What}
use Rattle.ga_trace.proofs.FirstChange.{is_shown}
use Rattle.ga_trace.proofs.FirstSteps.{are_shown}

-- 04A12 is `[ @p a! @p . ]` at 000, whose followers are at 001 and 002: before slot 1 P is 2, and
-- before slot 3 it is 3
at_first : (at_word Fetch 0 0x04A12 ≡ 0) × (at_word Slot0 1 0x04A12 ≡ 0)
    × (at_word Slot1 2 0x04A12 ≡ 0) × (at_word Slot3 3 0x04A12 ≡ 0)
unfolding at_word reading_of op_with
at_first = (refl, refl, refl, refl)

-- addresses go round in seven bits, and those of ports stay
going_back : (retreat 1 0x080 ≡ 0x0FF) × (retreat 2 0x201 ≡ 0x27F) × (retreat 3 0x1D5 ≡ 0x1D5)
going_back = (refl, refl, refl)

deeds : (deed_text (Posted Right 0x1C) ≡ codes "  posts right 0001C")
    × (deed_text (SawRead Right) ≡ codes "  sees right read") × (deed_text Own ≡ [])
unfolding hex_digits
deeds = (refl, refl, refl)

-- T and B changed, and nothing else
changed : changes (reset_state 708) (record (reset_state 708) { t = 0x2C; b = 0x1D5 })
    ≡ codes "  T 0002C  B 1D5"
unfolding changes ram_changes hex_digits
changed = refl

-- to become a value is to change to it
becomes : (changes_to (Some (Word 5)) (Word 4) (Word 5) ≡ true)
    × (changes_to (Some (Word 5)) (Word 5) (Word 5) ≡ false)
    × (changes_to None Nothing (Word 5) ≡ true) × (same_value (Word 1) (Count 1) ≡ false)
becomes = (refl, refl, refl, refl)

-- only the side that is watched counts
posts : (posted_at Right (Posted Right 0x1C) ≡ Some 0x1C)
    × (posted_at Down (Posted Right 0x1C) ≡ None) × (posted_at Right (SawRead Right) ≡ None)
posts = (refl, refl, refl)

-- two pushes on a stack with room for one: the second is too many, and stays noted behind a pop
pushes : deeper 1 7 change.Pop (deeper 1 5 change.Push (deeper 1 3 change.Push EMPTY))
    ≡ record { words = 1; most = 2; passed = Some 5 }
pushes = refl

-- a loop pops its counter at its end alone
loops : (return_change op.Micronext 0 ≡ change.Pop) × (return_change op.Micronext 2 ≡ change.Keep)
loops = (refl, refl)

-- 709 runs `push` in slot 0 of 2E9B2 at 004, and a check of a post, which changes nothing
abbrev push_004 : Step
push_004 = record {
  node = 709;
  number = 0;
  turn = 0;
  place = Slot0;
  p = 5;
  word = 0x2E9B2;
  deed = Own;
}

one_deep : StackDepth
one_deep = record { words = 1; most = 1; passed = None }

moves_over : after_step (Some push_004) 0 (record { data_stack = one_deep; return_stack = EMPTY })
    ≡ record { data_stack = record { words = 0; most = 1; passed = None }; return_stack = one_deep }
unfolding at_word reading_of op_with one_deep
moves_over = refl

only_checks : after_step (Some (record push_004 { deed = SawRead Right })) 0 BOTH_EMPTY
    ≡ BOTH_EMPTY
unfolding at_word reading_of op_with
only_checks = refl

-- ---- the laws at work

-- if the first turn changes what is watched, the watch makes that turn alone
one_turn : (images : List (ℕ × ImageView)) (name : ℕ) (what : What) (goal : Option Value)
    (chip : Chip) → changes_in name what goal chip 0 ≡ true
    → (watched images name what goal chip).1 ≡ behind chip 1
one_turn images name what goal chip changes =
    ap (λ (both : List ℕ × Chip). both.1) (is_shown images name what goal chip 0 (record {
      within = omega arith;
      changes = changes;
      before = λ other less. absurd (omega (arith, less));
    }))

-- if the node makes three steps in the turns of a trace of three, the text is their three lines
three_lines : (images : List (ℕ × ImageView)) (name : ℕ) (chip : Chip)
    → let shown = are_shown images name 3 chip in
    length (own_steps name chip shown.turns) ≡ 3
    → (traced images name 3 chip).0
    ≡ flat_map (line_in images chip) (own_steps name chip shown.turns)
three_lines images name chip three =
    let shown = are_shown images name 3 chip in
    let lines = flat_map (line_in images chip) (own_steps name chip shown.turns) in
    shown.lines
    ∙ ap (λ n. lines ++ (if n == 3 then [] else rest_line name (traced images name 3 chip).1)) three
    ∙ append-nil lines

-- a fetch at a breakpoint, and at another address
halts : (is_unbroken (λ at. at == 5) (record (reset_state 708) { p = 5 }) ≡ false)
    × (is_unbroken (λ at. at == 5) (record (reset_state 708) { p = 6 }) ≡ true)
halts = (refl, refl)
