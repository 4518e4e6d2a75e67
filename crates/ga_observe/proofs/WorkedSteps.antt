-- Worked values of the definitions.
use Rattle.std.proofs.Common.{◌≡◌, ℕ, [], ◌∷◌, Some, None, refl, get_or, length, set}
use Rattle.ga_word.specs.Op.{op_with}
use Rattle.ga_word.specs.declared.op.Op.TheVariants.{Nop, StoreB}
use Rattle.ga_pack.specs.Decoded.{reading_of}
use Rattle.ga_place.specs.Cell.{all_cells, cell_of}
use Rattle.ga_place.specs.Side.{sides_with}
use Rattle.ga_place.specs.declared.side.Side.TheVariants.{Right, Down, Up}
use Rattle.ga_node.specs.Need.{need_of}
use Rattle.ga_node.specs.Slot.{row, step}
use Rattle.ga_node.specs.State.{booting_state, reset_state}
use Rattle.ga_node.specs.declared.place.Place.TheVariants.{Completion, Fetch, Slot0, Slot1}
use Rattle.ga_chip.specs.Part.{Part, after, asks}
use Rattle.ga_chip.specs.Chip.{Chip, reset_chip, reset_part, tried, with_part}
use Rattle.ga_chip.specs.Run.{Event, Try, happened, move_in, turn_of}
use Rattle.ga_observe.specs.declared.step.Deed.TheVariants as did
use Rattle.ga_observe.specs.declared.step.Step.{Step}
use Rattle.ga_observe.specs.Counts.{count_of}
use Rattle.ga_observe.specs.Seen.{steps_in, steps_seen, turns_numbered}
use Rattle.ga_observe.specs.Step.{op_run}

-- 000 runs `.` in slot 0 of the word `. . . .`, behind seven steps
abbrev idler : Part
idler =
    record (reset_part 0)
    { state = record (reset_state 0) { word = 0x2C9B2; place = Slot0; p = 1; steps = 7 } }

own_step : steps_in 5 (with_part reset_chip 0 idler) (Try 0 Up)
    ≡ record {
      node = 0;
      number = 7;
      turn = 5;
      place = Slot0;
      p = 1;
      word = 0x2C9B2;
      deed = did.Own;
    } ∷ []
unfolding steps_in move_in after asks need_of reset_chip reading_of op_with cell_of all_cells
own_step = refl

-- 708 is before `!b` in slot 0, with B at its right port and T 12
abbrev writer : Part
writer =
    record (reset_part 708) {
      state = record (reset_state 708)
          { word = 0x089B2; place = Slot0; p = 1; b = 0x1D5; t = 0x12 };
    }

abbrev chip : Chip
chip = with_part reset_chip 708 writer

abbrev post : Step
post = record {
  node = 708;
  number = 0;
  turn = 0;
  place = Slot0;
  p = 1;
  word = 0x089B2;
  deed = did.Posted Right 0x12;
}

post_step : steps_in 0 chip (Try 708 Down) ≡ post ∷ []
unfolding steps_in move_in after asks need_of reset_chip reading_of op_with cell_of all_cells
post_step = refl

-- 709 is about to fetch at 195, where it reads right and down, and the word 12 is pending on its
-- right
abbrev reader : Part
reader = record (reset_part 709) { state = record (reset_state 709) { p = 0x195 } }

abbrev full : Chip
full = record (with_part reset_chip 709 reader) { cells = set reset_chip.cells 495 (Some 0x12) }

take_step : steps_in 3 full (Try 709 Right)
    ≡ record {
      node = 709;
      number = 0;
      turn = 3;
      place = Fetch;
      p = 0x195;
      word = 0;
      deed = did.Took Right (sides_with 0xC0) 0x12;
    } ∷ []
unfolding steps_in move_in after asks need_of reset_chip reading_of op_with cell_of all_cells
take_step = refl

-- a try that names the other side finds no word there, and is no step
wait_step : steps_in 3 full (Try 709 Down) ≡ []
unfolding steps_in move_in after asks need_of reset_chip reading_of op_with cell_of all_cells
wait_step = refl

-- the loader of 708 takes the first word of its stream
abbrev booting : Part
booting = record (reset_part 708) { state = booting_state 708; stream = Some (0x000AE ∷ []) }

input_step : steps_in 0 (with_part reset_chip 708 booting) (Try 708 Up)
    ≡ record {
      node = 708;
      number = 0;
      turn = 0;
      place = Completion;
      p = 0x1B5;
      word = 0;
      deed = did.TookInput 0x000AE;
    } ∷ []
unfolding steps_in move_in after asks need_of reset_chip reading_of op_with cell_of all_cells
input_step = refl

-- 708 posts a word in one turn, in which 709 takes it and 710 waits, and in the next 708 sees that
-- it was read
abbrev take : Step
take = record {
  node = 709;
  number = 0;
  turn = 0;
  place = Fetch;
  p = 0x1B5;
  word = 0;
  deed = did.Took Right (sides_with 0xE0) 0x12;
}

abbrev check : Step
check = record {
  node = 708;
  number = 1;
  turn = 1;
  place = Slot0;
  p = 1;
  word = 0x089B2;
  deed = did.SawRead Right;
}

three_steps : steps_seen chip
    ((0, Try 708 Down) ∷ (0, Try 709 Right) ∷ (0, Try 710 Right) ∷ (1, Try 708 Up) ∷ [])
    ≡ post ∷ take ∷ check ∷ []
unfolding steps_in move_in happened tried after asks need_of step row reset_chip reading_of op_with
    cell_of all_cells
three_steps = refl

two_of_708 : count_of 708 (post ∷ take ∷ check ∷ []) ≡ 2
two_of_708 = refl

-- the second turn, whose number is 1, names the side down
second_turn : ◌≡◌ {A = ℕ × Event} (get_or (turns_numbered 2) 144 (0, Try 0 Right)) (1, Try 0 Down)
unfolding turns_numbered turn_of
second_turn = refl

two_turns : length (turns_numbered 2) ≡ 288
unfolding turns_numbered turn_of
two_turns = refl

-- the opcodes of a word by slot, of a word that jumps in slot 0, and none for a fetch
writes : op_run Slot0 0x089B2 ≡ Some StoreB
unfolding reading_of op_with
writes = refl

jumps : op_run Slot1 0x10000 ≡ Some Nop
unfolding reading_of op_with
jumps = refl

fetches : op_run Fetch 0x089B2 ≡ None
fetches = refl
