-- Worked values of the definitions.
use Rattle.std.proofs.Common.{◌≡◌, ◌-◌, ◌^◌, Some, None, refl, true, false, replicate, [], ◌∷◌}
use Rattle.ga_place.specs.declared.side.Side.TheVariants.{Right, Down, Up}
use Rattle.ga_word.specs.Op.{op_with}
use Rattle.ga_pack.specs.Decoded.{reading_of}
use Rattle.ga_node.specs.Need.{need_of}
use Rattle.ga_node.specs.Slot.{row, step}
use Rattle.ga_node.specs.State.{reset_state}
use Rattle.ga_node.specs.declared.place.Place.TheVariants.{Slot0, Slot1}
use Rattle.ga_place.specs.Cell.{cell_of, all_cells}
use Rattle.ga_chip.specs.declared.outcome.Outcome.TheVariants.{Held, Moved, Stopped, Waits}
use Rattle.ga_node.specs.declared.need.Need.TheVariants as need
use Rattle.ga_chip.specs.declared.error.ChipError.TheVariants.{AlreadyGiven, NotEdge, NotOpen, NotTaken}
use Rattle.ga_chip.specs.Part.{Part, Check, Feed, Post, Take, Nothing, asks, asks_by, after, is_held, rest_of, stepped}
use Rattle.ga_chip.specs.Run.{Piece, break_cleared, break_passed, break_set, happened, words_fed}
use Rattle.ga_chip.specs.Chip.{cells_after, pending_in, refusal, reset_chip, reset_part, stream_opened, stream_refusal, streamed, tried}
use Rattle.ga_chip.specs.Stream.{feed_refusal, left_of}
use Rattle.ga_chip.specs.Ledger.{ledger_of}

-- after reset a node takes at the side that is named: 709 reads the cell 495 of 708 on its right
asks_709 : asks (reset_part 709) Right ≡ Take Right 495
unfolding asks need_of cell_of all_cells
asks_709 = refl

-- 709 has no node above
asks_up : asks (reset_part 709) Up ≡ Nothing Waits
unfolding asks need_of cell_of all_cells
asks_up = refl

-- it waits for a word, and moves with one, which it then runs
waits_709 : (after (reset_part 709) Right None).0 ≡ Waits
unfolding after asks need_of cell_of all_cells
waits_709 = refl

moves_709 : (after (reset_part 709) Right (Some 0x12)).0 ≡ Moved
unfolding after asks need_of cell_of all_cells
moves_709 = refl

word_709 : (after (reset_part 709) Right (Some 0x12)).1.state.word ≡ 0x12
unfolding after asks need_of step cell_of all_cells
word_709 = refl

read_709 : (after (reset_part 709) Right (Some 0x12)).1.read
    ≡ record { right = 1; down = 0; left = 0; up = 0 }
unfolding after asks need_of step cell_of all_cells
read_709 = refl

tried_709 : (tried reset_chip 709 Right).0 ≡ Waits
unfolding tried after asks need_of reset_chip cell_of all_cells
tried_709 = refl

-- a node at a breakpoint is held, unless it has a pass
held : is_held (record (reset_part 0) { breaks = replicate 512 true }) ≡ true
held = refl

passed : is_held (record (reset_part 0) { breaks = replicate 512 true; pass = true }) ≡ false
passed = refl

-- it is held by the low nine bits of P: at 003, but neither at the mirror 043 nor before a slot
abbrev pub at_3 : Part
at_3 = break_set 3 (record (reset_part 0) { state = record (reset_state 0) { p = 3 } })

held_at_3 : asks at_3 Right ≡ Nothing Held
unfolding asks need_of
held_at_3 = refl

mirror : is_held (record at_3 { state = record at_3.state { p = 0x43 } }) ≡ false
mirror = refl

in_word : is_held (record at_3 { state = record at_3.state { place = Slot0 } }) ≡ false
in_word = refl

cleared : is_held (break_cleared 3 at_3) ≡ false
cleared = refl

-- so also in extended mode
held_at_203 : asks (record at_3 { state = record at_3.state { p = 0x203 } }) Right ≡ Nothing Held
unfolding asks need_of
held_at_203 = refl

-- a stop comes first
stopped_at_3 : asks (record at_3 { state = record at_3.state { steps = 2 ^ 64 - 1 } }) Right
    ≡ Nothing Stopped
unfolding asks need_of
stopped_at_3 = refl

-- a pass is given to a node that is held, and to no other; the fetch ends it, and a slot leaves it
gives : (break_passed at_3).pass ≡ true
unfolding asks need_of
gives = refl

gives_none : (break_passed (reset_part 0)).pass ≡ false
unfolding asks need_of cell_of all_cells
gives_none = refl

ends : (after (break_passed at_3) Right None).1.pass ≡ false
unfolding after asks need_of
ends = refl

stays : (stepped None
    (record at_3 { pass = true; state = record at_3.state { place = Slot0 } })).pass ≡ true
stays = refl

-- A node before `!b` with B at its right port posts T there, waits while the word is pending, and
-- goes on once it was read.
abbrev pub writer : Part
writer =
    record (reset_part 708)
    { state = record (reset_state 708) { word = 0x089B2; place = Slot0; b = 0x1D5; t = 0x12 } }

abbrev pub posted : Part
posted = (after writer Down None).1

posts : asks writer Down ≡ Post Right 495 0x12
unfolding asks need_of reading_of op_with cell_of all_cells
posts = refl

posts_moves : (after writer Down None).0 ≡ Moved
unfolding after asks need_of reading_of op_with cell_of all_cells
posts_moves = refl

counts_it : posted.written ≡ record { right = 1; down = 0; left = 0; up = 0 }
unfolding after asks need_of step row reading_of op_with cell_of all_cells
counts_it = refl

checks : asks posted Up ≡ Check Right 495
unfolding after asks need_of step row reading_of op_with cell_of all_cells
checks = refl

waits_708 : (after posted Up (Some 0x12)).0 ≡ Waits
unfolding after asks need_of step row reading_of op_with cell_of all_cells
waits_708 = refl

goes_on : (after posted Up None).1.state.place ≡ Slot1
unfolding after asks need_of step row reading_of op_with cell_of all_cells
goes_on = refl

-- a post fills its cell, and a take empties it
fills : pending_in (cells_after (Post Right 1 0x12) (None ∷ None ∷ [])) 1 ≡ Some 0x12
fills = refl

empties : pending_in (cells_after (Take Right 1) (None ∷ Some 0x12 ∷ [])) 1 ≡ None
empties = refl

-- the ledger of a cell of the chip after reset, and of a side without a neighbour
ledger_708 : ledger_of reset_chip 708 Right ≡ record { written = 0; read = 0; pending = 0 }
unfolding reset_chip cell_of all_cells
ledger_708 = refl

ledger_none : ledger_of reset_chip 0 Up ≡ record { written = 0; read = 0; pending = 0 }
unfolding reset_chip cell_of all_cells
ledger_none = refl

-- a node after reset can be given words, and at an edge a stream
new_000 : stream_refusal reset_chip 0 ≡ None
unfolding reset_chip
new_000 = refl

inner_101 : stream_refusal reset_chip 101 ≡ Some NotEdge
unfolding reset_chip
inner_101 = refl

-- but no second one
given_000 : refusal (streamed reset_chip 0 (0x000AE ∷ [])) 0 ≡ Some AlreadyGiven
unfolding streamed reset_chip
given_000 = refl

-- a stream that was opened takes a piece as long as no word is left, and one that was given takes
-- none
opened_708 : feed_refusal (stream_opened reset_chip 708) 708 ≡ None
unfolding stream_opened reset_chip
opened_708 = refl

fed_708 : left_of (happened (stream_opened reset_chip 708) (Piece 708 (0x000AE ∷ 0x001D5 ∷ []))) 708
    ≡ 2
unfolding happened stream_opened reset_chip
fed_708 = refl

fed_twice : feed_refusal (happened (stream_opened reset_chip 708) (Piece 708 (0x000AE ∷ []))) 708
    ≡ Some NotTaken
unfolding happened stream_opened reset_chip
fed_twice = refl

given_708 : feed_refusal (streamed reset_chip 708 []) 708 ≡ Some NotOpen
unfolding streamed reset_chip
given_708 = refl

-- and only the words that an opened stream takes count as fed
words_708 : words_fed (stream_opened reset_chip 708)
    (Piece 708 (0x000AE ∷ []) ∷ Piece 709 (0x001D5 ∷ []) ∷ []) 708 ≡ 0x000AE ∷ []
unfolding stream_opened reset_chip
words_708 = refl

words_709 : words_fed (stream_opened reset_chip 708) (Piece 709 (0x001D5 ∷ []) ∷ []) 709 ≡ []
unfolding stream_opened reset_chip
words_709 = refl

-- a word of the stream is taken from its front
feeds : asks_by need.Input 0 (Some (0x000AE ∷ 0x00000 ∷ [])) Up ≡ Feed 0x000AE
feeds = refl

leaves : rest_of (Some (0x000AE ∷ 0x00000 ∷ [])) ≡ Some (0x00000 ∷ [])
leaves = refl
