-- Worked values of closed sets.
use Rattle.std.proofs.Common.{◌≡◌, ◌==◌, ◌-◌, ◌^◌, ℕ, Bool, Some, refl, true, false, set, [], ◌∷◌}
use Rattle.ga_place.specs.Cell.{all_cells, cell_of, name_at}
use Rattle.std.specs.List.{list_all, range_with_len}
use Rattle.ga_place.specs.Node.{is_node_name}
use Rattle.ga_place.specs.Side.{sides_with}
use Rattle.ga_place.specs.declared.side.Side.TheVariants.{Up}
use Rattle.ga_word.specs.Op.{op_with}
use Rattle.ga_pack.specs.Decoded.{reading_of}
use Rattle.ga_node.specs.Need.{need_of}
use Rattle.ga_node.specs.Slot.{row, step}
use Rattle.ga_node.specs.declared.need.Need.TheVariants as need
use Rattle.ga_chip.specs.Part.{after, asks}
use Rattle.ga_chip.specs.Chip.{reset_chip, reset_part}
use Rattle.ga_chip.specs.Stuck.{is_stuck, is_stuck_by}
use Rattle.ga_chip.proofs.WorkedChip.{at_3, posted}

-- the set of all nodes, that of a single node, and that of none
abbrev all_nodes : ℕ → Bool
all_nodes = is_node_name

abbrev alone : ℕ → ℕ → Bool
alone node name = name == node

abbrev nobody : ℕ → Bool
nobody name = false

-- After reset each node takes a word, and none is pending: 709 has neighbours on its right, down
-- and left.
waits_709 : is_stuck all_nodes reset_chip.cells (reset_part 709) ≡ true
unfolding is_stuck need_of reset_chip cell_of all_cells
waits_709 = refl

-- and so do all: the set of all nodes is closed
all_wait : list_all (λ index. is_stuck all_nodes reset_chip.cells (reset_part (name_at index)))
    (range_with_len 0 144) ≡ true
unfolding is_stuck need_of reset_chip cell_of all_cells
all_wait = refl

-- it isn't stuck if its neighbours are outside the set, or if 708 has posted it a word
apart_709 : is_stuck (alone 709) reset_chip.cells (reset_part 709) ≡ false
unfolding is_stuck need_of reset_chip cell_of all_cells
apart_709 = refl

word_709 : is_stuck all_nodes (set reset_chip.cells 495 (Some 0x12)) (reset_part 709) ≡ false
unfolding is_stuck need_of reset_chip cell_of all_cells
word_709 = refl

-- 708 has posted the word: it is stuck as long as the word is pending, and only if its reader is in
-- the set
unread_708 : is_stuck (alone 709) (set reset_chip.cells 495 (Some 0x12)) posted ≡ true
unfolding is_stuck need_of after asks step row reading_of op_with reset_chip cell_of all_cells
unread_708 = refl

read_708 : is_stuck (alone 709) reset_chip.cells posted ≡ false
unfolding is_stuck need_of after asks step row reading_of op_with reset_chip cell_of all_cells
read_708 = refl

apart_708 : is_stuck (alone 708) (set reset_chip.cells 495 (Some 0x12)) posted ≡ false
unfolding is_stuck need_of after asks step row reading_of op_with reset_chip cell_of all_cells
apart_708 = refl

-- 709 has no node above, so there it takes, posts and checks for ever
takes_up : is_stuck_by nobody [] 709 [] (need.Take (sides_with 0x10)) ≡ true
unfolding cell_of all_cells
takes_up = refl

takes_up_or_right : is_stuck_by nobody [] 709 [] (need.Take (sides_with 0x90)) ≡ false
unfolding cell_of all_cells
takes_up_or_right = refl

posts_up : is_stuck_by nobody [] 709 [] (need.Post Up 0x12) ≡ true
posts_up = refl

checks_up : is_stuck_by nobody [] 709 [] (need.Check Up) ≡ true
unfolding cell_of all_cells
checks_up = refl

-- a loader waits for its stream if no word of it is left
no_word : is_stuck_by nobody [] 708 [] need.Input ≡ true
no_word = refl

one_word : is_stuck_by nobody [] 708 (0x000AE ∷ []) need.Input ≡ false
one_word = refl

-- a breakpoint holds no node for ever, and a stop does
held_goes_on : is_stuck all_nodes reset_chip.cells at_3 ≡ false
unfolding is_stuck need_of
held_goes_on = refl

stopped : is_stuck nobody [] (record at_3 { state = record at_3.state { steps = 2 ^ 64 - 1 } })
    ≡ true
unfolding is_stuck need_of
stopped = refl
