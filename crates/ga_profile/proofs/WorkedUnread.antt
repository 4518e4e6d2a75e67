-- The definitions of words that no node will ever read at worked values.
use Rattle.std.proofs.Common.{◌≡◌, ℕ, zero, suc, ◌<◌, ◌==◌, true, false, List, [], ◌∷◌, Option, Some, arith, refl, sym}
use Rattle.std.specs.Prelude.{codes, set}
use Rattle.ga_word.specs.Op.{op_with}
use Rattle.ga_pack.specs.Decoded.{reading_of}
use Rattle.ga_place.specs.Cell.{all_cells, cell_of}
use Rattle.ga_place.specs.Side.{sides_with}
use Rattle.ga_place.specs.declared.side.Side.TheVariants.{Left, Right}
use Rattle.ga_node.specs.Need.{need_of, wants}
use Rattle.ga_node.specs.Running.{own_run}
use Rattle.ga_node.specs.Slot.{row, step}
use Rattle.ga_node.specs.Spins.{Spins, is_spinning}
use Rattle.ga_node.specs.State.{State, loaded_state}
use Rattle.ga_node.specs.declared.need.Need.TheVariants as need
use Rattle.ga_node.specs.declared.place.Place.TheVariants.{Slot2}
use Rattle.ga_chip.specs.Chip.{Chip, reset_chip, reset_part}
use Rattle.ga_chip.specs.Part.{asks}
use Rattle.ga_chip.specs.Run.{has_break}
use Rattle.ga_chip.specs.Stuck.{is_stuck}
use Rattle.ga_waits.specs.Closed.{stuck_in}
use Rattle.ga_trace.specs.Rest.{are_unbroken, spins_with}
use Rattle.ga_trace.proofs.Unbroken.{spins_period}
use Rattle.ga_profile.specs.Unread.{has_unread, stuck_text, unread_text, waits_unread}

-- the word of 708 to 709, its neighbour at the right, is pending in cell 495
abbrev cells : List (Option ℕ)
cells = set reset_chip.cells 495 (Some 0x12)

-- 709 never reads it, or another node doesn't
never_read : waits_unread (λ name. name == 709) cells 708 (need.Check Right) ≡ true
unfolding reset_chip cell_of all_cells
never_read = refl

read_later : waits_unread (λ name. name == 707) cells 708 (need.Check Right) ≡ false
unfolding reset_chip cell_of all_cells
read_later = refl

was_read : waits_unread (λ name. name == 709) reset_chip.cells 708 (need.Check Right) ≡ false
unfolding reset_chip cell_of all_cells
was_read = refl

-- a node that waits for a word has none that is unread
takes : waits_unread (λ name. true) reset_chip.cells 708 (need.Take (sides_with 0x80)) ≡ false
takes = refl

-- 000 has no neighbour at the left
no_neighbour : waits_unread (λ name. false) reset_chip.cells 0 (need.Post Left 5) ≡ true
no_neighbour = refl

-- 709 spins at `done: jump done` at 000, which is the word 10000; 708 waits for its word to be read
abbrev in_state : Chip → ℕ → State → Chip
in_state chip index state =
    record chip { parts = set chip.parts index (record (reset_part state.node) { state = state }) }

abbrev waiting : State
waiting = record (loaded_state 708 [] 1) { place = Slot2; posted = Some (Right, 0x12) }

abbrev jumping : State
jumping = record (loaded_state 709 (0x10000 ∷ []) 0) { word = 0x10000 }

abbrev sent : Chip
sent = in_state (in_state (record reset_chip { cells = cells }) 134 waiting) 135 jumping

-- the fetch and the jump lead back
own : (steps : ℕ) → steps < 2 → wants (own_run steps jumping) ≡ need.Own
unfolding step row reading_of op_with
own zero below = refl
own (suc zero) below = refl
own (suc (suc steps)) below = absurd (omega arith)

goes_round : Spins jumping
unfolding step row reading_of op_with
goes_round = record { period = 2; some = omega arith; own = own; back = refl }

spins : spins_with (has_break sent 709) jumping ≡ true
unfolding reset_chip step row reading_of op_with are_unbroken goes_round
spins = sym (spins_period (has_break sent 709) jumping 2 (omega arith) (goes_round, refl))

spinning_reader : has_unread sent 708 ≡ true
unfolding reset_chip cell_of all_cells need_of asks is_stuck stuck_in
spinning_reader = spins

-- if 709 is to read at its right, by `@b . . .`, the word 009B2, 708 may wait only for a time
abbrev sent_early : Chip
sent_early =
    in_state (in_state (record reset_chip { cells = cells }) 134 waiting) 135
    (record (loaded_state 709 (0x009B2 ∷ []) 0) { b = 0x1D5 })

working_reader : has_unread sent_early 708 ≡ false
unfolding reset_chip cell_of all_cells need_of asks is_stuck stuck_in spins_with is_spinning step
    row reading_of op_with
working_reader = refl

line : unread_text (708 ∷ 709 ∷ []) ≡ codes "Stuck, since no node reads its word: 708 709.\n"
unfolding stuck_text
line = refl

no_line : unread_text [] ≡ []
no_line = refl
