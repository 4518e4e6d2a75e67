-- The definitions at worked values.
use Rattle.std.proofs.Common.{Some, ◌≡◌, ℕ, ◌+◌, ◌*◌, true, false, List, [], ◌∷◌, refl}
use Rattle.std.specs.Prelude.{None, codes, reverse}
use Rattle.std.specs.Fmt.{digits}
use Rattle.ga_word.specs.Hex.{hex_digits}
use Rattle.ga_word.specs.Op.{op_with}
use Rattle.ga_word.specs.declared.op.Op.TheVariants as op
use Rattle.ga_pack.specs.Decoded.{Reading, reading_of}
use Rattle.ga_place.specs.Side.{sides_with}
use Rattle.ga_place.specs.declared.side.Side.TheVariants.{Right}
use Rattle.ga_node.specs.declared.place.Place.{Place}
use Rattle.ga_node.specs.declared.place.Place.TheVariants.{Fetch, Slot0, Slot1, Slot2, Slot3, Body}
use Rattle.ga_observe.specs.declared.step.Deed.{Deed}
use Rattle.ga_observe.specs.declared.step.Deed.TheVariants as did
use Rattle.ga_observe.specs.declared.step.Step.{Step}
use Rattle.ga_asm.specs.Image.{ImageView}
use Rattle.ga_disasm.specs.Disassembling.{Code, Data}
use Rattle.ga_counts.specs.Columns.{HEAD, cell, counts_text, slots_text}
use Rattle.ga_counts.specs.Counts.{NO_COUNTS, counts_behind, place_of, word_behind}
use Rattle.ga_counts.specs.Heat.{heat, is_hot, most_heat}
use Rattle.ga_counts.specs.Listing.{same_before}
use Rattle.ga_counts.specs.Row.{place_text, row_text}
use Rattle.ga_counts.specs.declared.row.Row.{Row}
use Rattle.ga_counts.specs.declared.word_counts.WordCounts.{WordCounts}

-- a step of a node with P before it
abbrev a_step : ℕ → Place → ℕ → Deed → Step
a_step name place p deed = record {
  node = name;
  number = 0;
  turn = 0;
  place = place;
  p = p;
  word = 0;
  deed = deed;
}

-- 709 boots, and runs the word at 000: its slot 1 posts a word and sees that it was read, and slot
-- 2 makes the word run once more from slot 0 on. Then it fetches the same word at 040, which is 000
-- again, and then a word from its right port. 710 does one step in slot 0 without a fetch.
abbrev steps_709 : List Step
steps_709 =
    a_step 709 Body 0 (did.TookInput 5)
    ∷ a_step 709 Fetch 0 did.Own
    ∷ a_step 710 Slot0 1 did.Own
    ∷ a_step 709 Slot0 1 did.Own
    ∷ a_step 709 Slot1 1 (did.Posted Right 9)
    ∷ a_step 709 Slot1 1 (did.SawRead Right)
    ∷ a_step 709 Slot2 1 did.Own
    ∷ a_step 709 Slot0 1 did.Own
    ∷ a_step 709 Slot1 1 did.Own
    ∷ a_step 709 Slot2 1 did.Own
    ∷ a_step 709 Slot3 1 did.Own
    ∷ a_step 709 Fetch 0x40 did.Own
    ∷ a_step 709 Slot0 0x41 did.Own
    ∷ a_step 709 Fetch 0x1D5 (did.Took Right (sides_with 0x80) 7)
    ∷ a_step 709 Slot0 0x1D5 did.Own
    ∷ []

abbrev counts_709 : WordCounts
counts_709 = record { fetches = 2; slot0 = 3; slot1 = 2; slot2 = 2; slot3 = 1 }

-- node 709 is the 135th
its_counts : counts_behind (135 * 64 + 0) (reverse steps_709) ≡ counts_709
its_counts = refl

its_place : place_of 709 0x41 ≡ 135 * 64 + 1
its_place = refl

-- code from a port isn't in memory, and what 710 ran was fetched before the steps began
no_word : word_behind 709 (reverse steps_709) ≡ None
no_word = refl

not_fetched : counts_behind (136 * 64 + 0) (reverse steps_709) ≡ NO_COUNTS
not_fetched = refl

-- ---- heat

abbrev at_p_a_store : Reading
at_p_a_store = record {
  ops = op.FetchP ∷ op.AStore ∷ op.FetchP ∷ op.Nop ∷ [];
  dest = None;
  spare = 0;
}

its_heat : heat 0 (Code at_p_a_store) counts_709 ≡ 3
its_heat = refl

-- the word 10006 at 006 only jumps there; at 007 it doesn't
abbrev jump_006 : Reading
jump_006 = record { ops = op.Jump ∷ []; dest = Some 6; spare = 0 }

spin_has_none : heat 6 (Code jump_006) counts_709 ≡ 0
spin_has_none = refl

jump_has_some : heat 7 (Code jump_006) counts_709 ≡ 3
jump_has_some = refl

-- the heat of a word as code at an address, with these counts
abbrev heat_at : ℕ → ℕ → ℕ
heat_at address word = heat address (Code (reading_of word)) counts_709

-- `. . jump` is 16 and 09 in slots 0 and 1 (the code 1C in exclusive or with 0A and 15), 08 in slot
-- 2 (02 in exclusive or with 0A), and three bits. With 2, 2C942, it goes to 00A at 00A, but with 3
-- to 00B.
by_three_bits : (heat_at 0x00A 0x2C942 ≡ 0) × (heat_at 0x00A 0x2C943 ≡ 3)
unfolding reading_of op_with
by_three_bits = (refl, refl)

-- with 7 it goes to 00F at 007, and to 047 at 03F, since P is 008 and 040 behind the fetch
next_eight : (heat_at 0x007 0x2C947 ≡ 3) × (heat_at 0x03F 0x2C947 ≡ 3)
unfolding reading_of op_with
next_eight = (refl, refl)

-- `. jump` is 16 and 17 in slots 0 and 1 (02 in exclusive or with 15), and eight bits. With 0A it
-- goes to 00A, and with 3F to 03F, though P is 040 there.
by_eight_bits : (heat_at 0x00A 0x2D70A ≡ 0) × (heat_at 0x00B 0x2D70A ≡ 3)
    × (heat_at 0x03F 0x2D73F ≡ 0)
unfolding reading_of op_with
by_eight_bits = (refl, refl, refl)

most_of_two : most_heat (λ address. counts_709) (Code jump_006 ∷ Data 7 ∷ []) ≡ 3
unfolding most_heat
most_of_two = refl

half_is_hot : is_hot 3 6 ≡ true
half_is_hot = refl

less_is_not : is_hot 3 7 ≡ false
less_is_not = refl

zero_is_not : is_hot 0 0 ≡ false
zero_is_not = refl

-- ---- columns

-- all four slots of a word, of which slots 1 and 2 ran as often as it was fetched
its_columns : counts_text counts_709 4 true ≡ codes "*       2      3                    1"
unfolding counts_text slots_text cell digits
its_columns = refl

-- a word with one opcode
one_opcode : counts_text counts_709 1 false ≡ codes "        2      3                     "
unfolding counts_text slots_text cell digits
one_opcode = refl

-- a slot that never ran behind `;`
never_ran : counts_text (record { fetches = 5; slot0 = 5; slot1 = 0; slot2 = 0; slot3 = 0 }) 2 false
    ≡ codes "        5             .              "
unfolding counts_text slots_text cell digits
never_ran = refl

-- data that was never fetched
abbrev row_003 : Row
row_003 = record { address = 3; word = 7; line = 8; counts = NO_COUNTS; is_hot = false }

line_of_003 : row_text [] row_003 (Data 7)
    ≡ codes "        .                              003  00007      8  data      , $00007\n"
unfolding row_text place_text counts_text slots_text cell digits hex_digits
line_of_003 = refl

-- code
abbrev row_000 : Row
row_000 = record { address = 0; word = 0x04A12; line = 12; counts = counts_709; is_hot = true }

line_of_000 : row_text [] row_000 (Code at_p_a_store)
    ≡ codes "*       2      3                    1  000  04A12     12  code      [ @p a! @p . ]\n"
unfolding row_text place_text counts_text slots_text cell digits hex_digits
line_of_000 = refl

the_head : HEAD
    ≡ codes "  fetches  slot0  slot1  slot2  slot3  at   word    line  kind      reading\n"
unfolding HEAD
the_head = refl

-- 708 and 710 have the same words and the same entry, and 709 has another entry
abbrev image_from : ℕ → ImageView
image_from entry = record {
  words = 0x2C9B2 ∷ 0x10000 ∷ [];
  code_len = 2;
  entry = entry;
  labels = [];
  item_counts = [];
}

abbrev images : List (ℕ × ImageView)
images = (708, image_from 0) ∷ (709, image_from 1) ∷ (710, image_from 0) ∷ []

of_710 : same_before images 710 (image_from 0) ≡ Some 708
of_710 = refl

of_709 : same_before images 709 (image_from 1) ≡ None
of_709 = refl

of_708 : same_before images 708 (image_from 0) ≡ None
of_708 = refl
