-- The definitions of the lines of the path, and of those that are alike, at worked values.
use Rattle.std.proofs.Common.{◌≡◌, ℕ, ◌+◌, ◌*◌, false, List, [], ◌∷◌, Option, Some, refl}
use Rattle.std.specs.Prelude.{codes, None, replicate}
use Rattle.std.specs.Fmt.{digits}
use Rattle.ga_word.specs.Hex.{hex_digits}
use Rattle.ga_word.specs.Op.{op_with}
use Rattle.ga_asm.specs.Image.{ImageView}
use Rattle.ga_disasm.specs.Disassembling.{items_from}
use Rattle.ga_pack.specs.Decoded.{reading_of}
use Rattle.ga_node.specs.declared.place.Place.TheVariants.{Slot1}
use Rattle.ga_observe.specs.declared.step.Deed.TheVariants as did
use Rattle.ga_observe.specs.declared.step.Step.{Step}
use Rattle.ga_trace.specs.At.{at_word}
use Rattle.ga_waits.specs.Label.{label_text}
use Rattle.ga_profile.specs.declared.alike.LineGroup.{LineGroup}
use Rattle.ga_profile.specs.declared.kinds.Kinds.TheVariants.{Nodes, Lines}
use Rattle.ga_profile.specs.Alike.{alike_among, is_alike, turns_alike}
use Rattle.ga_profile.specs.Kinds.{kind_of}
use Rattle.ga_profile.specs.Lines.{line_if, word_of}
use Rattle.ga_profile.specs.PathTable.{group_row}
use Rattle.ga_profile.specs.Rank.{rank_of, ranked}
use Rattle.ga_profile.specs.Share.{cell, share_of}

-- the first of the largest has rank 0
second_of_largest : rank_of (3 ∷ 7 ∷ 7 ∷ 5 ∷ []) 2 ≡ 1
unfolding rank_of
second_of_largest = refl

smallest : rank_of (3 ∷ 7 ∷ 7 ∷ 5 ∷ []) 0 ≡ 3
unfolding rank_of
smallest = refl

third : ranked (3 ∷ 7 ∷ 7 ∷ 5 ∷ []) 2 ≡ 3
unfolding ranked rank_of
third = refl

-- 709 runs slot 1 of the word before P
abbrev a_step : ℕ → Step
a_step p = record {
  node = 709;
  number = 0;
  turn = 0;
  place = Slot1;
  p = p;
  word = 0;
  deed = did.Own;
}

its_node : kind_of Nodes (a_step 4) ≡ 135
its_node = refl

-- if 709 has rank 3
its_word : kind_of (Lines (replicate 144 3)) (a_step 4) ≡ 3 * 65 + 3
unfolding at_word reading_of op_with
its_word = refl

of_port : kind_of (Lines (replicate 144 3)) (a_step 0x1B5) ≡ 3 * 65 + 64
unfolding at_word reading_of op_with
of_port = refl

no_leader : kind_of (Lines (replicate 144 77)) (a_step 4) ≡ 10 * 65 + 3
unfolding at_word reading_of op_with
no_leader = refl

-- the lines of 709 at 00B, and of its code that isn't in memory
abbrev line_of : Option ℕ → LineGroup
line_of word = record { first = record { node = 709; word = word; turns = 1000 }; others = 0 }

a_line : group_row [] 11225 (line_of (Some 11)) ≡ codes "   9   709      00B\n"
unfolding group_row share_of cell digits hex_digits
a_line = refl

other_code : group_row [] 11225 (line_of None) ≡ codes "   9   709        .\n"
unfolding group_row share_of cell digits hex_digits
other_code = refl

-- 709 has a label at 008, and no word
abbrev an_image : ImageView
an_image = record {
  words = [];
  code_len = 0;
  entry = 0;
  labels = (codes "main", 8) ∷ [];
  item_counts = [];
}

with_label : group_row ((709, an_image) ∷ []) 11225 (line_of (Some 11))
    ≡ codes "   9   709      00B main+3\n"
unfolding group_row share_of cell digits hex_digits label_text items_from
with_label = refl

-- and a word at 000, with a label of its own
abbrev a_loaded_image : ImageView
a_loaded_image = record {
  words = 0x2C572 ∷ [];
  code_len = 1;
  entry = 0;
  labels = (codes "step", 0) ∷ [];
  item_counts = [];
}

with_code : group_row ((709, a_loaded_image) ∷ []) 11225 (line_of (Some 0))
    ≡ codes "   9   709      000           step  [ . +* unext . ]\n"
unfolding group_row share_of cell digits hex_digits label_text items_from reading_of op_with
with_code = refl

-- with words of seven other nodes that read alike
abbrev eight_lines : LineGroup
eight_lines = record { first = record { node = 709; word = Some 0; turns = 8000 }; others = 7 }

with_others : group_row ((709, a_loaded_image) ∷ []) 11225 eight_lines
    ≡ codes "  71   709 +7   000           step  [ . +* unext . ]\n"
unfolding group_row share_of cell digits hex_digits label_text items_from reading_of op_with
with_others = refl

no_label : group_row ((709, an_image) ∷ []) 11225 (line_of None) ≡ codes "   9   709        .\n"
unfolding group_row share_of cell digits hex_digits label_text
no_label = refl

-- kind 76 is the word 00B of the node with rank 1; a line without turns isn't one
of_rank_1 : line_if (3 ∷ 7 ∷ 5 ∷ []) 76 1000
    ≡ record { node = 2; word = Some 11; turns = 1000 } ∷ []
unfolding ranked rank_of
of_rank_1 = refl

beyond_memory : word_of 64 ≡ None
beyond_memory = refl

no_turns : line_if (3 ∷ 7 ∷ 5 ∷ []) 76 0 ≡ []
no_turns = refl

-- the first and the third of these four lines read alike, and the others weren't loaded
abbrev some_codes : List (List ℕ)
some_codes = codes "step" ∷ [] ∷ codes "step" ∷ [] ∷ []

with_itself : alike_among some_codes 1 4 ≡ 1
unfolding alike_among
with_itself = refl

read_alike : alike_among some_codes 0 4 ≡ 2
unfolding alike_among
read_alike = refl

not_the_first : alike_among some_codes 2 2 ≡ 1
unfolding alike_among
not_the_first = refl

not_loaded : is_alike some_codes 1 3 ≡ false
not_loaded = refl

turns_together : turns_alike some_codes (3 ∷ 7 ∷ 4 ∷ 5 ∷ []) 0 ≡ 7
unfolding turns_alike
turns_together = refl
