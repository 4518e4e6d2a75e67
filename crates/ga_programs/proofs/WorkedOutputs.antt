-- What the jobs write for inputs that were worked out by hand.
use Rattle.std.proofs.Common.{◌≡◌, [], ◌∷◌, Some, None, Ok, Err, refl}
use Rattle.std.specs.Prelude.{codes}
use Rattle.std.specs.Fmt.{digits}
use Rattle.std.specs.Str.{chars, is_utf8}
use Rattle.ga_word.specs.Hex.{hex_digits, is_word_text}
use Rattle.ga_word.specs.Op.{op_with}
use Rattle.ga_word.specs.Text.{tokens}
use Rattle.ga_pack.specs.Decoded.{reading_of}
use Rattle.ga_disasm.specs.Disassembling.{items_from}
use Rattle.ga_disasm.specs.Printing.{text_of}
use Rattle.ga_node.specs.Line.{line_of}
use Rattle.ga_node.specs.Need.{need_of}
use Rattle.ga_node.specs.Slot.{row, step}
use Rattle.ga_asm.specs.Image.{ImageView, image_line}
use Rattle.ga_path.specs.declared.error.BootError.TheVariants.{Unreached}
use Rattle.ga_path.specs.declared.error.RouteError.TheVariants.{NotNeighbour}
use Rattle.ga_path.specs.declared.error.TreeError.TheVariants.{OtherRoot, Repeated}
use Rattle.ga_group.specs.declared.error.PlanError.TheVariants.{Empty}
use Rattle.ga_programs.specs.Asm.{images_text}
use Rattle.ga_programs.specs.Run.{dealt, plan_by}
use Rattle.ga_input.specs.declared.fault.RouteFault.TheVariants.{BadRoute, Nodes}
use Rattle.ga_input.specs.declared.fault.ServeError.TheVariants.{Boot, Input, Plan, Route, Tree, Words}
use Rattle.ga_input.specs.declared.fault.InputFault.TheVariants.{BadText}
use Rattle.ga_input.specs.declared.fault.WordsFault.TheVariants as words
use Rattle.ga_programs.specs.Boot.{part_text, text_by}
use Rattle.ga_programs.specs.Dis.{dis_output, dis_text}
use Rattle.ga_programs.specs.One.{one_output, one_text}
use Rattle.ga_input.specs.Tree.{tree_in}
use Rattle.ga_input.specs.Text.{words_in}

a_line : one_output 5 (codes "04A12 00005 00003 2C9B2\n") ≡ Ok (codes
    "node 000 P 003 A 00005 B 15D R 00000 S 00000 T 00003 C 0 io 00000 at fetch steps 5 need own\n")
unfolding one_text words_in line_of need_of step row reading_of op_with hex_digits is_word_text
    digits tokens is_utf8 chars lib.Utf8.encode
a_line = refl

a_bad_word : one_output 5 (codes "04A12 5") ≡ Err (Words (words.BadWord 1))
unfolding words_in is_word_text tokens is_utf8 chars lib.Utf8.encode
a_bad_word = refl

no_word : one_output 0 (codes " \n") ≡ Err (Words words.Empty)
unfolding words_in is_word_text tokens is_utf8 chars lib.Utf8.encode
no_word = refl

no_text : one_output 0 (0xFF ∷ []) ≡ Err (Input BadText)
unfolding words_in is_utf8 chars lib.Utf8.encode
no_text = refl

some_code : dis_output (Some 2) (codes "05872 2C9B2 00001")
    ≡ Ok (codes "node 000\n[ @p !+ unext . ]\n, $2C9B2\ndata\n, $00001\n")
unfolding dis_text items_from text_of words_in reading_of op_with hex_digits is_word_text digits
    tokens is_utf8 chars lib.Utf8.encode
some_code = refl

all_code : dis_output None (codes "10BD5") ≡ Ok (codes "node 000\n[ jump $003D5 / 2 ]\n")
unfolding dis_text items_from text_of words_in reading_of op_with hex_digits is_word_text digits
    tokens is_utf8 chars lib.Utf8.encode
all_code = refl

bad_code : dis_output (Some 4) (codes "05872 2C9B2 00001") ≡ Err (Words words.BadCode)
unfolding words_in is_word_text tokens is_utf8 chars lib.Utf8.encode
bad_code = refl

-- a bad word is reported before the length of code
bad_word_first : dis_output (Some 4) (codes "05872 5") ≡ Err (Words (words.BadWord 1))
unfolding words_in is_word_text tokens is_utf8 chars lib.Utf8.encode
bad_word_first = refl

-- an image of one word
one_word : ImageView
one_word =
    record { words = 0x2C9B2 ∷ []; code_len = 1; entry = 0; labels = []; item_counts = 1 ∷ [] }

boot_of_a_neighbour : text_by ((709, one_word) ∷ []) (tree_in (codes "708,709")) ≡ Ok (codes
    "load 14\n000AE 001D5 00008 101D5 04A12 00000 00000 2E9B2\n05872 2C9B2 2C9B2 000AE 00000 00000\nstart 7\n000AE 001D5 00001 10000 001B5 00000 00000\n")
unfolding part_text one_word hex_digits digits
boot_of_a_neighbour = refl

boot_of_a_fork : text_by
    ((709, one_word) ∷ (608, one_word) ∷ []) (tree_in (codes "708,709/708,608")) ≡ Ok (codes
    "load 25\n000AE 001D5 00008 101D5 04A12 00000 00000 2E9B2\n05872 2C9B2 2C9B2 000AE 00115 00008 10115 04A12\n00000 00000 2E9B2 05872 2C9B2 2C9B2 000AE 00000\n00000\nstart 11\n000AE 001D5 00001 10000 000AE 00115 00001 10000\n001B5 00000 00000\n")
unfolding part_text one_word hex_digits digits
boot_of_a_fork = refl

-- the faults of routes come before that of the tree
no_trees : (text_by [] (tree_in (codes "708,709,609/708,608,609")) ≡ Err (Tree (Repeated 1)))
    × (text_by [] (tree_in (codes "708,709/000,001")) ≡ Err (Tree (OtherRoot 1))) × (text_by []
    (tree_in (codes "708,709/708,710/000,001")) ≡ Err (Route (Nodes (NotNeighbour 1))))
    × (text_by [] (tree_in (codes "708//709")) ≡ Err (Route BadRoute))
no_trees = (refl, refl, refl, refl)

no_names : text_by [] (tree_in []) ≡ Err (Route BadRoute)
no_names = refl

no_route : text_by [] (tree_in (codes "708,710")) ≡ Err (Route (Nodes (NotNeighbour 1)))
no_route = refl

not_reached : text_by ((710, one_word) ∷ []) (tree_in (codes "708,709"))
    ≡ Err (Boot (Unreached 710))
not_reached = refl

-- two images, one with its entry and the code before its data
images_of_two : images_text ((708, one_word) ∷ (
  709,
  record {
    words = 0x05872 ∷ 0x2C9B2 ∷ 0x00001 ∷ [];
    code_len = 2;
    entry = 1;
    labels = [];
    item_counts = 3 ∷ 1 ∷ 1 ∷ [];
  },
) ∷ []) ≡ codes
    "node 708 entry 000 code 1 words 1\n2C9B2\nnode 709 entry 001 code 2 words 3\n05872 2C9B2 00001\n"
unfolding image_line one_word hex_digits digits
images_of_two = refl

-- the nodes of a route go round the workers
dealt_to_two : dealt 2 (708 ∷ 709 ∷ 710 ∷ []) ≡ (708 ∷ 710 ∷ []) ∷ (709 ∷ []) ∷ []
dealt_to_two = refl

too_many_workers : plan_by (dealt 3 (708 ∷ 709 ∷ [])) ≡ Err (Plan (Empty 2))
too_many_workers = refl
