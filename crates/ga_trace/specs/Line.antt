-- The line of a step: where the node was, what it did, and what that changed.
use Rattle.std.specs.Prelude.{ℕ, ◌==◌, Bool, true, false, List, [], ◌∷◌, ◌++◌, codes, get_or, if◌then◌else◌}
use Rattle.std.specs.Fmt.{decimal}
use Rattle.std.specs.List.{concat, flat_map, range_with_len}
use Rattle.std.specs.Option.{option_map_or}
use Rattle.ga_word.specs.Hex.{hex_digits}
use Rattle.ga_word.specs.Op.{name_of}
use Rattle.ga_place.specs.Address.{where_is}
use Rattle.ga_asm.specs.Image.{ImageView, image_of}
use Rattle.ga_node.specs.Line.{place_text}
use Rattle.ga_node.specs.State.{State}
use Rattle.ga_dump.specs.Side.{side_text}
use Rattle.ga_waits.specs.Label.{label_in}
use Rattle.ga_observe.specs.Step.{op_run}
use Rattle.ga_observe.specs.declared.step.Deed.{Deed}
use Rattle.ga_observe.specs.declared.step.Deed.TheVariants.{Own, Posted, Took, SawRead, TookInput}
use Rattle.ga_observe.specs.declared.step.Step.{Step}
use Rattle.ga_trace.specs.At.{at_word}

-- what a step did with a neighbour or a stream, behind blanks
abbrev pub deed_text : Deed → List ℕ
deed_text Own = []
deed_text (Posted side word) = codes "  posts " ++ side_text side ++ 32 ∷ hex_digits 5 word
deed_text (Took side sides word) = codes "  takes " ++ side_text side ++ 32 ∷ hex_digits 5 word
deed_text (SawRead side) = codes "  sees " ++ side_text side ++ codes " read"
deed_text (TookInput word) = codes "  takes input " ++ hex_digits 5 word

-- a register that changed, behind blanks: its name and the new value
abbrev pub word_change : List ℕ → ℕ → ℕ → List ℕ
word_change name old new =
    if old == new then [] else codes "  " ++ name ++ 32 ∷ hex_digits 5 new

abbrev pub b_change : ℕ → ℕ → List ℕ
b_change old new = if old == new then [] else codes "  B " ++ hex_digits 3 new

abbrev pub carry_change : Bool → Bool → List ℕ
carry_change true false = codes "  C 0"
carry_change false true = codes "  C 1"
carry_change _ _ = []

-- a word of memory that changed: its address and the new value
abbrev pub ram_change : List ℕ → List ℕ → ℕ → List ℕ
ram_change old new index =
    if get_or old index 0 == get_or new index 0 then []
    else codes "  " ++ hex_digits 3 index ++ 32 ∷ hex_digits 5 (get_or new index 0)

unfoldable pub ram_changes : List ℕ → List ℕ → List ℕ
ram_changes old new = flat_map (ram_change old new) (range_with_len 0 64)

-- All registers but P that changed, those of the stacks first, and then the words of memory.
abbrev pub stack_changes : State → State → List ℕ
stack_changes old new =
    word_change (codes "T") old.t new.t ++ word_change (codes "S") old.s new.s
    ++ word_change (codes "R") old.r new.r

abbrev pub other_changes : State → State → List ℕ
other_changes old new =
    word_change (codes "A") old.a new.a ++ b_change old.b new.b
    ++ carry_change old.carry new.carry ++ word_change (codes "io") old.io new.io

unfoldable pub changes : State → State → List ℕ
changes old new =
    stack_changes old new ++ other_changes old new ++ ram_changes old.ram new.ram

-- the opcode that a step ran, or its place if that is no slot
abbrev pub work_text : Step → List ℕ
work_text step = option_map_or name_of (op_run step.place step.word) (place_text step.place)

-- The line of a step, by the states of its node before it and after it: how many steps the node has
-- made with it, the address of the word in execution, with a label of the images, what it ran, and
-- what that did and changed. It is ended by LF.
unfoldable pub step_line : List (ℕ × ImageView) → Step → State → State → List ℕ
step_line images step old new =
    let address = at_word step.place old.p step.word in
    concat (decimal new.steps ∷ codes " " ∷ hex_digits 3 address
    ∷ label_in (image_of images step.node) (where_is address)
    ∷ codes "  " ∷ work_text step ∷ deed_text step.deed ∷ changes old new ∷ codes "\n" ∷ [])
