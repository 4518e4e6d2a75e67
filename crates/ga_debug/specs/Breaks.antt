-- What is shown of breakpoints, and what a new one replies.
use Rattle.std.specs.Prelude.{ℕ, ◌%◌, ◌==◌, Bool, true, false, ◌&&◌, List, [], ◌∷◌, ◌++◌, codes, Option, Some, None, if◌then◌else◌}
use Rattle.std.specs.List.{flat_map, range_with_len, slice_get}
use Rattle.std.specs.Option.{option_and_then, option_map_or}
use Rattle.ga_word.specs.Hex.{hex_digits}
use Rattle.ga_place.specs.Address.{where_is}
use Rattle.ga_place.specs.Cell.{name_at}
use Rattle.ga_place.specs.Node.{node_text}
use Rattle.ga_place.specs.declared.address.Where.TheVariants as at
use Rattle.ga_asm.specs.Image.{image_of, label_at}
use Rattle.ga_disasm.specs.Disassembling.{Code, items_of}
use Rattle.ga_path.specs.Stream.{Images}
use Rattle.ga_chip.specs.Chip.{Chip, state_of}
use Rattle.ga_chip.specs.Run.{has_break, stands_held}

-- a node is held at an address of nine bits: its tries are held, and these are the low bits of its
-- P
abbrev pub is_held_at : Chip → ℕ → ℕ → Bool
is_held_at chip name address =
    stands_held chip name
    && (option_map_or (λ state. state.p % 512) (state_of chip name) 0 == address)

-- the first label of a node that has an address
abbrev pub label_of : Images → ℕ → ℕ → Option (List ℕ)
label_of images name address =
    option_and_then (λ image. label_at image.labels address) (image_of images name)

-- a breakpoint: its node, the address, the label there, and whether the node is held there
unfoldable pub break_line : Images → Chip → ℕ → ℕ → List ℕ
break_line images chip name address =
    node_text name ++ codes " " ++ hex_digits 3 address
    ++ option_map_or (λ label. 32 ∷ label) (label_of images name address) []
    ++ (if is_held_at chip name address then codes ", held\n" else codes "\n")

abbrev pub break_at : Images → Chip → ℕ → ℕ → List ℕ
break_at images chip name address =
    if has_break chip name address then break_line images chip name address else []

-- the breakpoints of a node, by its 512 addresses, and those of all 144 nodes in order of name
unfoldable pub node_breaks : Images → Chip → ℕ → List ℕ
node_breaks images chip name = flat_map (break_at images chip name) (range_with_len 0 512)

unfoldable pub breaks_text : Images → Chip → List ℕ
breaks_text images chip =
    flat_map (λ index. node_breaks images chip (name_at index)) (range_with_len 0 144)

-- the address reaches a word of the node's image that is a follower or data
abbrev pub begins_no_instruction : Images → ℕ → ℕ → Bool
begins_no_instruction images name address =
    elim (image_of images name) [
      | None ↦ false
      | Some image ↦
          elim (where_is address) [
            | at.Ram index ↦
                elim (slice_get (items_of image.code_len image.words) index)
                [ Some (Code reading) ↦ false | Some word ↦ true | None ↦ false ]
            | _ ↦ false
          ]
    ]

-- the note behind the reply to `break`
abbrev pub break_note : Images → ℕ → ℕ → List ℕ
break_note images name address =
    if begins_no_instruction images name address then codes ", but no instruction begins there"
    else []
