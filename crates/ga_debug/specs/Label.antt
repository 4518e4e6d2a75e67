-- Addresses of a node, by digits or by labels.
use Rattle.std.specs.Prelude.{ℕ, ◌+◌, nat_lt, List, [], ◌∷◌, Option, Some, None, if◌then◌else◌}
use Rattle.std.specs.Option.{option_and_then, option_or}
use Rattle.ga_asm.specs.Image.{image_of}
use Rattle.ga_pack.specs.Model.Layout as laid
use Rattle.ga_path.specs.Stream.{Images}
use Rattle.ga_place.specs.Address.{where_is}
use Rattle.ga_place.specs.declared.address.Where.{Where}
use Rattle.ga_place.specs.declared.address.Where.TheVariants.{Ram}
use Rattle.ga_debug.specs.Pieces.{pieces}
use Rattle.ga_debug.specs.Word.{address_of, decimal_of}

-- the address of a label of a node
abbrev pub label_in : Images → ℕ → List ℕ → Option ℕ
label_in images node label =
    option_and_then (λ image. laid.address_of image.labels label) (image_of images node)

-- nine bits
abbrev pub in_nine_bits : ℕ → Option ℕ
in_nine_bits number = if nat_lt number 0x200 then Some number else None

-- a label of a node; or, behind a `+`, how many words an address is behind a label
abbrev pub behind_label : Images → ℕ → List (List ℕ) → Option ℕ
behind_label images node (label ∷ []) =
    option_and_then in_nine_bits (label_in images node label)
behind_label images node (label ∷ distance ∷ []) =
    option_and_then (λ address. option_and_then (λ more. in_nine_bits (address + more))
    (decimal_of 3 distance)) (label_in images node label)
behind_label images node parts = None

-- an address: three hex digits, or else by a label of its node
abbrev pub address_in : Images → ℕ → List ℕ → Option ℕ
address_in images node word =
    option_or (address_of word) (behind_label images node (pieces 43 word))

-- an address of memory, as an index from 000 on
abbrev pub index_at : Where → Option ℕ
index_at (Ram index) = Some index
index_at at = None

abbrev pub memory_in : Images → ℕ → List ℕ → Option ℕ
memory_in images node word =
    option_and_then (λ address. index_at (where_is address)) (address_in images node word)
