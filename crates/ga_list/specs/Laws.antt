-- A destination that was laid for a name is listed as a label with that name's address.
use Rattle.std.specs.Prelude.{◌≡◌, ℕ, List, [], ◌∷◌, ◌++◌, All, Option, Some, None, codes, map}
use Rattle.std.specs.List.{slice_get, zip}
use Rattle.ga_word.specs.Op.{name_of}
use Rattle.ga_pack.specs.Decoded.{Reading}
use Rattle.ga_pack.specs.Model.Layout.{Group, Shared, Alone, Laid, address_after, address_of}
use Rattle.ga_pack.specs.Model.LayoutFault.{plain_items}
use Rattle.ga_pack.specs.Model.Source.{Item, Label, Transfer, WordTo}
use Rattle.ga_asm.specs.Image.{ImageView, label_at}
use Rattle.ga_asm.specs.Text.{HasImages}
use Rattle.ga_disasm.specs.Disassembling.{Code, items_of}
use Rattle.ga_disasm.specs.Printing.{line, spare_texts}
use Rattle.ga_list.specs.Reading.{reading_line}

-- the name to which the last of these items goes, if it goes to one
abbrev pub last_name : List Item → Option (List ℕ)
last_name [] = None
last_name (Transfer o (Label s) ∷ []) = Some s
last_name (i ∷ is) = last_name is

-- the name to which a group's word goes, if it goes to one
abbrev pub dest_name : Group → Option (List ℕ)
dest_name (Shared i is) = last_name (i ∷ is)
dest_name (Alone (WordTo ops o (Label s) spare)) = Some s
dest_name group = None

-- The word at an address is code, and its line has a label as its destination: the first one with
-- the address of a name.
pub record IsListedFor (image : ImageView) (address : ℕ) (s : List ℕ) : Type 0 where
  pub reading : Reading
  pub is_code : slice_get (items_of image.code_len image.words) address ≡ Some (Code reading)
  pub target : ℕ
  pub target_is : address_of image.labels s ≡ Some target
  pub label : List ℕ
  pub label_is : label_at image.labels target ≡ Some label
  pub line_is : reading_line image.labels address (Code reading)
      ≡ line (codes "[")
      (map name_of reading.ops ++ label ∷ spare_texts reading.spare ++ codes "]" ∷ [])

-- each word of a node that goes to a name is listed so
abbrev pub ListsNames : List Item → ImageView → Type 0
ListsNames items image =
    (laid : Laid items image.words image.labels image.code_len)
    (front : List Group) (group : Group) (back : List Group) (s : List ℕ)
    → laid.groups ≡ front ++ group ∷ back → dest_name group ≡ Some s
    → IsListedFor image (address_after 0 front) s

-- each word of each node of a text
abbrev pub NamesAreListed : Type 0
NamesAreListed = (text : List ℕ) (images : List (ℕ × ImageView)) (has : HasImages text images)
    → All (λ node. ListsNames (plain_items node.0) node.1.1) (zip has.program images)
