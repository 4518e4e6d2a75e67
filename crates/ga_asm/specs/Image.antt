-- What the words of a node are: the image of its items.
use Rattle.std.specs.Prelude.{String, ◌≡◌, ◌==◌, ◌≤◌, ℕ, Bool, List, [], ◌∷◌, ◌++◌, Option, Some, None, codes, length, map, nat_le, if◌then◌else◌}
use Rattle.std.specs.Fmt.{decimal}
use Rattle.std.specs.List.{list_all}
use Rattle.std.specs.Map.{lookup}
use Rattle.std.specs.Option.{unwrap_or}
use Rattle.std.specs.String.{string_bytes}
use Rattle.ga_pack.specs.Model.Layout.{Group, Shared, Alone, Laid, Labels, address_of}
use Rattle.ga_pack.specs.Model.Source.{Item}
use Rattle.ga_place.specs.Node.{node_text}
use Rattle.ga_word.specs.Hex.{hex_digits}

-- the words, how many of them are code, the address where the node begins, the labels with their
-- addresses, and how many items each group has
pub record ImageView : Type 0 where
  pub words : List ℕ
  pub code_len : ℕ
  pub entry : ℕ
  pub labels : Labels
  pub item_counts : List ℕ

-- labels as the model has them
abbrev pub labels_of : {A : Type 0} → List (String A × ℕ) → Labels
labels_of entries = map (λ entry. (string_bytes entry.0, entry.1)) entries

-- the first label that has this address
abbrev pub label_at : Labels → ℕ → Option (List ℕ)
label_at [] address = None
label_at (label ∷ labels) address =
    if label.1 == address then Some label.0 else label_at labels address

-- the address of the label `main`, or 0 if no label is `main`
abbrev pub entry_of : Labels → ℕ
entry_of labels = unwrap_or (address_of labels (codes "main")) 0

-- addresses of words, or the one behind the last word that a node may have
abbrev pub all_near : Labels → Bool
all_near labels = list_all (λ label. nat_le label.1 64) labels

-- how many items a group has
abbrev pub item_count : Group → ℕ
item_count (Shared i is) = length (i ∷ is)
item_count (Alone i) = 1

-- the image of a node, if it is among these
abbrev pub image_of : List (ℕ × ImageView) → ℕ → Option ImageView
image_of images name = lookup (λ other. name == other) images

-- The items are laid as the words, the labels and the length of code of an image. Its entry is that
-- of its labels, and its groups of items are those of the layout.
pub record IsImage (items : List Item) (image : ImageView) : Type 0 where
  pub laid : Laid items image.words image.labels image.code_len
  pub entry_is : image.entry ≡ entry_of image.labels
  pub counts_are : image.item_counts ≡ map item_count laid.groups

-- an image that a node has room for: 1 to 64 words, and an entry of at most 64
pub record IsLoadable (image : ImageView) : Type 0 where
  pub some : 1 ≤ length image.words
  pub most : length image.words ≤ 64
  pub entry_near : image.entry ≤ 64

-- the line of an image: the node, its entry, and how many of its words are code and how many there
-- are
unfoldable pub image_line : ℕ → ImageView → List ℕ
image_line node image =
    codes "node " ++ node_text node ++ codes " entry " ++ hex_digits 3 image.entry ++ codes " code "
    ++ decimal image.code_len
    ++ codes " words " ++ decimal (length image.words) ++ 10 ∷ []
