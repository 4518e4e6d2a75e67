-- Where the words of a node begin in its text.
use Rattle.std.specs.Prelude.{ℕ, suc, ◌+◌, List, [], ◌∷◌, ◌++◌, drop, length, map, take, if◌then◌else◌}
use Rattle.ga_pack.specs.Model.Program.{PlacedItem, place_at}
use Rattle.ga_pack.specs.Model.Source.{Item, Literal, makes_word}
use Rattle.ga_pack.specs.Model.Text.{Place}

-- A word begins with the item that it is laid for: a shared word with its first item, and each of
-- its followers with its number. Items are given by their indices from 0.
abbrev pub literal_indices : ℕ → List Item → List ℕ
literal_indices at [] = []
literal_indices at (Literal n ∷ is) = at ∷ literal_indices (suc at) is
literal_indices at (i ∷ is) = literal_indices (suc at) is

-- the items with which the words of a group begin; the first item of the group has this index
abbrev pub indices_in_group : ℕ → List Item → List ℕ
indices_in_group at [] = []
indices_in_group at (i ∷ is) = (if makes_word i then at ∷ [] else []) ++ literal_indices at (i ∷ is)

-- the same for groups, each with its number of items
abbrev pub first_items : ℕ → List ℕ → List Item → List ℕ
first_items at [] items = []
first_items at (count ∷ counts) items =
    indices_in_group at (take count items)
    ++ first_items (at + length (take count items)) counts (drop count items)

-- the places at which the words of a node begin; the items are grouped by these numbers of items
unfoldable pub word_places : List ℕ → List PlacedItem → List Place
word_places counts items =
    map (place_at (map (λ placed. placed.place) items))
    (first_items 0 counts (map (λ placed. placed.item) items))
