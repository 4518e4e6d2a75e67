-- Programs, and the faults of texts, as the contracts have them.
use Rattle.std.specs.Prelude.{ℕ, List, [], ◌∷◌, Option}
use Rattle.std.specs.List.{slice_get}
use Rattle.std.specs.Option.{option_map, option_map_or}
use Rattle.ga_pack.specs.Model.Text.{Place}
use Rattle.ga_pack.specs.Model.LayoutFault.{plain_items}
use Rattle.ga_pack.specs.Model.Source.{Section, Sections}
use Rattle.ga_pack.specs.Model.Program.{IsProgram, PlacedItem, PlacedSection}
use Rattle.ga_source.specs.declared.places.ItemPlace as written
use Rattle.ga_source.specs.Token.{place_of}

-- a section without its places
abbrev pub section_in : PlacedSection → Section
section_in s = record { name = s.name; items = plain_items s }

-- sections without their places
abbrev pub sections_in : List PlacedSection → List Section
sections_in [] = []
sections_in (s ∷ ss) = section_in s ∷ sections_in ss

-- The program is right: each section is of another node, and its items are right.
unfoldable pub IsRight : List PlacedSection → Type 0
IsRight program = Sections [] (sections_in program)

abbrev pub HasNoProgram : List ℕ → Type 0
HasNoProgram text = (program : List PlacedSection) → IsProgram text program → ⊥

-- the place of the first token of an item, and that of the name that it uses, if it uses one
abbrev pub item_place : PlacedItem → Place × Option Place
item_place i = (i.place, i.name_place)

abbrev pub item_place_of : written.ItemPlace → Place × Option Place
item_place_of p = (place_of p.place, option_map place_of p.name)

-- the items of a section, by its number from 0
abbrev pub items_at : List PlacedSection → ℕ → List PlacedItem
items_at program at = option_map_or (λ s. s.items) (slice_get program at) []
