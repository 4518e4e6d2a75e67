-- The sections of a program, as the model has them, without the places of their items.
use Rattle.std.specs.Prelude.{ℕ, map}
use Rattle.ga_source.specs.declared.section.Section as written
use Rattle.ga_source.specs.Item.{item_of}
use Rattle.ga_pack.specs.Model.Source.{Section}

-- a node and its section
abbrev pub section_of : ℕ × written.Section → Section
section_of entry = record { name = entry.0; items = map item_of entry.1.items.items }
