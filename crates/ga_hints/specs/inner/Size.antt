-- What is kept of the items of a node while their words are counted, as the definitions have it.
use Rattle.std.specs.Prelude.{◌<◌, length, Option, Some, None, option_map}
use Rattle.ga_asm.specs.Image.{labels_of}
use Rattle.ga_hints.specs.Size.{Open, Sizing}
use Rattle.ga_hints.specs.declared.open_word.OpenWord.{OpenWord}
use Rattle.ga_hints.specs.declared.size.Sizing as written

abbrev pub open_of : Option OpenWord → Open
open_of word = option_map (λ word. (word.address, word.ops.items)) word

abbrev pub sizing_of : written.Sizing → Sizing
sizing_of now = record {
  labels = labels_of now.labels.entries;
  address = now.address;
  open_word = open_of now.open_word;
  data_start = now.data_start;
}

-- a slot of the word is free
abbrev pub HasRoom : Option OpenWord → Type 0
HasRoom None = Unit {0}
HasRoom (Some word) = length word.ops.items < 4
