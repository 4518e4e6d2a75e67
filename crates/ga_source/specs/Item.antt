-- The items of a program, as the model has them.
use Rattle.ga_source.specs.declared.item.Value.{Value}
use Rattle.ga_source.specs.declared.item.Value.TheVariants as value
use Rattle.ga_source.specs.declared.item.Item.{Item}
use Rattle.ga_source.specs.declared.item.Item.TheVariants as item
use Rattle.ga_source.specs.declared.item.TransferWord.{TransferWord}
use Rattle.ga_pack.specs.Model.Source as model

abbrev pub value_of : Value → model.Value
value_of (value.Number n) = model.Number n
value_of (value.Label name) = model.Label name.bytes

abbrev pub word_of : TransferWord → model.Item
word_of word = model.WordTo word.ops.items word.op (value_of word.dest) word.spare

abbrev pub item_of : Item → model.Item
item_of (item.Instruction o) = model.Instruction o
item_of (item.Transfer o v) = model.Transfer o (value_of v)
item_of (item.Literal n) = model.Literal n
item_of (item.Label name) = model.Here name.bytes
item_of item.Align = model.Align
item_of (item.Word ops) = model.Word ops.items
item_of (item.WordTo word) = word_of word.value
item_of (item.Plain v) = model.Plain (value_of v)
item_of item.Data = model.Data
