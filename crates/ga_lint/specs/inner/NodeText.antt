-- What the code knows of a node, as the definitions have it.
use Rattle.std.specs.Prelude.{map}
use Rattle.ga_disasm.specs.Disassembling.{item_view}
use Rattle.ga_lint.specs.NodeView.{NodeView}
use Rattle.ga_lint.specs.declared.node_text.NodeText as written
use Rattle.ga_source.specs.Item.{item_of}
use Rattle.ga_source.specs.Token.{place_of}

abbrev pub node_of : written.NodeText → NodeView
node_of node = record {
  items = map item_of node.items.now;
  item_places = map (λ found. place_of found.place) node.item_places.now;
  image = node.image.now;
  words = map item_view node.words.now;
  word_places = map place_of node.word_places.now;
}
