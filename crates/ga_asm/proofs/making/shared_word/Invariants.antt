use Rattle.std.proofs.Common.{◌≡◌, length, take}
use Rattle.ga_pack.specs.Model.Layout.{last_dest, ops_of}
use Rattle.ga_asm.specs.Image.{labels_of}
use Rattle.ga_asm.specs.inner.Layout.{plain}
use Rattle.ga_asm.proofs.making.shared_word.Given as goal

abbrev pub invariant-loop-item : goal.invariant-loop-item
invariant-loop-item l = record {
  count : length l.ops.items ≡ l.item-index;
  ops : l.ops.items ≡ ops_of (plain (take l.item-index l.items));
  dest : l.dest ≡ last_dest (labels_of l.labels.entries) 0 (plain (take l.item-index l.items));
}
