use Rattle.std.proofs.Common.{◌≡◌, ◌*◌, ◌≤◌, fold, take}
use Rattle.ga_source.specs.Item.{item_of}
use Rattle.ga_hints.specs.Size.{unsized, with_item}
use Rattle.ga_hints.specs.inner.Size.{sizing_of}
use Rattle.ga_hints.proofs.size.size_of.Given as goal

-- what is known of the items so far, each of which adds at most two words
abbrev pub invariant-loop-item : goal.invariant-loop-item
invariant-loop-item l = record {
  so_far : sizing_of l.sizing ≡ fold (λ now item. with_item now (item_of item)) unsized
      (take l.item-index l.items);
  few : l.sizing.address ≤ 2 * l.item-index;
}
