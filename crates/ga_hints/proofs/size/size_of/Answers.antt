use Rattle.std.proofs.Common.{◌∙◌, ap, arith, fold, sym, take}
use Rattle.std.proofs.lemmas.List.{take_all}
use Rattle.std.proofs.lemmas.List.Folds.{fold-map}
use Rattle.std.proofs.lemmas.List.Sums.{fold_more}
use Rattle.ga_source.specs.Item.{item_of}
use Rattle.ga_source.specs.declared.item.Item.{Item}
use Rattle.ga_hints.specs.Size.{Sizing, size_in, size_of, unsized, with_item}
use Rattle.ga_hints.proofs.size.size_of.Goals as goal

abbrev step : Sizing → Item → Sizing
step now item = with_item now (item_of item)

pub loop-item-preserved : goal.loop-item-preserved
loop-item-preserved c =
    let items = c.args.items.now in
    let index = c.loop-item.item-index in
    let item = c.item-item.result in record {
      so_far = c.in_ok-add.ensures.more
          ∙ ap (λ now. step now item) c.loop-item.invariant.so_far
          ∙ ap (step (fold step unsized (take index items))) c.item-item.is
          ∙ sym (fold_more step unsized items index item c.loop-item-test.true);
      few = omega (arith, c.in_ok-add.ensures.few);
    }

pub returns : goal.returns
unfolding size_of
returns c =
    let items = c.args.items.now in
    let index = c.loop-item.item-index in
    c.size.ensures
    ∙ ap size_in (c.loop-item.invariant.so_far
    ∙ ap (fold step unsized) (take_all index items (omega (arith, c.loop-item-test.false)))
    ∙ sym (fold-map with_item item_of unsized items))
