use Rattle.std.proofs.Common.{◌≡◌, ◌∙◌, ◌+◌, ◌++◌, ◌∷◌, [], length, sym, ap, take, arith}
use Rattle.ga_pack.specs.Model.Layout.{last_dest, ops_of}
use Rattle.ga_source.specs.Item.{item_of}
use Rattle.ga_asm.specs.Image.{labels_of}
use Rattle.ga_asm.specs.inner.Layout.{plain}
use Rattle.ga_asm.proofs.LayingSteps.{front_next}
use Rattle.ga_asm.proofs.MakingSteps.{dest_snoc}
use Rattle.ga_asm.proofs.Summary.{ops_length, ops_snoc}
use Rattle.ga_asm.proofs.making.shared_word.Goals as goal

pub loop-item-preserved : goal.loop-item-preserved
loop-item-preserved c =
    let items = c.args.items.now in
    let at = c.loop-item.item-index in
    let x = item_of c.item-item.result in
    let labels = labels_of c.args.labels.now.entries in
    let front = plain (take at items) in
    let next = front_next items at c.item-item.result c.loop-item-test.true c.item-item.is in
    let slot : c.len.result ≡ 0 + length front =
    omega (arith, ap length c.loop-item.invariant.ops, ops_length front) in
    record {
      count = omega arith;
      ops =
          c.push.ensures.items ∙ ap (λ t. t ++ c.op_of.result ∷ []) c.loop-item.invariant.ops
          ∙ ap (λ t. ops_of front ++ t ∷ []) c.op_of.ensures
          ∙ sym (ops_snoc front x) ∙ ap ops_of (sym next);
      dest = c.item_dest-dest.ensures ∙ sym (dest_snoc labels 0 c.len.result front x slot)
          ∙ ap (last_dest labels 0) (sym next);
    }
