use Rattle.std.proofs.Common.{◌≡◌, ◌∙◌, true, None, ap, subst}
use Rattle.ga_pack.specs.Encoding.{pack_fault}
use Rattle.ga_pack.specs.Model.Layout.{filled}
use Rattle.ga_pack.specs.Model.Source.{is_item}
use Rattle.ga_pack.proofs.Laying.{packable_word}
use Rattle.ga_source.specs.Item.{item_of}
use Rattle.ga_asm.proofs.making.push_alone.Goals as goal

pub word-requires : goal.word-requires
word-requires c =
    let ops = c.in-Word.ops.items in
    let right = subst (λ t. is_item (item_of t) ≡ true) c.in-Word.is c.requires.right in
    ap (λ t. pack_fault (filled 4 t) None 0) (c.slots_of.ensures ∙ c.as_slice.ensures.value)
    ∙ packable_word ops right
