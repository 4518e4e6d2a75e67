use Rattle.std.proofs.Common.{◌∙◌, ◌≤◌, ap, length, subst, sym}
use Rattle.std.proofs.lemmas.List.{length-map}
use Rattle.ga_disasm.specs.Disassembling.{item_view}
use Rattle.ga_list.proofs.Rows.{items_length}
use Rattle.ga_profile.proofs.code.push_word.Goals as goal

-- each word has an item
pub push_item-requires : goal.push_item-requires
push_item-requires c =
    let items = c.in_ok-items.items.items in
    let words = c.words.result.now in
    let size = ap length c.as_slice.ensures.value ∙ sym (length-map items item_view)
    ∙ ap length c.in_ok-items.ensures.items ∙ items_length 0 c.code_len.result words in
    subst (λ n. n ≤ 64) (sym size) c.words.ensures.most
