use Rattle.std.proofs.Common.{◌≡◌, ◌∙◌, ◌++◌, ◌∷◌, [], ◌<◌, Some, length, ap, arith, lit<}
use Rattle.ga_pack.specs.Encoding.{pack_fault}
use Rattle.ga_pack.specs.Model.Layout.{dest_in}
use Rattle.std.proofs.lemmas.Bool.{ltb-true}
use Rattle.ga_pack.proofs.ItemParts.{word_to_parts}
use Rattle.ga_pack.proofs.Laying.{packable_word_to}
use Rattle.ga_source.specs.Item.{value_of}
use Rattle.ga_asm.specs.Image.{labels_of}
use Rattle.ga_asm.proofs.making.word_to.Goals as goal

pub push-requires : goal.push-requires
push-requires c =
    let w = c.args.bracketed.now in
    let short = ltb-true (length w.ops.items) 3
    (word_to_parts w.ops.items w.op (value_of w.dest) w.spare c.requires).short in
    let same : c.slots_of-slots.result.items ≡ w.ops.items =
    c.slots_of-slots.ensures ∙ c.as_slice.ensures.value in
    let room : length c.slots_of-slots.result.items < 4 = omega (arith, ap length same) in
    (lit< tt, room)

pub word-requires : goal.word-requires
word-requires c =
    let w = c.args.bracketed.now in
    let labels = labels_of c.args.labels.now.entries in
    let ops = w.ops.items in
    let same : c.push.new.self.items ≡ ops ++ w.op ∷ [] =
    c.push.ensures.items
    ∙ ap (λ t. t ++ w.op ∷ []) (c.slots_of-slots.ensures ∙ c.as_slice.ensures.value) in
    let dest : c.dest_in-dest.result ≡ dest_in labels (length ops) (value_of w.dest) =
    c.dest_in-dest.ensures ∙ ap (λ t. dest_in labels t (value_of w.dest)) c.len.ensures.value in
    ap (λ t. pack_fault t (Some c.dest_in-dest.result) c.unwrap_or.result) same
    ∙ ap (λ t. pack_fault (ops ++ w.op ∷ []) (Some t) c.unwrap_or.result) dest
    ∙ ap (λ t. pack_fault (ops ++ w.op ∷ []) (Some (dest_in labels (length ops) (value_of w.dest)))
    t) c.unwrap_or.ensures
    ∙ packable_word_to labels ops w.op (value_of w.dest) w.spare c.requires
