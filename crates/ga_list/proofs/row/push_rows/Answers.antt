use Rattle.std.proofs.Common.{◌≡◌, ◌∙◌, ◌<◌, ◌++◌, ℕ, List, length, map, sym, ap, subst, append_assoc, string_bytes, arith}
use Rattle.std.proofs.lemmas.List.{length-map}
use Rattle.ga_asm.specs.Image.{labels_of}
use Rattle.ga_disasm.specs.declared.item.Item.{Item}
use Rattle.ga_disasm.specs.Disassembling.{item_view, items_of}
use Rattle.ga_list.specs.Row.{label_lines, row_text, rows_from, rows_of}
use Rattle.ga_list.proofs.Rows.{items_length, rows_end, rows_next}
use Rattle.ga_source.specs.Token.{place_of}
use Rattle.ga_list.proofs.row.push_rows.Goals as goal

-- each word has an item
within : (address : ℕ) (words : List ℕ) (code_len : ℕ) (found items : List Item)
    → map item_view found ≡ items_of code_len words → items ≡ found → address < length words
    → address < length items
within address words code_len found items is same h =
    let size : length items ≡ length words = ap length same ∙ sym (length-map found item_view)
    ∙ ap length is ∙ items_length 0 code_len words in
    subst (λ (n : ℕ). address < n) (sym size) h

pub bounds-items-address : goal.bounds-items-address
bounds-items-address g c =
    within c.loop-address.address c.words-words.result.now c.code_len.result
    c.in_ok-found.found.items c.as_slice-items.result.now c.in_ok-found.ensures.items
    c.as_slice-items.ensures.value c.loop-address-test.true

pub loop-address-preserved : goal.loop-address-preserved
loop-address-preserved g c =
    let labels = labels_of c.labels-labels.result.now.entries in
    let words = c.words-words.result.now in
    let items = c.as_slice-items.result.now in
    let word = c.index-words-address.result in
    let item = c.index-items-address.result in
    let h = within c.loop-address.address words c.code_len.result c.in_ok-found.found.items items
    c.in_ok-found.ensures.items c.as_slice-items.ensures.value c.loop-address-test.true in
    let names = g.N.LineNames.names c.args.names.now in
    rows_next names labels
    (map place_of c.args.places.now) words items c.loop-address.address word item _
    _ _ _ c.loop-address-test.true h c.index-words-address.is c.index-items-address.is
    c.loop-address.invariant c.in_ok-push_labels.ensures
    (c.in_ok-push_row.ensures ∙ ap (λ name. string_bytes c.push_labels.new.text
    ++ row_text labels c.loop-address.address word (item_view item) name)
    (c.as_str.ensures.value ∙ c.in_ok-line_name.ensures ∙ ap names c.place_at.ensures))

pub returns : goal.returns
unfolding rows_of
returns g c =
    let names = g.N.LineNames.names c.args.names.now in
    let image = c.args.image.now in
    let places = map place_of c.args.places.now in
    let labels = labels_of c.labels-labels.result.now.entries in
    let words = c.words-words.result.now in
    let views = map item_view c.as_slice-items.result.now in
    let old = string_bytes c.args.text.now in
    let views_are : views ≡ items_of image.code_len image.words =
    ap (map item_view) c.as_slice-items.ensures.value ∙ c.in_ok-found.ensures.items
    ∙ ap (λ n. items_of n words) c.code_len.ensures.value
    ∙ ap (items_of image.code_len) c.words-words.ensures.value in
    let written = rows_end names labels places words views c.loop-address.address
    (string_bytes c.loop-address.text) (old ++ rows_from names labels places 0 words views)
    (omega (arith, c.loop-address-test.false)) c.loop-address.invariant in
    c.in_ok-push_labels-2.ensures ∙ ap (λ t. t ++ label_lines labels (length words)) written
    ∙ append_assoc old (rows_from names labels places 0 words views)
    (label_lines labels (length words))
    ∙ ap (λ ls. old ++ (rows_from names ls places 0 words views ++ label_lines ls (length words)))
    c.labels-labels.ensures.value
    ∙ ap (λ vs. old ++ (rows_from names image.labels places 0 words vs
    ++ label_lines image.labels (length words))) views_are
    ∙ ap (λ ws. old ++ (rows_from names image.labels places 0 ws
    (items_of image.code_len image.words)
    ++ label_lines image.labels (length ws))) c.words-words.ensures.value
