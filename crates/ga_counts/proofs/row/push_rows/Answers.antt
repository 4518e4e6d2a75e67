use Rattle.std.proofs.Common.{◌≡◌, ◌∙◌, ◌<◌, ◌++◌, ℕ, List, length, map, sym, ap, subst, append_assoc, string_bytes, arith}
use Rattle.std.proofs.lemmas.List.{length-map}
use Rattle.ga_asm.specs.Image.{labels_of}
use Rattle.ga_disasm.specs.declared.item.Item.{Item}
use Rattle.ga_disasm.specs.Disassembling.{item_view, items_of}
use Rattle.ga_list.specs.Row.{label_lines}
use Rattle.ga_source.specs.Token.{place_of}
use Rattle.ga_counts.specs.declared.row.Row.{Row}
use Rattle.ga_counts.specs.declared.word_counts.WordCounts.{WordCounts}
use Rattle.ga_counts.specs.Counts.{word_counts}
use Rattle.ga_counts.specs.Heat.{most_heat}
use Rattle.ga_counts.specs.Row.{row_at, row_by, row_text, rows_from, rows_of}
use Rattle.ga_list.proofs.Rows.{items_length}
use Rattle.ga_counts.proofs.Rows.{rows_end, rows_next}
use Rattle.ga_counts.proofs.row.push_rows.Goals as goal

-- each word has an item
within : (address : ℕ) (words : List ℕ) (code_len : ℕ) (found items : List Item)
    → map item_view found ≡ items_of code_len words → items ≡ found → address < length words
    → address < length items
within address words code_len found items is same h =
    let size : length items ≡ length words = ap length same ∙ sym (length-map found item_view)
    ∙ ap length is ∙ items_length 0 code_len words in
    subst (λ (n : ℕ). address < n) (sym size) h

pub bounds-items-address : goal.bounds-items-address
bounds-items-address c =
    within c.loop-address.address c.words-words.result.now c.code_len.result
    c.in_ok-found.found.items c.as_slice-items.result.now c.in_ok-found.ensures.items
    c.as_slice-items.ensures.value c.loop-address-test.true

pub loop-address-preserved : goal.loop-address-preserved
loop-address-preserved c =
    let labels = labels_of c.labels-labels.result.now.entries in
    let words = c.words-words.result.now in
    let items = c.as_slice-items.result.now in
    let address = c.loop-address.address in
    let word = c.index-words-address.result in
    let item = c.index-items-address.result in
    let view = item_view item in
    let most = c.most_heat-most.result in
    let counts = word_counts c.args.counts.now.words.items c.args.node in
    let row = row_at counts most (map place_of c.args.places.now) c.args.before in
    let h = within address words c.code_len.result c.in_ok-found.found.items items
    c.in_ok-found.ensures.items c.as_slice-items.ensures.value c.loop-address-test.true in
    let row_is : c.row_at-row.result ≡ row address word view =
    c.row_at-row.ensures
    ∙ ap (λ (own : WordCounts). row_by own most c.line_at-line.result address word view)
    c.word.ensures
    ∙ ap (λ n. row_by (counts address) most n address word view) c.line_at-line.ensures in
    rows_next labels row words items address word item _
    _ _ _ c.loop-address-test.true h c.index-words-address.is c.index-items-address.is
    c.loop-address.invariant c.in_ok-push_labels.ensures
    (c.in_ok-push_row.ensures ∙ ap (λ (r : Row). string_bytes c.push_labels.new.text
    ++ row_text labels r view) row_is)

pub returns : goal.returns
unfolding rows_of
returns c =
    let image = c.args.image.now in
    let counts = word_counts c.args.counts.now.words.items c.args.node in
    let row : ℕ → _ = λ most. row_at counts most (map place_of c.args.places.now) c.args.before in
    let labels = labels_of c.labels-labels.result.now.entries in
    let words = c.words-words.result.now in
    let views = map item_view c.as_slice-items.result.now in
    let most = c.most_heat-most.result in
    let old = string_bytes c.args.text.now in
    let views_are : views ≡ items_of image.code_len image.words =
    ap (map item_view) c.as_slice-items.ensures.value ∙ c.in_ok-found.ensures.items
    ∙ ap (λ n. items_of n words) c.code_len.ensures.value
    ∙ ap (items_of image.code_len) c.words-words.ensures.value in
    let written = rows_end labels (row most) words views c.loop-address.address
    (string_bytes c.loop-address.text) (old ++ rows_from labels (row most) 0 words views)
    (omega (arith, c.loop-address-test.false)) c.loop-address.invariant in
    c.in_ok-push_labels-2.ensures ∙ ap (λ t. t ++ label_lines labels (length words)) written
    ∙ append_assoc old (rows_from labels (row most) 0 words views)
    (label_lines labels (length words))
    ∙ ap (λ ls. old ++ (rows_from ls (row most) 0 words views ++ label_lines ls (length words)))
    c.labels-labels.ensures.value
    ∙ ap (λ m. old ++ (rows_from image.labels (row m) 0 words views
    ++ label_lines image.labels (length words))) c.most_heat-most.ensures
    ∙ ap (λ vs. old ++ (rows_from image.labels (row (most_heat counts vs)) 0 words vs
    ++ label_lines image.labels (length words))) views_are
    ∙ ap (λ ws. old ++ (rows_from image.labels
    (row (most_heat counts (items_of image.code_len image.words))) 0 ws
    (items_of image.code_len image.words)
    ++ label_lines image.labels (length ws))) c.words-words.ensures.value
