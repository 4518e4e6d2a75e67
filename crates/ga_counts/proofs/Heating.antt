-- The most heat of words, word by word.
use Rattle.std.proofs.Common.{◌≡◌, ◌∙◌, ◌<◌, ◌≤◌, ℕ, suc, ◌+◌, List, ◌∷◌, length, map, drop, drop-cons, get_or, sym, ap, arith}
use Rattle.std.specs.Prelude.{max}
use Rattle.std.proofs.lemmas.List.{drop-map, drop_all}
use Rattle.ga_disasm.specs.declared.item.Item.{Item}
use Rattle.ga_disasm.specs.Disassembling.{ItemView, item_view}
use Rattle.ga_counts.specs.declared.word_counts.WordCounts.{WordCounts}
use Rattle.ga_counts.specs.Heat.{heat, most_from}

-- the heat of a word more, of those that are left
pub most_next : (counts : ℕ → WordCounts) (items : List Item) (address : ℕ) (item : Item)
    (own old new total : ℕ) → address < length items → item ≡ get_or items address item
    → max old (most_from counts address (drop address (map item_view items))) ≡ total
    → own ≡ heat address (item_view item) (counts address) → new ≡ max own old
    → max new (most_from counts (address + 1) (drop (address + 1) (map item_view items))) ≡ total
most_next counts items address item own old new total h item_is inv own_is new_is =
    let views = map item_view items in
    let rest : ℕ → ℕ = λ n. most_from counts n (drop n views) in
    let cut_items : drop address items ≡ item ∷ drop (suc address) items =
    drop-cons items address item h ∙ ap (λ i. i ∷ drop (suc address) items) (sym item_is) in
    let cut_views : drop address views ≡ item_view item ∷ drop (suc address) views =
    drop-map item_view address items ∙ ap (map item_view) cut_items
    ∙ ap (λ t. item_view item ∷ t) (sym (drop-map item_view (suc address) items)) in
    let step : rest address ≡ max (heat address (item_view item) (counts address))
    (rest (suc address)) = ap (most_from counts address) cut_views in
    let next : address + 1 ≡ suc address = omega arith in
    let order : max new (rest (suc address)) ≡ max old (max own (rest (suc address))) =
    omega (arith, new_is) in
    ap (λ n. max new (rest n)) next ∙ order
    ∙ ap (λ one. max old (max one (rest (suc address)))) own_is
    ∙ ap (λ n. max old n) (sym step) ∙ inv

-- behind the last word nothing is left
pub most_end : (counts : ℕ → WordCounts) (views : List ItemView) (address most total : ℕ)
    → length views ≤ address → max most (most_from counts address (drop address views)) ≡ total
    → most ≡ total
most_end counts views address most total h inv =
    let none : max most 0 ≡ most = omega arith in
    sym none ∙ ap (λ vs. max most (most_from counts address vs)) (sym (drop_all address views h))
    ∙ inv
