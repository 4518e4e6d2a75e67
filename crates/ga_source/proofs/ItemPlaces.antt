-- The places of the items of a program, found along its tokens.
use Rattle.std.proofs.Common.{◌≡◌, ℕ, suc, ◌+◌, ◌<◌, ◌≤◌, List, [], ◌∷◌, ◌++◌, append-nil, append_assoc, length, drop, get_or, map, Option, Some, None, refl, sym, ap, ◌∙◌, arith}
use Rattle.std.proofs.lemmas.List.{drop_all, drop-drop, drop-map, drop_more, map-append}
use Rattle.ga_word.specs.declared.op.Op.{Op}
use Rattle.ga_pack.specs.Model.Text.{Lexeme, Place, end_of, lexemes, places_of}
use Rattle.ga_pack.specs.Model.Token.{Token, op, close_mark}
use Rattle.ga_pack.specs.Model.Source.{Value, Item, Word, WordTo, Section, item_tokens, items_tokens, op_tokens, spare_tokens, value_token}
use Rattle.ga_pack.specs.Model.Program.{PlacedItem, PlacedSection, placed, placed_items, placed_sections}
use Rattle.ga_source.specs.Item.{item_of}
use Rattle.ga_source.specs.Program.{item_place, item_place_of, items_at, sections_in}
use Rattle.ga_source.specs.Token.{place_of, token_of}
use Rattle.ga_source.specs.declared.item.Item as an
use Rattle.ga_source.specs.declared.places.ItemPlace as found
use Rattle.ga_source.specs.declared.token.Place as here
use Rattle.ga_source.specs.declared.token.Token as written

-- ---- lengths

ops_length : (ops : List Op) (rest : List Token)
    → length (op_tokens ops rest) ≡ length ops + length rest
ops_length [] rest = omega arith
ops_length (o ∷ ops) rest = let e = ops_length ops rest in omega arith

spare_length : (spare : Option ℕ) (rest : List Token)
    → length (spare_tokens spare rest) ≡ length (spare_tokens spare []) + length rest
spare_length None rest = omega arith
spare_length (Some n) rest = omega arith

pub word_count : (ops : List Op) → length (item_tokens (Word ops) []) ≡ length ops + 2
word_count ops = let e = ops_length ops (close_mark ∷ []) in omega arith

pub word_to_count : (ops : List Op) (o : Op) (v : Value)
    → length (item_tokens (WordTo ops o v None) []) ≡ length ops + 4
word_to_count ops o v =
    let e = ops_length ops (op o ∷ value_token v ∷ spare_tokens None []) in omega arith

pub word_spare_count : (ops : List Op) (o : Op) (v : Value) (k : ℕ)
    → length (item_tokens (WordTo ops o v (Some k)) []) ≡ length ops + 6
word_spare_count ops o v k =
    let e = ops_length ops (op o ∷ value_token v ∷ spare_tokens (Some k) []) in omega arith

item_length : (i : Item) (rest : List Token)
    → length (item_tokens i rest) ≡ length (item_tokens i []) + length rest
item_length (Word ops) rest =
    let e = ops_length ops (close_mark ∷ rest) in let f = ops_length ops (close_mark ∷ []) in
    omega arith
item_length (WordTo ops o v spare) rest =
    let e = ops_length ops (op o ∷ value_token v ∷ spare_tokens spare rest) in
    let f = ops_length ops (op o ∷ value_token v ∷ spare_tokens spare []) in
    let g = spare_length spare rest in
    omega arith
item_length _ rest = omega arith

-- behind an item and others
pub behind_item : {X : Type 0} (i : Item) (is : List Item) (xs : List X)
    → drop (length (items_tokens (i ∷ is) [])) xs
    ≡ drop (length (items_tokens is [])) (drop (length (item_tokens i [])) xs)
behind_item i is xs =
    ap (λ n. drop n xs) (item_length i (items_tokens is []))
    ∙ sym (drop-drop (length (items_tokens is [])) (length (item_tokens i [])) xs)

drop_next : {X : Type 0} (xs : List X) (at : ℕ) (x : X) → at < length xs → x ≡ get_or xs at x
    → drop at xs ≡ x ∷ drop (at + 1) xs
drop_next xs at x within is = drop_more xs at x within ∙ ap (λ y. y ∷ drop (at + 1) xs) (sym is)

-- one item more is passed
pub behind_next : {X : Type 0} (items : List an.Item) (at count : ℕ) (item : an.Item)
    (rest next whole : List X) → at < length items → item ≡ get_or items at item
    → drop (length (items_tokens (map item_of (drop at items)) [])) rest ≡ whole
    → count ≡ length (item_tokens (item_of item) []) → next ≡ drop count rest
    → drop (length (items_tokens (map item_of (drop (at + 1) items)) [])) next ≡ whole
behind_next items at count item rest next whole within is so_far many e =
    let left = map item_of (drop (at + 1) items) in
    ap (drop (length (items_tokens left []))) (e ∙ ap (λ n. drop n rest) many)
    ∙ sym (behind_item (item_of item) left rest)
    ∙ ap (λ is. drop (length (items_tokens (map item_of is) [])) rest)
    (sym (drop_next items at item within is)) ∙ so_far

-- one item more is found
pub found_next : (items : List an.Item) (at count : ℕ) (item : an.Item)
    (rest next : List here.Place) (before more : List found.ItemPlace) (place : found.ItemPlace)
    (whole : List (Place × Option Place)) → at < length items → item ≡ get_or items at item
    → map item_place_of before
    ++ map item_place (placed_items (map place_of rest) (map item_of (drop at items))) ≡ whole
    → item_place_of place ≡ item_place (placed (map place_of rest) (item_of item))
    → more ≡ before ++ place ∷ [] → count ≡ length (item_tokens (item_of item) [])
    → next ≡ drop count rest → map item_place_of more
    ++ map item_place (placed_items (map place_of next) (map item_of (drop (at + 1) items))) ≡ whole
unfolding placed_items
found_next items at count item rest next before more place whole within is so_far told e many f =
    let left = map item_of (drop (at + 1) items) in
    let tail = map item_place (placed_items (map place_of next) left) in
    let places : map place_of next ≡ drop (length (item_tokens (item_of item) []))
    (map place_of rest) = ap (map place_of) (f ∙ ap (λ n. drop n rest) many)
    ∙ sym (drop-map place_of (length (item_tokens (item_of item) [])) rest) in
    ap (λ ps. ps ++ tail) (ap (map item_place_of) e ∙ map-append item_place_of before (place ∷ []))
    ∙ append_assoc (map item_place_of before) (item_place_of place ∷ []) tail
    ∙ ap (λ p. map item_place_of before ++ p ∷ tail) told
    ∙ ap (λ ps. map item_place_of before ++ item_place (placed (map place_of rest) (item_of item))
    ∷ map item_place (placed_items ps left)) places
    ∙ ap (λ is. map item_place_of before ++ map item_place
    (placed_items (map place_of rest) (map item_of is))) (sym (drop_next items at item within is))
    ∙ so_far

-- all are found
pub found_all : (items : List an.Item) (at : ℕ) (rest : List here.Place)
    (before : List found.ItemPlace) (whole : List (Place × Option Place)) → length items ≤ at
    → map item_place_of before
    ++ map item_place (placed_items (map place_of rest) (map item_of (drop at items))) ≡ whole
    → map item_place_of before ≡ whole
unfolding placed_items
found_all items at rest before whole all so_far =
    sym (append-nil (map item_place_of before))
    ∙ ap (λ is. map item_place_of before ++ map item_place
    (placed_items (map place_of rest) (map item_of is))) (sym (drop_all at items all)) ∙ so_far

-- ---- without their places they are the items that were placed

items_erased : (places : List Place) (is : List Item)
    → map (λ i. i.item) (placed_items places is) ≡ is
unfolding placed_items
items_erased places [] = refl
items_erased places (i ∷ is) =
    ap (λ r. i ∷ r) (items_erased (drop (length (item_tokens i [])) places) is)

pub sections_erased : (places : List Place) (ss : List Section)
    → sections_in (placed_sections places ss) ≡ ss
unfolding placed_sections
sections_erased places [] = refl
sections_erased places (s ∷ ss) =
    ap (λ is. record { name = s.name; items = is }
    ∷ sections_in (placed_sections (drop (2 + length (items_tokens s.items [])) places) ss))
    (items_erased (drop 2 places) s.items)
    ∙ ap (λ r. s ∷ r) (sections_erased (drop (2 + length (items_tokens s.items [])) places) ss)

-- the place of a token
abbrev pub token_place : written.Token → Place
token_place t = record { line = t.line; column = t.column }

places_same : (ls : List Lexeme) → map token_place (map token_of ls) ≡ map (λ l. l.place) ls
places_same [] = refl
places_same (l ∷ ls) = ap (λ ps. l.place ∷ ps) (places_same ls)

-- the places of all tokens, and that of the text's end
pub all_placed : (text : List ℕ) (tokens : List written.Token) (at : ℕ)
    (places new : List here.Place) (last : here.Place) → tokens ≡ map token_of (lexemes text)
    → length tokens ≤ at
    → map place_of places ++ map token_place (drop at tokens) ≡ map token_place tokens
    → place_of last ≡ end_of text → new ≡ places ++ last ∷ [] → map place_of new ≡ places_of text
unfolding places_of
all_placed text tokens at places new last are all so_far end is =
    let whole : map place_of places ≡ map token_place tokens =
    sym (append-nil (map place_of places)) ∙ ap (λ ts. map place_of places ++ map token_place ts)
    (sym (drop_all at tokens all)) ∙ so_far in
    ap (map place_of) is ∙ map-append place_of places (last ∷ [])
    ∙ ap (λ ps. ps ++ place_of last ∷ []) (whole ∙ ap (map token_place) are
    ∙ places_same (lexemes text)) ∙ ap (λ p. map (λ l. l.place) (lexemes text) ++ p ∷ []) end

-- ---- a section is found behind others

pub section_here : (rest first : List here.Place) (s : Section) (ss : List Section) (at : ℕ)
    (whole : List PlacedItem) → items_at (placed_sections (map place_of rest) (s ∷ ss)) at ≡ whole
    → at ≡ 0 → first ≡ drop 2 rest
    → map item_place (placed_items (map place_of first) s.items) ≡ map item_place whole
unfolding placed_sections
section_here rest first s ss at whole so_far none e =
    ap (λ ps. map item_place (placed_items ps s.items))
    (ap (map place_of) e ∙ sym (drop-map place_of 2 rest))
    ∙ ap (λ n. map item_place (items_at (placed_sections (map place_of rest) (s ∷ ss)) n))
    (sym none) ∙ ap (map item_place) so_far

pub section_past : (rest first next : List here.Place) (s : Section) (ss : List Section)
    (at left : ℕ) (whole : List PlacedItem)
    → items_at (placed_sections (map place_of rest) (s ∷ ss)) at ≡ whole → at ≡ suc left
    → first ≡ drop 2 rest → next ≡ drop (length (items_tokens s.items [])) first
    → items_at (placed_sections (map place_of next) ss) left ≡ whole
unfolding placed_sections
section_past rest first next s ss at left whole so_far more e f =
    let n = length (items_tokens s.items []) in
    let places : map place_of next ≡ drop (2 + n) (map place_of rest) = ap (map place_of)
    (f ∙ ap (drop n) e ∙ drop-drop n 2 rest) ∙ sym (drop-map place_of (2 + n) rest) in
    ap (λ ps. items_at (placed_sections ps ss) left) places
    ∙ ap (items_at (placed_sections (map place_of rest) (s ∷ ss))) (sym more) ∙ so_far

-- the places of the items of a section
abbrev pub places_in : PlacedSection → List (Place × Option Place)
places_in section = map item_place section.items

-- a section more, behind those that are found
pub section_next : (rest first next : List here.Place) (s : Section) (ss : List Section)
    (before : List (List (Place × Option Place))) (own : List (Place × Option Place))
    (whole : List (List (Place × Option Place)))
    → before ++ map places_in (placed_sections (map place_of rest) (s ∷ ss)) ≡ whole
    → own ≡ map item_place (placed_items (map place_of first) s.items) → first ≡ drop 2 rest
    → next ≡ drop (length (items_tokens s.items [])) first
    → (before ++ own ∷ []) ++ map places_in (placed_sections (map place_of next) ss) ≡ whole
unfolding placed_sections
section_next rest first next s ss before own whole so_far own_is e f =
    let n = length (items_tokens s.items []) in
    let here : map place_of first ≡ drop 2 (map place_of rest) =
    ap (map place_of) e ∙ sym (drop-map place_of 2 rest) in
    let places : map place_of next ≡ drop (2 + n) (map place_of rest) =
    ap (map place_of) (f ∙ ap (drop n) e ∙ drop-drop n 2 rest)
    ∙ sym (drop-map place_of (2 + n) rest) in
    append_assoc before (own ∷ []) (map places_in (placed_sections (map place_of next) ss))
    ∙ ap (λ o. before ++ o ∷ map places_in (placed_sections (map place_of next) ss)) own_is
    ∙ ap (λ ps. before ++ map item_place (placed_items ps s.items)
    ∷ map places_in (placed_sections (map place_of next) ss)) here
    ∙ ap (λ ps. before ++ map item_place (placed_items (drop 2 (map place_of rest)) s.items)
    ∷ map places_in (placed_sections ps ss)) places
    ∙ so_far

-- all sections are found
pub all_sections : (places : List Place) (ss : List Section)
    (before whole : List (List (Place × Option Place)))
    → before ++ map places_in (placed_sections places ss) ≡ whole → ss ≡ [] → before ≡ whole
unfolding placed_sections
all_sections places ss before whole so_far none =
    sym (append-nil before)
    ∙ sym (ap (λ t. before ++ map places_in (placed_sections places t)) none)
    ∙ so_far

pub no_section : (places : List Place) (ss : List Section) (at : ℕ) (whole : List PlacedItem)
    → items_at (placed_sections places ss) at ≡ whole → ss ≡ [] → whole ≡ []
unfolding placed_sections
no_section places ss at whole so_far none =
    sym so_far ∙ ap (λ t. items_at (placed_sections places t) at) none
