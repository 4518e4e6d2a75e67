-- The lines of words, word by word.
use Rattle.std.proofs.Common.{◌≡◌, ◌∙◌, ◌<◌, ◌≤◌, ℕ, zero, suc, ◌+◌, List, [], ◌∷◌, ◌++◌, length, map, drop, drop-cons, get_or, Some, None, refl, sym, ap, append_assoc, append-nil, arith}
use Rattle.std.proofs.lemmas.List.{drop-map, drop_all}
use Rattle.std.specs.Prelude.{◌==◌, true, false, option_map, if◌then◌else◌}
use Rattle.std.specs.List.{slice_get}
use Rattle.std.specs.Option.{option_map_or}
use Rattle.ga_asm.specs.Image.{ImageView}
use Rattle.ga_asm.specs.Places.{word_places}
use Rattle.ga_disasm.specs.declared.item.Item.{Item}
use Rattle.ga_disasm.specs.Disassembling.{ItemView, item_view, items_from}
use Rattle.ga_list.specs.Lines.{line_from}
use Rattle.ga_list.specs.Listing.{listing_from, node_listing}
use Rattle.ga_list.specs.LineNames.{LineNames}
use Rattle.ga_list.specs.Row.{label_lines, row_text, rows_from}
use Rattle.ga_pack.specs.Model.Layout.{Labels}
use Rattle.ga_pack.specs.Model.Program.{PlacedSection, place_at}
use Rattle.ga_pack.specs.Model.Text.{Place}
use Rattle.ga_source.specs.Program.{item_place, item_place_of, items_at}
use Rattle.ga_source.specs.declared.places.ItemPlace as found
use Rattle.ga_pack.specs.Decoded.{reading_of}
use Rattle.ga_pack.specs.Followers.{followers}

-- each word is one item
pub items_length : (owed left : ℕ) (words : List ℕ)
    → length (items_from owed left words) ≡ length words
unfolding items_from
items_length owed left [] = refl
items_length owed zero (word ∷ words) = ap suc (items_length owed zero words)
items_length zero (suc left) (word ∷ words) =
    ap suc (items_length (followers (reading_of word).ops) left words)
items_length (suc owed) (suc left) (word ∷ words) = ap suc (items_length owed left words)

-- the line of a word more, of those that are left
pub rows_next : (names : LineNames) (labels : Labels) (places : List Place) (words : List ℕ)
    (items : List Item) (address word : ℕ) (item : Item) (old mid new total : List ℕ)
    → address < length words → address < length items → word ≡ get_or words address word
    → item ≡ get_or items address item
    → old ++ rows_from names labels places address (drop address words)
    (drop address (map item_view items)) ≡ total → mid ≡ old ++ label_lines labels address
    → new ≡ mid ++ row_text labels address word (item_view item) (names (place_at places address))
    → new ++ rows_from names labels places (address + 1) (drop (address + 1) words)
    (drop (address + 1) (map item_view items)) ≡ total
rows_next names labels places words items address word item old mid new total h h' word_is item_is
    inv mid_is new_is =
    let views = map item_view items in
    let row = row_text labels address word (item_view item) (names (place_at places address)) in
    let lines = label_lines labels address in
    let rest = λ (n : ℕ). rows_from names labels places n (drop n words) (drop n views) in
    let cut_words : drop address words ≡ word ∷ drop (suc address) words =
    drop-cons words address word h ∙ ap (λ w. w ∷ drop (suc address) words) (sym word_is) in
    let cut_items : drop address items ≡ item ∷ drop (suc address) items =
    drop-cons items address item h' ∙ ap (λ i. i ∷ drop (suc address) items) (sym item_is) in
    let cut_views : drop address views ≡ item_view item ∷ drop (suc address) views =
    drop-map item_view address items ∙ ap (map item_view) cut_items
    ∙ ap (λ t. item_view item ∷ t) (sym (drop-map item_view (suc address) items)) in
    let step : rest address ≡ lines ++ row ++ rest (suc address) =
    ap (λ ws. rows_from names labels places address ws (drop address views)) cut_words
    ∙ ap (λ vs. rows_from names labels places address (word ∷ drop (suc address) words) vs)
    cut_views in
    let next : address + 1 ≡ suc address = omega arith in
    ap (λ n. new ++ rest n) next ∙ ap (λ t. t ++ rest (suc address)) new_is
    ∙ ap (λ t. (t ++ row) ++ rest (suc address)) mid_is
    ∙ ap (λ t. t ++ rest (suc address)) (append_assoc old lines row)
    ∙ append_assoc old (lines ++ row) (rest (suc address)) ∙ ap (λ t. old ++ t) (sym step) ∙ inv

-- behind the last word nothing is left
pub rows_end : (names : LineNames) (labels : Labels) (places : List Place) (words : List ℕ)
    (views : List ItemView) (address : ℕ) (text total : List ℕ) → length words ≤ address
    → text ++ rows_from names labels places address (drop address words)
    (drop address views) ≡ total
    → text ≡ total
rows_end names labels places words views address text total h inv =
    sym (append-nil text)
    ∙ ap (λ ws. text ++ rows_from names labels places address ws (drop address views))
    (sym (drop_all address words h)) ∙ inv

-- the image that is next, and those behind it
cut_at : (images : List (ℕ × ImageView)) (section : ℕ) (image : ℕ × ImageView)
    → Some image ≡ slice_get images section
    → drop section images ≡ image ∷ drop (suc section) images
cut_at [] n x e = absurd (cc)
cut_at (y ∷ l) zero x e = let same : x ≡ y = cc in ap (λ t. t ∷ l) (sym same)
cut_at (y ∷ l) (suc n) x e = cut_at l n x e

-- the listing of an image more, of those that are left
pub listing_next : (names : LineNames) (program : List PlacedSection)
    (images : List (ℕ × ImageView)) (section : ℕ) (image : ℕ × ImageView) (old new total : List ℕ)
    → Some image ≡ slice_get images section
    → old ++ listing_from names program section (drop section images) ≡ total → new ≡ old
    ++ node_listing names image.0 image.1
    (word_places image.1.item_counts (items_at program section))
    → new ++ listing_from names program (section + 1) (drop (section + 1) images) ≡ total
listing_next names program images section image old new total at inv new_is =
    let cut : drop section images ≡ image ∷ drop (suc section) images =
    cut_at images section image at in
    let next : section + 1 ≡ suc section = omega arith in
    let own =
    node_listing names image.0 image.1
    (word_places image.1.item_counts (items_at program section)) in
    ap (λ n. new ++ listing_from names program n (drop n images)) next
    ∙ ap (λ t. t ++ listing_from names program (suc section) (drop (suc section) images)) new_is
    ∙ append_assoc old own (listing_from names program (suc section) (drop (suc section) images))
    ∙ ap (λ l. old ++ listing_from names program section l) (sym cut) ∙ inv

-- the line of a word of the image that is next
pub line_here : (program : List PlacedSection) (images : List (ℕ × ImageView))
    (section node address : ℕ) (image : ℕ × ImageView) → Some image ≡ slice_get images section
    → (image.0 == node) ≡ true → line_from program section (drop section images) node address
    ≡ option_map (λ (place : Place). place.line)
    (slice_get (word_places image.1.item_counts (items_at program section)) address)
line_here program images section node address image at same =
    ap (λ l. line_from program section l node address) (cut_at images section image at)
    ∙ ap (λ b. if b
    then option_map (λ (place : Place). place.line)
    (slice_get (word_places image.1.item_counts (items_at program section)) address)
    else line_from program (suc section) (drop (suc section) images) node address) same

-- the image that is next is of another node
pub line_next : (program : List PlacedSection) (images : List (ℕ × ImageView))
    (section node address : ℕ) (image : ℕ × ImageView) → Some image ≡ slice_get images section
    → (image.0 == node) ≡ false
    → line_from program (section + 1) (drop (section + 1) images) node address
    ≡ line_from program section (drop section images) node address
line_next program images section node address image at apart =
    let next : section + 1 ≡ suc section = omega arith in
    ap (λ n. line_from program n (drop n images) node address) next
    ∙ sym (ap (λ l. line_from program section l node address) (cut_at images section image at)
    ∙ ap (λ b. if b
    then option_map (λ (place : Place). place.line)
    (slice_get (word_places image.1.item_counts (items_at program section)) address)
    else line_from program (suc section) (drop (suc section) images) node address) apart)

-- of the places of all sections' items those of a section
pub section_found : {V : Type 0} (items : V → List found.ItemPlace) (all : List V)
    (program : List PlacedSection) (n : ℕ)
    → map (λ places. map item_place_of (items places)) all
    ≡ map (λ section. map item_place section.items) program
    → map item_place_of (option_map_or items (slice_get all n) [])
    ≡ map item_place (items_at program n)
section_found items [] [] n same = refl
section_found items [] (section ∷ program) n same = absurd (cc)
section_found items (places ∷ all) [] n same = absurd (cc)
section_found items (places ∷ all) (section ∷ program) zero same = cc
section_found items (places ∷ all) (section ∷ program) (suc n) same =
    let others : map (λ places. map item_place_of (items places)) all
    ≡ map (λ section. map item_place section.items) program = cc in
    section_found items all program n others

-- an image is found below their number
pub is_found : (images : List (ℕ × ImageView)) (section : ℕ) → section < length images
    → None ≡ slice_get images section → ⊥
is_found [] section h none = omega (arith, h)
is_found (i ∷ images) zero h none = cc
is_found (i ∷ images) (suc section) h none = is_found images section (omega (arith, h)) none
