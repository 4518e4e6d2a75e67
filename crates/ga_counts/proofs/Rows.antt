-- The lines of words, word by word.
use Rattle.std.proofs.Common.{◌≡◌, ◌∙◌, ◌<◌, ◌≤◌, ℕ, zero, suc, ◌+◌, List, [], ◌∷◌, ◌++◌, length, map, drop, drop-cons, get_or, Some, None, refl, sym, ap, append_assoc, append-nil, arith}
use Rattle.std.proofs.lemmas.List.{drop-map, drop_all}
use Rattle.std.specs.List.{slice_get}
use Rattle.std.specs.Option.{option_map_or}
use Rattle.ga_asm.specs.Image.{ImageView}
use Rattle.ga_asm.specs.Places.{word_places}
use Rattle.ga_disasm.specs.declared.item.Item.{Item}
use Rattle.ga_disasm.specs.Disassembling.{ItemView, item_view}
use Rattle.ga_list.specs.Row.{label_lines}
use Rattle.ga_pack.specs.Model.Layout.{Labels}
use Rattle.ga_pack.specs.Model.Program.{PlacedSection}
use Rattle.ga_source.specs.Program.{item_place, item_place_of, items_at}
use Rattle.ga_source.specs.declared.places.ItemPlace as found
use Rattle.ga_counts.specs.declared.row.Row.{Row}
use Rattle.ga_counts.specs.declared.word_counts.WordCounts.{WordCounts}
use Rattle.ga_counts.specs.Listing.{SectionView, section_of, sections_from}
use Rattle.ga_counts.specs.Row.{row_text, rows_from}

-- the line of a word more, of those that are left
pub rows_next : (labels : Labels) (row : ℕ → ℕ → ItemView → Row) (words : List ℕ)
    (items : List Item) (address word : ℕ) (item : Item) (old mid new total : List ℕ)
    → address < length words
    → address < length items → word ≡ get_or words address word → item ≡ get_or items address item
    → old ++ rows_from labels row address (drop address words)
    (drop address (map item_view items)) ≡ total → mid ≡ old ++ label_lines labels address
    → new ≡ mid ++ row_text labels (row address word (item_view item)) (item_view item)
    → new ++ rows_from labels row (address + 1) (drop (address + 1) words)
    (drop (address + 1) (map item_view items)) ≡ total
rows_next labels row words items address word item old mid new total h h' word_is item_is inv
    mid_is new_is =
    let views = map item_view items in
    let own = row_text labels (row address word (item_view item)) (item_view item) in
    let lines = label_lines labels address in
    let rest = λ (n : ℕ). rows_from labels row n (drop n words) (drop n views) in
    let cut_words : drop address words ≡ word ∷ drop (suc address) words =
    drop-cons words address word h ∙ ap (λ w. w ∷ drop (suc address) words) (sym word_is) in
    let cut_items : drop address items ≡ item ∷ drop (suc address) items =
    drop-cons items address item h' ∙ ap (λ i. i ∷ drop (suc address) items) (sym item_is) in
    let cut_views : drop address views ≡ item_view item ∷ drop (suc address) views =
    drop-map item_view address items ∙ ap (map item_view) cut_items
    ∙ ap (λ t. item_view item ∷ t) (sym (drop-map item_view (suc address) items)) in
    let step : rest address ≡ lines ++ own ++ rest (suc address) =
    ap (λ ws. rows_from labels row address ws (drop address views)) cut_words
    ∙ ap (λ vs. rows_from labels row address (word ∷ drop (suc address) words) vs) cut_views in
    let next : address + 1 ≡ suc address = omega arith in
    ap (λ n. new ++ rest n) next ∙ ap (λ t. t ++ rest (suc address)) new_is
    ∙ ap (λ t. (t ++ own) ++ rest (suc address)) mid_is
    ∙ ap (λ t. t ++ rest (suc address)) (append_assoc old lines own)
    ∙ append_assoc old (lines ++ own) (rest (suc address)) ∙ ap (λ t. old ++ t) (sym step) ∙ inv

-- behind the last word nothing is left
pub rows_end : (labels : Labels) (row : ℕ → ℕ → ItemView → Row) (words : List ℕ)
    (views : List ItemView) (address : ℕ) (text total : List ℕ) → length words ≤ address
    → text ++ rows_from labels row address (drop address words) (drop address views) ≡ total
    → text ≡ total
rows_end labels row words views address text total h inv =
    sym (append-nil text)
    ∙ ap (λ ws. text ++ rows_from labels row address ws (drop address views))
    (sym (drop_all address words h)) ∙ inv

-- the image that is next, and those behind it
cut_at : (images : List (ℕ × ImageView)) (section : ℕ) (image : ℕ × ImageView)
    → Some image ≡ slice_get images section
    → drop section images ≡ image ∷ drop (suc section) images
cut_at [] n x e = absurd (cc)
cut_at (y ∷ l) zero x e = let same : x ≡ y = cc in ap (λ t. t ∷ l) (sym same)
cut_at (y ∷ l) (suc n) x e = cut_at l n x e

-- the listing of an image more, of those that are left
pub section_next : (counts : List WordCounts) (before : ℕ) (program : List PlacedSection)
    (images : List (ℕ × ImageView)) (section : ℕ) (image : ℕ × ImageView)
    (old new total : List SectionView) → Some image ≡ slice_get images section
    → old ++ sections_from counts before program images section (drop section images) ≡ total
    → new ≡ old ++ section_of counts before images image.0 image.1
    (word_places image.1.item_counts (items_at program section)) ∷ []
    → new ++ sections_from counts before program images (section + 1) (drop (section + 1) images)
    ≡ total
section_next counts before program images section image old new total at inv new_is =
    let cut : drop section images ≡ image ∷ drop (suc section) images =
    cut_at images section image at in
    let next : section + 1 ≡ suc section = omega arith in
    let rest = sections_from counts before program images (suc section)
    (drop (suc section) images) in
    let own = section_of counts before images image.0 image.1
    (word_places image.1.item_counts (items_at program section)) in
    ap (λ n. new ++ sections_from counts before program images n (drop n images)) next
    ∙ ap (λ t. t ++ rest) new_is ∙ append_assoc old (own ∷ []) rest
    ∙ ap (λ l. old ++ sections_from counts before program images section l) (sym cut) ∙ inv

-- of the places of all sections' items those of a section
pub section_found : {V : Type 0} (items : V → List found.ItemPlace) (all : List V)
    (program : List PlacedSection) (n : ℕ)
    → map (λ places. map item_place_of (items places)) all
    ≡ map (λ section. map item_place section.items) program
    → map item_place_of (option_map_or items (slice_get all n) [])
    ≡ map item_place (items_at program n)
section_found items [] [] n same = refl
section_found items [] (section ∷ program) n same = absurd (cc)
section_found items (places ∷ all) [] n same = absurd (cc)
section_found items (places ∷ all) (section ∷ program) zero same = cc
section_found items (places ∷ all) (section ∷ program) (suc n) same =
    let others : map (λ places. map item_place_of (items places)) all
    ≡ map (λ section. map item_place section.items) program = cc in
    section_found items all program n others

-- an image is found below their number
pub is_found : (images : List (ℕ × ImageView)) (section : ℕ) → section < length images
    → None ≡ slice_get images section → ⊥
is_found [] section h none = omega (arith, h)
is_found (i ∷ images) zero h none = cc
is_found (i ∷ images) (suc section) h none = is_found images section (omega (arith, h)) none
