-- The sections of a program, one after the other.
use Rattle.std.proofs.Common.{◌≡◌, ◌∙◌, ◌<◌, ℕ, zero, suc, ◌+◌, List, [], ◌∷◌, ◌++◌, length, map, drop, Some, None, refl, sym, ap, append_assoc, arith}
use Rattle.std.specs.List.{slice_get}
use Rattle.std.specs.Option.{option_map_or}
use Rattle.ga_asm.specs.Image.{ImageView}
use Rattle.ga_asm.specs.Places.{word_places}
use Rattle.ga_asm.specs.inner.Layout.{plain}
use Rattle.ga_disasm.specs.Disassembling.{ItemView, items_from, items_of}
use Rattle.ga_lint.specs.Linting.{warnings_from}
use Rattle.ga_lint.specs.NodeView.{NodeView, node_view}
use Rattle.ga_lint.specs.NodeWarnings.{node_warnings}
use Rattle.ga_lint.specs.declared.warning.Warning.{Warning}
use Rattle.ga_pack.specs.Decoded.{reading_of}
use Rattle.ga_pack.specs.Followers.{followers}
use Rattle.ga_pack.specs.Model.Program.{PlacedItem, PlacedSection}
use Rattle.ga_pack.specs.Model.Source.{Item, Section}
use Rattle.ga_pack.specs.Model.Text.{Place}
use Rattle.ga_source.specs.Program.{item_place, item_place_of, items_at, section_in, sections_in}
use Rattle.ga_source.specs.Section.{section_of}
use Rattle.ga_source.specs.Token.{place_of}
use Rattle.ga_source.specs.declared.item.Item as an
use Rattle.ga_source.specs.declared.places.ItemPlace as found
use Rattle.ga_source.specs.declared.section.Section as written

-- the items of a section as the code has them
abbrev pub items_in : ℕ × written.Section → List an.Item
items_in entry = entry.1.items.items

-- of the items of all sections those of a section
pub section_items : (program : List PlacedSection) (entries : List (ℕ × written.Section)) (n : ℕ)
    → map section_of entries ≡ sections_in program
    → map (λ (p : PlacedItem). p.item) (items_at program n)
    ≡ plain (option_map_or items_in (slice_get entries n) [])
section_items [] [] n same = refl
section_items [] (e ∷ entries) n same = absurd (cc)
section_items (s ∷ program) [] n same = absurd (cc)
section_items (s ∷ program) (e ∷ entries) zero same =
    let one : section_of e ≡ section_in s = cc in sym (ap (λ (t : Section). t.items) one)
section_items (s ∷ program) (e ∷ entries) (suc n) same =
    let others : map section_of entries ≡ sections_in program = cc in
    section_items program entries n others

-- the places of items, without those of the names
pub own_places : (places : List found.ItemPlace) (items : List PlacedItem)
    → map item_place_of places ≡ map item_place items
    → map (λ (p : found.ItemPlace). place_of p.place) places
    ≡ map (λ (i : PlacedItem). i.place) items
own_places [] [] same = refl
own_places [] (i ∷ items) same = absurd (cc)
own_places (p ∷ places) [] same = absurd (cc)
own_places (p ∷ places) (i ∷ items) same =
    let one : item_place_of p ≡ item_place i = cc in
    let others : map item_place_of places ≡ map item_place items = cc in
    let more = own_places places items others in
    let first : place_of p.place ≡ i.place = ap (λ t. t.0) one in
    ap (λ t. t ∷ map (λ (p : found.ItemPlace). place_of p.place) places) first
    ∙ ap (λ t. i.place ∷ t) more

-- of the places of all sections' items those of a section
pub section_found : {V : Type 0} (items : V → List found.ItemPlace) (all : List V)
    (program : List PlacedSection) (n : ℕ)
    → map (λ places. map item_place_of (items places)) all
    ≡ map (λ section. map item_place section.items) program
    → map item_place_of (option_map_or items (slice_get all n) [])
    ≡ map item_place (items_at program n)
section_found items [] [] n same = refl
section_found items [] (section ∷ program) n same = absurd (cc)
section_found items (places ∷ all) [] n same = absurd (cc)
section_found items (places ∷ all) (section ∷ program) zero same = cc
section_found items (places ∷ all) (section ∷ program) (suc n) same =
    let others : map (λ places. map item_place_of (items places)) all
    ≡ map (λ section. map item_place section.items) program = cc in
    section_found items all program n others

-- an image is found below their number
pub is_found : (images : List (ℕ × ImageView)) (section : ℕ) → section < length images
    → None ≡ slice_get images section → ⊥
is_found [] section h none = omega (arith, h)
is_found (i ∷ images) zero h none = cc
is_found (i ∷ images) (suc section) h none = is_found images section (omega (arith, h)) none

-- the image that is next, and those behind it
cut_at : (images : List (ℕ × ImageView)) (section : ℕ) (image : ℕ × ImageView)
    → Some image ≡ slice_get images section
    → drop section images ≡ image ∷ drop (suc section) images
cut_at [] n x e = absurd (cc)
cut_at (y ∷ l) zero x e = let same : x ≡ y = cc in ap (λ t. t ∷ l) (sym same)
cut_at (y ∷ l) (suc n) x e = cut_at l n x e

-- the warnings about an image more, of those that are left
pub warnings_next : (program : List PlacedSection) (images : List (ℕ × ImageView)) (section : ℕ)
    (image : ℕ × ImageView) (old new total : List Warning) → Some image ≡ slice_get images section
    → old ++ warnings_from program section (drop section images) ≡ total → new ≡ old
    ++ node_warnings image.0 (node_view (items_at program section) image.1)
    → new ++ warnings_from program (section + 1) (drop (section + 1) images) ≡ total
warnings_next program images section image old new total at inv new_is =
    let cut : drop section images ≡ image ∷ drop (suc section) images =
    cut_at images section image at in
    let next : section + 1 ≡ suc section = omega arith in
    let own = node_warnings image.0 (node_view (items_at program section) image.1) in
    ap (λ n. new ++ warnings_from program n (drop n images)) next
    ∙ ap (λ t. t ++ warnings_from program (suc section) (drop (suc section) images)) new_is
    ∙ append_assoc old own (warnings_from program (suc section) (drop (suc section) images))
    ∙ ap (λ l. old ++ warnings_from program section l) (sym cut) ∙ inv

-- each word is one item
pub items_length : (owed left : ℕ) (words : List ℕ)
    → length (items_from owed left words) ≡ length words
unfolding items_from
items_length owed left [] = refl
items_length owed zero (word ∷ words) = ap suc (items_length owed zero words)
items_length zero (suc left) (word ∷ words) =
    ap suc (items_length (followers (reading_of word).ops) left words)
items_length (suc owed) (suc left) (word ∷ words) = ap suc (items_length owed left words)

abbrev view_with : List Item → List Place → ImageView → List ItemView → List Place → NodeView
view_with items item_places image words word_places = record {
  items = items;
  item_places = item_places;
  image = image;
  words = words;
  word_places = word_places;
}

-- what the code knows of a node is what the rules know
pub same_view : (node : NodeView) (placed : List PlacedItem) (image : ImageView)
    → node.items ≡ map (λ (p : PlacedItem). p.item) placed
    → node.item_places ≡ map (λ (p : PlacedItem). p.place) placed → node.image ≡ image
    → node.words ≡ items_of image.code_len image.words
    → node.word_places ≡ word_places image.item_counts placed → node ≡ node_view placed image
same_view node placed image items_are places_are image_is words_are word_places_are =
    let own = node_view placed image in
    ap (λ t. view_with t node.item_places node.image node.words node.word_places) items_are
    ∙ ap (λ t. view_with own.items t node.image node.words node.word_places) places_are
    ∙ ap (λ t. view_with own.items own.item_places t node.words node.word_places) image_is
    ∙ ap (λ t. view_with own.items own.item_places image t node.word_places) words_are
    ∙ ap (λ t. view_with own.items own.item_places image own.words t) word_places_are
