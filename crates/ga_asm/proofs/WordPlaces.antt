-- The items with which the words of a node begin, group by group.
use Rattle.std.proofs.Common.{◌≡◌, ◌∙◌, ◌<◌, ℕ, zero, suc, ◌+◌, List, [], ◌∷◌, ◌++◌, length, map, drop, drop-cons, take, take-append-drop, get_or, refl, sym, ap, append_assoc, arith}
use Rattle.std.proofs.lemmas.List.{drop-map, length-append, length-map, take-map}
use Rattle.std.specs.List.{slice_get}
use Rattle.std.specs.Option.{option_map_or}
use Rattle.ga_pack.specs.Model.Program.{PlacedItem, PlacedSection}
use Rattle.ga_pack.specs.Model.Source.{Section}
use Rattle.ga_source.specs.declared.item.Item as an
use Rattle.ga_source.specs.declared.places.ItemPlace as found
use Rattle.ga_source.specs.declared.section.Section as written
use Rattle.ga_source.specs.Item.{item_of}
use Rattle.ga_source.specs.Program.{item_place, item_place_of, items_at, section_in, sections_in}
use Rattle.ga_source.specs.Token.{place_of}
use Rattle.ga_source.specs.Section.{section_of}
use Rattle.ga_asm.specs.Places.{first_items, indices_in_group}
use Rattle.ga_asm.specs.inner.Layout.{plain}

-- a group more, of the items that are left
pub groups_next : (counts : List ℕ) (index at total : ℕ) (rest front back : List an.Item)
    (indices more all : List ℕ) → index < length counts → front ≡ take (get_or counts index 0) rest
    → back ≡ drop (get_or counts index 0) rest → at + length rest ≡ total
    → indices ++ first_items at (drop index counts) (plain rest) ≡ all
    → more ≡ indices ++ indices_in_group at (plain front)
    → (at + length front + length back ≡ total)
    × (more ++ first_items (at + length front) (drop (index + 1) counts) (plain back) ≡ all)
groups_next counts index at total rest front back indices more all h front_is back_is count is
    more_is =
    let n = get_or counts index 0 in
    let cut : drop index counts ≡ n ∷ drop (suc index) counts = drop-cons counts index 0 h in
    let front' : plain front ≡ take n (plain rest) =
    ap plain front_is ∙ sym (take-map item_of n rest) in
    let back' : plain back ≡ drop n (plain rest) =
    ap plain back_is ∙ sym (drop-map item_of n rest) in
    let size : length front ≡ length (take n (plain rest)) =
    sym (length-map front item_of) ∙ ap length front' in
    let others = drop (suc index) counts in
    let group = indices_in_group at (plain front) in
    let step : first_items at (drop index counts) (plain rest) ≡ group
    ++ first_items (at + length front) others (plain back) =
    ap (λ cs. first_items at cs (plain rest)) cut
    ∙ ap (λ g. indices_in_group at g
    ++ first_items (at + length (take n (plain rest))) others (drop n (plain rest))) (sym front')
    ∙ ap (λ k. group ++ first_items (at + k) others (drop n (plain rest))) (sym size)
    ∙ ap (λ b. group ++ first_items (at + length front) others b) (sym back') in
    let whole : length front + length back ≡ length rest =
    ap (λ t. length t + length back) front_is ∙ ap (λ t. length (take n rest) + length t) back_is
    ∙ sym (length-append (take n rest) (drop n rest)) ∙ ap length (take-append-drop n rest) in
    let next : index + 1 ≡ suc index = omega arith in (
      omega arith,
      ap (λ k. more ++ first_items (at + length front) (drop k counts) (plain back)) next
          ∙ ap (λ m. m ++ first_items (at + length front) others (plain back)) more_is
          ∙ append_assoc indices group (first_items (at + length front) others (plain back))
          ∙ ap (λ t. indices ++ t) (sym step) ∙ is,
    )

abbrev pub items_in : (entry : ℕ × written.Section) → List an.Item
items_in entry = entry.1.items.items

-- the items of a program's section are those of the section with this number
pub section_items : (program : List PlacedSection) (entries : List (ℕ × written.Section)) (n : ℕ)
    → map section_of entries ≡ sections_in program
    → map (λ (p : PlacedItem). p.item) (items_at program n)
    ≡ plain (option_map_or items_in (slice_get entries n) [])
section_items [] [] n same = refl
section_items [] (e ∷ entries) n same = absurd (cc)
section_items (s ∷ program) [] n same = absurd (cc)
section_items (s ∷ program) (e ∷ entries) zero same =
    let one : section_of e ≡ section_in s = cc in sym (ap (λ (t : Section). t.items) one)
section_items (s ∷ program) (e ∷ entries) (suc n) same =
    let others : map section_of entries ≡ sections_in program = cc in
    section_items program entries n others

-- the places of items, of those found for a section
pub own_places : (places : List found.ItemPlace) (items : List PlacedItem)
    → map item_place_of places ≡ map item_place items
    → map (λ (p : found.ItemPlace). place_of p.place) places
    ≡ map (λ (i : PlacedItem). i.place) items
own_places [] [] same = refl
own_places [] (i ∷ items) same = absurd (cc)
own_places (p ∷ places) [] same = absurd (cc)
own_places (p ∷ places) (i ∷ items) same =
    let one : item_place_of p ≡ item_place i = cc in
    let others : map item_place_of places ≡ map item_place items = cc in
    let more = own_places places items others in
    let first : place_of p.place ≡ i.place = ap (λ t. t.0) one in
    ap (λ t. t ∷ map (λ (p : found.ItemPlace). place_of p.place) places) first
    ∙ ap (λ t. i.place ∷ t) more
