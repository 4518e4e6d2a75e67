-- The sections of a program.
use Rattle.std.proofs.Common.{◌≡◌, ◌≢◌, ◌∙◌, ◌<◌, ℕ, zero, suc, true, false, List, [], ◌∷◌, ◌++◌, length, map, get_or, Option, Some, None, refl, sym, ap, subst, append_assoc, append-nil, arith}
use Rattle.std.proofs.lemmas.List.{length-map, map-append}
use Rattle.std.specs.List.{list_any}
use Rattle.std.specs.Option.{option_map, unwrap_or}
use Rattle.ga_pack.specs.Model.LayoutFault.{AllRight, AsmFault, ProgramFault, IsRight, plain_items}
use Rattle.ga_pack.specs.Model.Program.{PlacedItem, PlacedSection}
use Rattle.ga_pack.specs.Model.Source.{Item, Items, Sections, is_named, makes_word, start}
use Rattle.ga_pack.specs.Model.Text.{Place}
use Rattle.ga_pack.proofs.OneLayout.{one_laid, one_standing}
use Rattle.ga_pack.proofs.OneFault.{right_program}
use Rattle.ga_source.specs.declared.places.ItemPlace as found
use Rattle.ga_source.specs.declared.section.Section as written
use Rattle.ga_source.specs.declared.token.Place as here
use Rattle.ga_source.specs.Item.{item_of}
use Rattle.ga_source.specs.Section.{section_of}
use Rattle.ga_source.specs.Program.{item_place, item_place_of, items_at, section_in, sections_in}
use Rattle.ga_source.specs.Token.{place_of}
use Rattle.ga_source.specs.Program.{IsRight as IsRightProgram}
use Rattle.ga_asm.specs.Assembling.{HasNoFault, IsAssembled}
use Rattle.ga_asm.specs.inner.Assembling.{IsFaultless, IsPlaceOf, IsReported}
use Rattle.ga_pack.specs.declared.error_kind.AsmErrorKind.TheVariants.{Memory}
use Rattle.ga_asm.specs.Image.{ImageView, IsImage, entry_of, item_count, labels_of}
use Rattle.ga_asm.specs.inner.Image.{Fits}
use Rattle.ga_asm.specs.inner.Layout.{Placing, plain}
use Rattle.ga_asm.specs.inner.Making.{IsMade}
use Rattle.ga_asm.specs.declared.layout.Layout as the
use Rattle.ga_asm.proofs.LabelLists.{near_entry}
use Rattle.ga_asm.proofs.RightItems.{items_word, words_some}
use Rattle.ga_pack.specs.declared.error_kind.AsmErrorKind.{AsmErrorKind}

-- ---- the place of an item

pub told_place : (name : Option here.Place) (place : here.Place)
    → place_of (unwrap_or name place) ≡ unwrap_or (option_map place_of name) (place_of place)
told_place None place = refl
told_place (Some there) place = refl

-- an item's place, of those found for a section, is that of its fault
pub place_at : (items : List PlacedItem) (places : List found.ItemPlace) (at : ℕ)
    (d : found.ItemPlace) (place : Place) → map item_place_of places ≡ map item_place items
    → at < length items → place ≡ unwrap_or (item_place_of (get_or places at d)).1
    (item_place_of (get_or places at d)).0 → IsPlaceOf items at place
place_at [] places at d place same h e = absurd (omega arith)
place_at (i ∷ items) [] at d place same h e = absurd (cc)
place_at (i ∷ items) (p ∷ places) zero d place same h e =
    let one : item_place_of p ≡ item_place i = cc in
    record {
      front = [];
      item = i;
      back = items;
      split = refl;
      at_is = refl;
      place_is = e ∙ ap (λ t. unwrap_or t.1 t.0) one;
    }
place_at (i ∷ items) (p ∷ places) (suc at) d place same h e =
    let others : map item_place_of places ≡ map item_place items = cc in
    let more = place_at items places at d place others (omega arith) e in
    record {
      front = i ∷ more.front;
      item = more.item;
      back = more.back;
      split = ap (λ t. i ∷ t) more.split;
      at_is = (let count = more.at_is in omega arith);
      place_is = more.place_is;
    }

-- ---- the image of a section

pub image_fits : (items : List Item) (l : the.Layout) (words : List ℕ) (code_len entry : ℕ)
    → Items start items → Placing items l → IsMade items l words
    → code_len ≡ unwrap_or l.data_start l.address → entry ≡ entry_of (labels_of l.labels.entries)
    → Fits (record {
      words = words;
      code_len = code_len;
      entry = entry;
      labels = labels_of l.labels.entries;
      item_counts = l.counts.items;
    })
image_fits items l words code_len entry right p m code_is entry_is =
    let word : list_any makes_word items ≡ true = items_word start items right in
    let some = words_some 0 p.groups (ap (list_any makes_word) p.stand_in.in_order ∙ word) in
    let near = near_entry (labels_of l.labels.entries) p.labels_near in
    let count = m.count in
    let within = m.within in
    let address = p.address_is in
    let few = p.few in
    record {
      some = omega arith;
      most = omega arith;
      code_within = omega arith;
      entry_near = omega arith;
      labels_near = p.labels_near;
    }

pub faultless : {items : List Item} {l : the.Layout} {words : List ℕ} (code_len entry : ℕ)
    → Placing items l → IsMade items l words → code_len ≡ unwrap_or l.data_start l.address
    → entry ≡ entry_of (labels_of l.labels.entries) → IsFaultless items (record {
      words = words;
      code_len = code_len;
      entry = entry;
      labels = labels_of l.labels.entries;
      item_counts = l.counts.items;
    })
faultless code_len entry placed made code_is entry_is =
    let laid = made.laid in
    record {
      image_is = record {
        laid = record {
          groups = laid.groups;
          stand_in = laid.stand_in;
          labels_are = laid.labels_are;
          all_defined = laid.all_defined;
          in_reach = laid.in_reach;
          words_are = laid.words_are;
          code_is = code_is ∙ laid.code_is;
        };
        entry_is = entry_is;
        counts_are =
            placed.counts_are ∙ ap (map item_count) (one_standing placed.stand_in laid.stand_in);
      };
      passed = made.passed;
    }

-- ---- the sections of a program

-- the first of the sections that are left, as the program has it
pub record NextSection (back : List PlacedSection)
    (section : ℕ × written.Section) (rest : List (ℕ × written.Section)) : Type 0 where
  pub placed : PlacedSection
  pub others : List PlacedSection
  pub split : back ≡ placed ∷ others
  pub name : placed.name ≡ section.0
  pub items : plain_items placed ≡ plain section.1.items.items
  pub rest_is : sections_in others ≡ map section_of rest

left_of : (back : List PlacedSection)
    (section : ℕ × written.Section) (rest : List (ℕ × written.Section))
    → sections_in back ≡ map section_of (section ∷ rest) → NextSection back section rest
left_of [] section rest e = absurd (cc)
left_of (placed ∷ others) section rest e =
    let one : section_in placed ≡ section_of section = cc in
    let more : sections_in others ≡ map section_of rest = cc in
    record {
      placed = placed;
      others = others;
      split = refl;
      name = ap (λ t. t.name) one;
      items = ap (λ t. t.items) one;
      rest_is = more;
    }

abbrev names : List PlacedSection → List ℕ
names sections = map (λ s. s.name) sections

-- a section among others is of a new node, and its items are right
pub record Fresh (front : List PlacedSection) (name : ℕ) (items : List Item) : Type 0 where
  pub new : is_named name (names front) ≡ false
  pub right : Items start items

fresh_by : (seen : List ℕ) (front : List PlacedSection) (section : PlacedSection)
    (back : List PlacedSection) → Sections seen (sections_in (front ++ section ∷ back))
    → (is_named section.name (seen ++ names front) ≡ false) × Items start (plain_items section)
unfolding Sections
fresh_by seen [] section back right = (rw append-nil right.0, right.1)
fresh_by seen (other ∷ front) section back right =
    let more = fresh_by (seen ++ other.name ∷ []) front section back right.2 in (
      subst (λ t. is_named section.name t ≡ false)
          (append_assoc seen (other.name ∷ []) (names front)) more.0,
      more.1,
    )

fresh_section : (front : List PlacedSection) (section : PlacedSection) (back : List PlacedSection)
    → Sections [] (sections_in (front ++ section ∷ back))
    → Fresh front section.name (plain_items section)
fresh_section front section back right =
    let parts = fresh_by [] front section back right in record { new = parts.0; right = parts.1 }

-- ---- the images so far

pub record Assembling (front : List PlacedSection) (images : List (ℕ × ImageView)) : Type 0 where
  pub assembled : IsAssembled front images
  pub all_right : AllRight front
  pub names_are : map (λ i. i.0) images ≡ names front

assembled_snoc : (sections : List PlacedSection)
    (images : List (ℕ × ImageView)) (section : PlacedSection) (image : ℕ × ImageView)
    → IsAssembled sections images → image.0 ≡ section.name → IsImage (plain_items section) image.1
    → IsAssembled (sections ++ section ∷ []) (images ++ image ∷ [])
unfolding IsAssembled
assembled_snoc [] [] section image all name is = (name, is, tt)
assembled_snoc (s ∷ sections) (i ∷ images) section image all name is =
    (all.0, all.1, assembled_snoc sections images section image all.2 name is)
assembled_snoc _ _ section image all name is = absurd all

pub right_snoc : (sections : List PlacedSection) (section : PlacedSection) → AllRight sections
    → IsRight (plain_items section) → AllRight (sections ++ section ∷ [])
unfolding AllRight
right_snoc [] section all right = (right, tt)
right_snoc (s ∷ sections) section all right = (all.0, right_snoc sections section all.1 right)

assembling_next : (front : List PlacedSection) (section : PlacedSection)
    (images more : List (ℕ × ImageView)) (image : ImageView) → Assembling front images
    → IsFaultless (plain_items section) image → more ≡ images ++ (section.name, image) ∷ []
    → Assembling (front ++ section ∷ []) more
assembling_next front section images more image a f e =
    let laid = f.image_is.laid in
    let passed = f.passed in
    let right : IsRight (plain_items section) = record {
      words = image.words;
      labels = image.labels;
      code_len = image.code_len;
      laid = laid;
      passed = passed;
    } in
    record {
      assembled = subst (IsAssembled (front ++ section ∷ [])) (sym e)
          (assembled_snoc front images section (section.name, image) a.assembled refl f.image_is);
      all_right = right_snoc front section a.all_right right;
      names_are =
          ap (map (λ (i : ℕ × ImageView). i.0)) e
          ∙ map-append (λ (i : ℕ × ImageView). i.0) images ((section.name, image) ∷ [])
          ∙ ap (λ t. t ++ section.name ∷ []) a.names_are
          ∙ sym (map-append (λ (s : PlacedSection). s.name) front (section ∷ []));
    }

pub assembling_none : Assembling [] []
unfolding IsAssembled AllRight
assembling_none = record { assembled = tt; all_right = tt; names_are = refl }

-- ---- one list of images

view_same : (p q : ImageView) → p.words ≡ q.words → p.code_len ≡ q.code_len → p.entry ≡ q.entry
    → p.labels ≡ q.labels → p.item_counts ≡ q.item_counts → p ≡ q
view_same p q words code entry labels counts =
    ap (λ t. record p { words = t }) words
    ∙ ap (λ t. record p { words = q.words; code_len = t }) code
    ∙ ap (λ t. record p { words = q.words; code_len = q.code_len; entry = t }) entry
    ∙ ap (λ t. record q { labels = t; item_counts = p.item_counts }) labels
    ∙ ap (λ t. record q { item_counts = t }) counts

one_image : (items : List Item) (p q : ImageView) → IsImage items p → IsImage items q → p ≡ q
one_image items p q a b =
    let same = one_laid a.laid b.laid in
    let words = same.0 in
    let labels = same.1 in
    let code = same.2 in
    let entry : p.entry ≡ q.entry = a.entry_is ∙ ap entry_of labels ∙ sym b.entry_is in
    let counts = a.counts_are ∙ ap (map item_count) (one_standing a.laid.stand_in b.laid.stand_in)
    ∙ sym b.counts_are in
    view_same p q words code entry labels counts

pub one_assembled : (sections : List PlacedSection) (images others : List (ℕ × ImageView))
    → IsAssembled sections images → IsAssembled sections others → others ≡ images
unfolding IsAssembled
one_assembled [] [] [] a b = refl
one_assembled [] [] (o ∷ others) a b = absurd b
one_assembled [] (i ∷ images) others a b = absurd a
one_assembled (s ∷ sections) [] others a b = absurd a
one_assembled (s ∷ sections) (i ∷ images) [] a b = absurd b
one_assembled (s ∷ sections) (i ∷ images) (o ∷ others) a b =
    let name : o.0 ≡ i.0 = b.0 ∙ sym a.0 in
    let image : o.1 ≡ i.1 = one_image (plain_items s) o.1 i.1 b.1 a.1 in
    let more = one_assembled sections images others a.2 b.2 in
    ap (λ t. (t, o.1) ∷ others) name ∙ ap (λ t. (i.0, t) ∷ others) image ∙ ap (λ t. i ∷ t) more

pub no_fault : (sections : List PlacedSection) → AllRight sections → HasNoFault sections
no_fault sections all node place kind fault = right_program all fault

-- ---- while sections are left

pub record Ongoing (program : List PlacedSection)
    (images : List (ℕ × ImageView)) (rest : List (ℕ × written.Section)) : Type 0 where
  pub front : List PlacedSection
  pub back : List PlacedSection
  pub program_is : program ≡ front ++ back
  pub rest_is : sections_in back ≡ map section_of rest
  pub right : Sections [] (sections_in program)
  pub so_far : Assembling front images

pub ongoing_none : (program : List PlacedSection)
    (images : List (ℕ × ImageView)) (all : List (ℕ × written.Section))
    → map section_of all ≡ sections_in program → IsRightProgram program → images ≡ []
    → Ongoing program images all
unfolding IsRightProgram
ongoing_none program images all e right none = record {
  front = [];
  back = program;
  program_is = refl;
  rest_is = sym e;
  right = right;
  so_far = subst (Assembling []) (sym none) assembling_none;
}

module _ (program : List PlacedSection)
    (images : List (ℕ × ImageView)) (section : ℕ × written.Section)
    (rest : List (ℕ × written.Section)) (o : Ongoing program images (section ∷ rest)) where
  left : NextSection o.back section rest
  left = left_of o.back section rest o.rest_is

  whole : program ≡ o.front ++ left.placed ∷ left.others
  whole = o.program_is ∙ ap (λ t. o.front ++ t) left.split

  fresh : Fresh o.front left.placed.name (plain_items left.placed)
  fresh =
      fresh_section o.front left.placed left.others
      (subst (λ t. Sections [] (sections_in t)) whole o.right)

  -- the items of the section are right
  pub ongoing_right : Items start (plain section.1.items.items)
  ongoing_right = subst (Items start) left.items fresh.right

  -- its node has no image
  pub ongoing_new : is_named section.0 (map (λ i. i.0) images) ≡ false
  ongoing_new =
      ap (is_named section.0) o.so_far.names_are
      ∙ ap (λ n. is_named n (names o.front)) (sym left.name) ∙ fresh.new

  -- it gets one
  pub ongoing_next : (more : List (ℕ × ImageView)) (image : ImageView)
      → IsFaultless (plain section.1.items.items) image → more ≡ images ++ (section.0, image) ∷ []
      → Ongoing program more rest
  ongoing_next more image f e = record {
    front = o.front ++ left.placed ∷ [];
    back = left.others;
    program_is = whole ∙ sym (append_assoc o.front (left.placed ∷ []) left.others);
    rest_is = left.rest_is;
    right = o.right;
    so_far = assembling_next o.front left.placed images more image o.so_far
        (subst (λ t. IsFaultless t image) (sym left.items) f)
        (e ∙ ap (λ n. images ++ (n, image) ∷ []) (sym left.name));
  }

  items_behind : (front : List PlacedSection) (s : PlacedSection) (back : List PlacedSection)
      → items_at (front ++ s ∷ back) (length front) ≡ s.items
  items_behind [] s back = refl
  items_behind (other ∷ front) s back = items_behind front s back

  -- its items are found behind as many sections as there are images
  items_are : items_at program (length images) ≡ left.placed.items
  items_are =
      let count : length images ≡ length o.front =
      sym (length-map images (λ (i : ℕ × ImageView). i.0)) ∙ ap length o.so_far.names_are
      ∙ length-map o.front (λ (s : PlacedSection). s.name) in
      ap (items_at program) count ∙ ap (λ t. items_at t (length o.front)) whole
      ∙ items_behind o.front left.placed left.others

  pub ongoing_within : (at : ℕ) → at < length section.1.items.items
      → at < length (items_at program (length images))
  ongoing_within at h =
      let same : length left.placed.items ≡ length section.1.items.items =
      sym (length-map left.placed.items (λ (i : PlacedItem). i.item)) ∙ ap length left.items
      ∙ length-map section.1.items.items item_of in
      omega (arith, ap length items_are, same, h)

  -- its fault is the first of the program
  pub ongoing_fault : (at node : ℕ) (place : Place) (kind k : AsmErrorKind) → node ≡ section.0
      → (kind ≢ Memory → AsmFault (plain section.1.items.items) at kind)
      → IsReported (items_at program (length images)) at kind k place → k ≢ Memory
      → ProgramFault program node place k
  ongoing_fault at node place kind k name fault reported some =
      let (same, p) = reported some in
      let has : AsmFault (plain section.1.items.items) at k =
      subst (AsmFault (plain section.1.items.items) at) same
      (fault (λ none. some (sym same ∙ none))) in
      record {
        before = o.front;
        section = left.placed;
        rest = left.others;
        split = whole;
        all_right = o.so_far.all_right;
        node_is = name ∙ sym left.name;
        front = p.front;
        item = p.item;
        back = p.back;
        items_split = sym items_are ∙ p.split;
        fault = subst (λ t. AsmFault t (length p.front) k) (sym left.items)
            (subst (λ t. AsmFault (plain section.1.items.items) t k) p.at_is has);
        place_is = p.place_is;
      }

pub ongoing_all : (program : List PlacedSection)
    (images : List (ℕ × ImageView)) (rest : List (ℕ × written.Section))
    → Ongoing program images rest → rest ≡ [] → IsAssembled program images × AllRight program
ongoing_all program images rest o none =
    let no_more = no_sections o.back (o.rest_is ∙ ap (map section_of) none) in
    let all : o.front ≡ program =
    sym (o.program_is ∙ ap (λ t. o.front ++ t) no_more ∙ append-nil o.front) in (
      subst (λ t. IsAssembled t images) all o.so_far.assembled,
      subst AllRight all o.so_far.all_right,
    )
  where
    no_sections : (sections : List PlacedSection) → sections_in sections ≡ [] → sections ≡ []
    no_sections [] e = refl
    no_sections (s ∷ sections) e = absurd (cc)
