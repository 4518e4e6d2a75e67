-- The printed items share no words, so they are laid as the words that were printed, without a
-- fault.
use Rattle.std.proofs.Common.{◌≡◌, ◌∙◌, ◌<◌, ◌≤◌, ◌+◌, ℕ, zero, suc, Bool, true, false, List, [], ◌∷◌, ◌++◌, length, Option, Some, None, refl, sym, ap, subst, arith}
use Rattle.std.proofs.lemmas.Bool.{and_from, le-ltb}
use Rattle.std.proofs.lemmas.List.Elements.{All-head, All-tail}
use Rattle.std.specs.Prelude.{All, drop, map, nat_lt}
use Rattle.std.specs.List.{list_all}
use Rattle.ga_word.specs.declared.op.Op.{Op}
use Rattle.ga_pack.specs.Decoded.{reading_of}
use Rattle.ga_pack.specs.Followers.{followers}
use Rattle.ga_pack.specs.Model.Layout.{Labels, Group, Alone, Arrangement, GroupWords, Laid, Words, StandIn, all_in_reach, address_after, code_end, is_defined, is_in_reach, is_loose, items_of, labels_after, labels_behind, names_in, size}
use Rattle.ga_pack.specs.Model.LayoutFault.{AllRight, IsRight, AllPass, fault_behind, is_lone_unext, joins_last, plain_items, words_added}
use Rattle.ga_pack.specs.Model.Program.{IsProgram, PlacedItem, PlacedSection, placed_items, placed_sections, tokens_of}
use Rattle.ga_pack.specs.Model.Source as grammar
use Rattle.ga_pack.specs.Model.Source.{Item, Number, Plain, Section, Sections, Source, item_tokens}
use Rattle.ga_pack.specs.Model.Text.{Place, places_of}
use Rattle.ga_pack.proofs.Encoded.{reading_of-reads}
use Rattle.ga_pack.proofs.OneFault.{right_program}
use Rattle.ga_pack.proofs.OneLayout.{one_laid}
use Rattle.ga_pack.proofs.OneSource.{one_program}
use Rattle.ga_pack.proofs.RightTexts.{right_text}
use Rattle.ga_disasm.specs.Disassembling.{ItemView, Code, Follower, Data, items_from}
use Rattle.ga_disasm.specs.Printing.{node_line, text_of}
use Rattle.ga_disasm.specs.Source.{FitNode, IsSourceOf}
use Rattle.ga_disasm.proofs.SourceItems.{IsBelow, bracketed, items_of_words, source_items, text_means}
use Rattle.ga_disasm.proofs.Laying.{bracket_word, is_for, items_right}

-- ---- items that share no word and use no name

abbrev alone : List Item → List Group
alone [] = []
alone (i ∷ is) = Alone i ∷ alone is

alone_items : (is : List Item) → items_of (alone is) ≡ is
alone_items [] = refl
alone_items (i ∷ is) = ap (λ (t : List Item). i ∷ t) (alone_items is)

record IsTame (i : Item) : Type 0 where
  alone : is_loose i ≡ false
  keeps : (labels : Labels) (address : ℕ) → labels_behind labels address (Alone i) ≡ labels
  near : (labels : Labels) (address : ℕ) → is_in_reach labels address i ≡ true
  defined : (names : List (List ℕ)) → is_defined names i ≡ true
  no_unext : is_lone_unext false i ≡ false
  adds : words_added false i ≡ size (Alone i)

abbrev AreTame : List Item → Type 0
AreTame [] = Unit {0}
AreTame (i ∷ is) = IsTame i × AreTame is

-- how many words they make
abbrev count : List Item → ℕ
count [] = 0
count (i ∷ is) = size (Alone i) + count is

arranged : (labels : Labels) (address : ℕ) (is : List Item) → AreTame is
    → Arrangement labels address (alone is)
unfolding Arrangement
arranged labels address [] tame = tt
arranged labels address (i ∷ is) tame = (
  tame.0.alone,
  subst (λ (l : Labels). Arrangement l (address + size (Alone i)) (alone is))
      (sym (tame.0.keeps labels address)) (arranged labels (address + size (Alone i)) is tame.1),
)

stands : (is : List Item) → AreTame is → StandIn is (alone is)
stands is tame = record { in_order = alone_items is; arranged = arranged [] 0 is tame }

labels_kept : (labels : Labels) (address : ℕ) (is : List Item) → AreTame is
    → labels_after labels address (alone is) ≡ labels
labels_kept labels address [] tame = refl
labels_kept labels address (i ∷ is) tame =
    ap (λ (l : Labels). labels_after l (address + size (Alone i)) (alone is))
    (tame.0.keeps labels address) ∙ labels_kept labels (address + size (Alone i)) is tame.1

address_counts : (address : ℕ) (is : List Item)
    → address_after address (alone is) ≡ address + count is
address_counts address [] = omega arith
address_counts address (i ∷ is) = address_counts (address + size (Alone i)) is ∙ omega arith

none_joins : (labels : Labels) (address : ℕ) (is : List Item) (x : Item)
    → joins_last labels address (alone is) x ≡ false
none_joins labels address [] x = refl
none_joins labels address (i ∷ []) x = refl
none_joins labels address (i ∷ j ∷ is) x =
    none_joins (labels_behind labels address (Alone i)) (address + size (Alone i)) (j ∷ is) x

all_near : (labels : Labels) (address : ℕ) (is : List Item) → AreTame is
    → all_in_reach labels address (alone is) ≡ true
all_near labels address [] tame = refl
all_near labels address (i ∷ is) tame =
    and_from (is_in_reach labels address i) (all_in_reach labels (address + size (Alone i))
    (alone is)) (tame.0.near labels address) (all_near labels (address + size (Alone i)) is tame.1)

all_defined : (names : List (List ℕ)) (is : List Item) → AreTame is
    → list_all (is_defined names) is ≡ true
all_defined names [] tame = refl
all_defined names (i ∷ is) tame =
    and_from (is_defined names i) (list_all (is_defined names) is) (tame.0.defined names)
    (all_defined names is tame.1)

-- ---- they have no fault up to 64 words

no_fault : (names : List (List ℕ)) (before : List Item) (i : Item) → AreTame before → IsTame i
    → count before + size (Alone i) ≤ 64 → fault_behind names (alone before) i ≡ None
unfolding fault_behind
no_fault names before i tame it room =
    let address = address_counts 0 before in
    let few : nat_lt 64 (address_after 0 (alone before) + size (Alone i)) ≡ false =
    le-ltb 64 (address_after 0 (alone before) + size (Alone i)) (omega arith) in
    rw (
      none_joins [] 0 before i,
      it.defined names,
      it.near (labels_after [] 0 (alone before)) (address_after 0 (alone before)),
      it.no_unext,
      it.adds,
      few,
    ) refl

tame_snoc : (before : List Item) (i : Item) → AreTame before → IsTame i → AreTame (before ++ i ∷ [])
tame_snoc [] i tame it = (it, tt)
tame_snoc (j ∷ before) i tame it = (tame.0, tame_snoc before i tame.1 it)

count_snoc : (before : List Item) (i : Item)
    → count (before ++ i ∷ []) ≡ count before + size (Alone i)
count_snoc [] i = omega arith
count_snoc (j ∷ before) i = let e = count_snoc before i in omega arith

passed : (names : List (List ℕ)) (before is : List Item) → AreTame before → AreTame is
    → count before + count is ≤ 64 → AllPass names before is
unfolding AllPass
passed names before [] tame more room = tt
passed names before (i ∷ is) tame more room =
    let e = count_snoc before i in (
      record {
        groups = alone before;
        stand_in = stands before tame;
        fault_is = no_fault names before i tame more.0 (omega arith);
      },
      passed names (before ++ i ∷ []) is (tame_snoc before i tame more.0) more.1 (omega arith),
    )

-- ---- the items that are printed

bracketed_tame : (ops : List Op) (dest : Option ℕ) (spare : ℕ) → IsTame (bracketed ops dest spare)
bracketed_tame ops None spare = record {
  alone = refl;
  keeps = λ labels address. refl;
  near = λ labels address. refl;
  defined = λ names. refl;
  no_unext = refl;
  adds = refl;
}
bracketed_tame ops (Some d) spare = record {
  alone = refl;
  keeps = λ labels address. refl;
  near = λ labels address. refl;
  defined = λ names. refl;
  no_unext = refl;
  adds = refl;
}

plain_tame : (n : ℕ) → IsTame (Plain (Number n))
plain_tame n = record {
  alone = refl;
  keeps = λ labels address. refl;
  near = λ labels address. refl;
  defined = λ names. refl;
  no_unext = refl;
  adds = refl;
}

data_tame : IsTame grammar.Data
data_tame = record {
  alone = refl;
  keeps = λ labels address. refl;
  near = λ labels address. refl;
  defined = λ names. refl;
  no_unext = refl;
  adds = refl;
}

source_tame : (in_data : Bool) (items : List ItemView) → AreTame (source_items in_data items)
source_tame in_data [] = tt
source_tame in_data (Code reading ∷ items) =
    (bracketed_tame reading.ops reading.dest reading.spare, source_tame in_data items)
source_tame in_data (Follower word ∷ items) = (plain_tame word, source_tame in_data items)
source_tame true (Data word ∷ items) = (plain_tame word, source_tame true items)
source_tame false (Data word ∷ items) = (data_tame, (plain_tame word, source_tame true items))

bracketed_size : (ops : List Op) (dest : Option ℕ) (spare : ℕ)
    → size (Alone (bracketed ops dest spare)) ≡ 1
bracketed_size ops None spare = refl
bracketed_size ops (Some d) spare = refl

source_count : (in_data : Bool) (items : List ItemView)
    → count (source_items in_data items) ≡ length items
source_count in_data [] = refl
source_count in_data (Code reading ∷ items) =
    let e = source_count in_data items in
    let one = bracketed_size reading.ops reading.dest reading.spare in omega arith
source_count in_data (Follower word ∷ items) = let e = source_count in_data items in omega arith
source_count true (Data word ∷ items) = let e = source_count true items in omega arith
source_count false (Data word ∷ items) = let e = source_count true items in omega arith

items_count : (owed left : ℕ) (words : List ℕ) → length (items_from owed left words) ≡ length words
unfolding items_from
items_count owed left [] = refl
items_count owed zero (word ∷ words) = ap suc (items_count owed zero words)
items_count zero (suc left) (word ∷ words) =
    ap suc (items_count (followers (reading_of word).ops) left words)
items_count (suc owed) (suc left) (word ∷ words) = ap suc (items_count owed left words)

-- ---- their words

data_words : (owed : ℕ) (words : List ℕ)
    → Words [] (alone (source_items true (items_from owed zero words))) words
unfolding Words GroupWords items_from
data_words owed [] = refl
data_words owed (word ∷ words) = (word ∷ [], words, refl, data_words owed words, refl)

source_words : (owed left : ℕ) (words : List ℕ) → All IsBelow words
    → Words [] (alone (source_items false (items_from owed left words))) words
unfolding Words GroupWords items_from
source_words owed left [] below = refl
source_words owed zero (word ∷ words) below =
    ([], word ∷ words, refl, (word ∷ [], words, refl, data_words owed words, refl), refl)
source_words zero (suc left) (word ∷ words) below =
    let reading = reading_of word in
    let small = All-head IsBelow word words below in (
      word ∷ [],
      words,
      bracket_word [] word reading.ops reading.dest reading.spare small
          (is_for [] (reading_of-reads word small)),
      source_words (followers reading.ops) left words (All-tail IsBelow word words below),
      refl,
    )
source_words (suc owed) (suc left) (word ∷ words) below =
    (word ∷ [], words, refl, source_words owed left words (All-tail IsBelow word words below), refl)

bracketed_end : (address : ℕ) (ops : List Op) (dest : Option ℕ) (spare : ℕ) (groups : List Group)
    → code_end address (Alone (bracketed ops dest spare) ∷ groups) ≡ code_end (address + 1) groups
bracketed_end address ops None spare groups = refl
bracketed_end address ops (Some d) spare groups = refl

source_end : (address owed left : ℕ) (words : List ℕ) → left ≤ length words
    → code_end address (alone (source_items false (items_from owed left words))) ≡ address + left
unfolding items_from
source_end address owed zero [] within = omega arith
source_end address owed (suc left) [] within = absurd (omega arith)
source_end address owed zero (word ∷ words) within = omega arith
source_end address zero (suc left) (word ∷ words) within =
    let reading = reading_of word in
    bracketed_end address reading.ops reading.dest reading.spare
    (alone (source_items false (items_from (followers reading.ops) left words)))
    ∙ source_end (address + 1) (followers reading.ops) left words (omega arith) ∙ omega arith
source_end address (suc owed) (suc left) (word ∷ words) within =
    source_end (address + 1) owed left words (omega arith) ∙ omega arith

-- ---- the source text

plain_placed : (places : List Place) (is : List Item)
    → map (λ (placed : PlacedItem). placed.item) (placed_items places is) ≡ is
unfolding placed_items
plain_placed places [] = refl
plain_placed places (i ∷ is) =
    ap (λ (t : List Item). i ∷ t) (plain_placed (drop (length (item_tokens i [])) places) is)

module _ (code_len : ℕ) (words : List ℕ) (some : 0 < length words)
    (most : length words ≤ 64) (within : code_len ≤ length words) (below : All IsBelow words) where
  abbrev source : List Item
  source = source_items false (items_from 0 code_len words)

  tame : AreTame source
  tame = source_tame false (items_from 0 code_len words)

  laid : Laid source words [] code_len
  laid = record {
    groups = alone source;
    stand_in = stands source tame;
    labels_are = sym (labels_kept [] 0 source tame);
    all_defined = all_defined (names_in source) source tame;
    in_reach = all_near [] 0 source tame;
    words_are = source_words 0 code_len words below;
    code_is = (let e = source_end 0 0 code_len words within in omega arith);
  }

  right : IsRight source
  right = record {
    words = words;
    labels = [];
    code_len = code_len;
    laid = laid;
    passed = (let e = source_count false (items_from 0 code_len words) in
        let n = items_count 0 code_len words in
        passed (names_in source) [] source tt tame (omega arith));
  }

  abbrev text : List ℕ
  text = node_line ++ text_of (items_from 0 code_len words)

  abbrev sections : List Section
  sections = record { name = 0; items = source } ∷ []

  is_source_by : Source (tokens_of text) sections
  unfolding Source Sections text_of
  is_source_by = (
    text_means (items_from 0 code_len words) (items_of_words 0 code_len words below),
    (refl, items_right code_len words some below, tt),
  )

  section : PlacedSection
  section = record { name = 0; items = placed_items (drop 2 (places_of text)) source }

  is_program : IsProgram text (section ∷ [])
  unfolding IsProgram placed_sections section
  is_program = (sections, is_source_by, refl)

  plain : plain_items section ≡ source
  unfolding section
  plain = plain_placed (drop 2 (places_of text)) source

  all_right : AllRight (section ∷ [])
  unfolding AllRight
  all_right = (subst IsRight (sym plain) right, tt)

  section_laid : Laid (plain_items section) words [] code_len
  section_laid = subst (λ (is : List Item). Laid is words [] code_len) (sym plain) laid

  named : section.name ≡ 0
  unfolding section
  named = refl

  -- what is printed of these words is a source text of them
  pub is_source : IsSourceOf text words code_len
  is_source = record {
    section = section;
    program_is = is_program;
    only_program = λ program other. one_program text program (section ∷ []) other is_program;
    node_is = named;
    no_source_fault = λ kind place. right_text text (section ∷ []) kind place is_program;
    no_program_fault = λ node place kind fault. right_program all_right fault;
    laid = section_laid;
    only = λ words' labels code_len' other. one_laid other section_laid;
  }

-- a text is that of items, which are those of words
pub is_source_text : (printed : List ℕ) (items : List ItemView) → printed ≡ text_of items
    → (words : List ℕ) (code_len : ℕ) → FitNode words code_len → items ≡ items_from 0 code_len words
    → IsSourceOf (node_line ++ printed) words code_len
is_source_text printed items e words code_len fit is =
    subst (λ (t : List ℕ). IsSourceOf (node_line ++ t) words code_len) (sym (e ∙ ap text_of is))
    (is_source code_len words fit.some fit.most fit.code_within fit.below)
