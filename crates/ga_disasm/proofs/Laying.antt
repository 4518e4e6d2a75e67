-- What is printed of words is right by the grammar, and is laid as these words.
use Rattle.std.proofs.Common.{◌≡◌, ◌<◌, ◌%◌, ◌^◌, ℕ, zero, suc, Bool, true, false, List, [], ◌∷◌, ◌++◌, length, Option, Some, None, refl, sym, ap, subst, arith}
use Rattle.std.proofs.Math.Bool.{or-true}
use Rattle.std.proofs.lemmas.Bool.{lt-ltb}
use Rattle.std.proofs.lemmas.List.Elements.{All-head, All-tail}
use Rattle.std.specs.Prelude.{◌||◌, All}
use Rattle.std.specs.Option.{unwrap_or}
use Rattle.ga_word.specs.declared.op.Op.{Op}
use Rattle.ga_word.specs.Word.{bits}
use Rattle.ga_pack.specs.Decoded.{reading_of}
use Rattle.ga_pack.specs.Followers.{followers}
use Rattle.ga_pack.specs.Reading.{Reads, dest_after_slot0, dest_after_slot1, dest_after_slot2, no_dest}
use Rattle.ga_pack.specs.Model.Layout.{Labels, Alone, GroupWords, dest_in, filled}
use Rattle.ga_pack.specs.Model.Source as grammar
use Rattle.ga_pack.specs.Model.Source.{Item, Number, Word, WordTo, Plain, Before, Items, is_item, is_new, part_after}
use Rattle.ga_pack.proofs.Encoded.{reading_of-reads, takes_none}
use Rattle.ga_pack.proofs.Packable.{takes_ends}
use Rattle.ga_disasm.specs.Disassembling.{items_from}
use Rattle.ga_disasm.proofs.SourceItems.{IsBelow, bracketed, source_items}

-- ---- a word in brackets

-- the source item of a reading is right, and needs the word's followers
record Bracket (ops : List Op) (dest : Option ℕ) (spare : ℕ) : Type 0 where
  right : is_item (bracketed ops dest spare) ≡ true
  follow : part_after (grammar.Code 0) (bracketed ops dest spare)
      ≡ Some (grammar.Code (followers ops))

bracket : {v : List ℕ} {ops : List Op} {dest : Option ℕ} {spare : ℕ} → Reads v ops dest spare
    → Bracket ops dest spare
unfolding is_item part_after
bracket (dest_after_slot0 o zero d t hs hd) =
    record { right = rw (t, lt-ltb d (2 ^ 10) hd) refl; follow = rw (takes_ends o t) refl }
bracket (dest_after_slot0 o (suc k) d t hs hd) = record {
  right = rw (t, lt-ltb d (2 ^ 10) hd, lt-ltb (suc k) (2 ^ 3) hs) refl;
  follow = rw (takes_ends o t) refl;
}
bracket (dest_after_slot1 a o d na t hd) =
    record { right = rw (na, t, lt-ltb d (2 ^ 8) hd) refl; follow = rw (takes_ends o t) refl }
bracket (dest_after_slot2 a b o d na nb t hd) =
    record { right = rw (na, nb, t, lt-ltb d (2 ^ 3) hd) refl; follow = rw (takes_ends o t) refl }
bracket (no_dest a b c d na nb nc fd) =
    record { right = rw (na, nb, nc, takes_none d fd, fd) refl; follow = refl }

-- the word that such an item is laid as
abbrev pub IsFor : Labels → Item → List ℕ → Type 0
IsFor labels (Word ops) v = Reads v (filled 4 ops) None 0
IsFor labels (WordTo ops o value spare) v =
    Reads v (ops ++ o ∷ []) (Some (dest_in labels (length ops) value)) (unwrap_or spare 0)
IsFor labels i v = ⊥

lowered : {v : List ℕ} {ops : List Op} {d m spare : ℕ} → d ≡ m → Reads v ops (Some d) spare
    → Reads v ops (Some m) spare
lowered {v = v} {ops = ops} {spare = spare} e reads =
    subst (λ (x : ℕ). Reads v ops (Some x) spare) e reads

pub is_for : {v : List ℕ} {ops : List Op} {dest : Option ℕ} {spare : ℕ} (labels : Labels)
    → Reads v ops dest spare → IsFor labels (bracketed ops dest spare) v
is_for labels (dest_after_slot0 o zero d t hs hd) =
    let e : d ≡ d % 2 ^ 10 = omega arith in lowered e (dest_after_slot0 o zero d t hs hd)
is_for labels (dest_after_slot0 o (suc k) d t hs hd) =
    let e : d ≡ d % 2 ^ 10 = omega arith in lowered e (dest_after_slot0 o (suc k) d t hs hd)
is_for labels (dest_after_slot1 a o d na t hd) =
    let e : d ≡ d % 2 ^ 8 = omega arith in lowered e (dest_after_slot1 a o d na t hd)
is_for labels (dest_after_slot2 a b o d na nb t hd) =
    let e : d ≡ d % 2 ^ 3 = omega arith in lowered e (dest_after_slot2 a b o d na nb t hd)
is_for labels (no_dest a b c d na nb nc fd) = no_dest a b c d na nb nc fd

pub bracket_word : (labels : Labels) (word : ℕ) (ops : List Op) (dest : Option ℕ) (spare : ℕ)
    → word < 2 ^ 18 → IsFor labels (bracketed ops dest spare) (bits 18 word)
    → GroupWords labels (Alone (bracketed ops dest spare)) (word ∷ [])
unfolding GroupWords
bracket_word labels word ops None spare below reads =
    (word, record { below = below; reads = reads }, refl)
bracket_word labels word ops (Some d) spare below reads =
    (word, record { below = below; reads = reads }, refl)

-- ---- the source items are right

abbrev at_code : ℕ → Bool → Before
at_code owed some = record { part = grammar.Code owed; labels = []; has_word = some }

abbrev at_data : Bool → Before
at_data some = record { part = grammar.Behind; labels = []; has_word = some }

bracket_after : (owed : ℕ) (some : Bool) (ops : List Op) (dest : Option ℕ) (spare : ℕ)
    → grammar.after (at_code 0 some) (bracketed ops dest spare) (grammar.Code owed)
    ≡ at_code owed true
bracket_after owed some ops None spare = ap (at_code owed) (or-true some)
bracket_after owed some ops (Some d) spare = ap (at_code owed) (or-true some)

bracket_new : (ops : List Op) (dest : Option ℕ) (spare : ℕ) (labels : List (List ℕ))
    → is_new (bracketed ops dest spare) labels ≡ true
bracket_new ops None spare labels = refl
bracket_new ops (Some d) spare labels = refl

-- there is a word, here or before
abbrev HasWord : Bool → List ℕ → Type 0
HasWord some [] = some ≡ true
HasWord some (word ∷ words) = Unit {0}

has_word : (words : List ℕ) → HasWord true words
has_word [] = refl
has_word (word ∷ words) = tt

data_right : (owed : ℕ) (words : List ℕ)
    → Items (at_data true) (source_items true (items_from owed zero words))
unfolding Items items_from is_item part_after
data_right owed [] = refl
data_right owed (word ∷ words) = (grammar.Behind, refl, refl, refl, data_right owed words)

data_first : (owed : ℕ) (some : Bool) (words : List ℕ)
    → part_after (grammar.Code owed) grammar.Data ≡ Some grammar.Behind → HasWord some words
    → Items (at_code owed some) (source_items false (items_from owed zero words))
unfolding Items items_from is_item part_after
data_first owed some [] next h = h
data_first owed some (word ∷ words) next h = (
  grammar.Behind,
  refl,
  refl,
  next,
  (
    grammar.Behind,
    refl,
    refl,
    refl,
    subst (λ (b : Bool). Items (at_data b) (source_items true (items_from owed zero words)))
        (sym (or-true (some || false))) (data_right owed words),
  ),
)

data_next : (owed : ℕ) → part_after (grammar.Code owed) grammar.Data ≡ Some grammar.Behind
unfolding part_after
data_next zero = refl
data_next (suc owed) = refl

source_right : (owed left : ℕ) (some : Bool) (words : List ℕ) → All IsBelow words
    → HasWord some words
    → Items (at_code owed some) (source_items false (items_from owed left words))
unfolding Items items_from is_item part_after
source_right owed zero some words below h = data_first owed some words (data_next owed) h
source_right owed (suc left) some [] below h = h
source_right (suc owed) (suc left) some (word ∷ words) below h = (
  grammar.Code owed,
  refl,
  refl,
  refl,
  subst (λ (b : Bool). Items (at_code owed b) (source_items false (items_from owed left words)))
      (sym (or-true some))
      (source_right owed left true words (All-tail IsBelow word words below) (has_word words)),
)
source_right zero (suc left) some (word ∷ words) below h =
    let reading = reading_of word in
    let b = bracket (reading_of-reads word (All-head IsBelow word words below)) in (
      grammar.Code (followers reading.ops),
      b.right,
      bracket_new reading.ops reading.dest reading.spare [],
      b.follow,
      subst (λ (b : Before). Items b
          (source_items false (items_from (followers reading.ops) left words)))
          (sym (bracket_after (followers reading.ops) some reading.ops reading.dest reading.spare))
          (source_right (followers reading.ops) left true words (All-tail IsBelow word words below)
          (has_word words)),
    )

-- the source items of some words are those of a section
pub items_right : (code_len : ℕ) (words : List ℕ) → 0 < length words → All IsBelow words
    → Items grammar.start (source_items false (items_from 0 code_len words))
items_right code_len [] some below = absurd (omega arith)
items_right code_len (word ∷ words) some below =
    source_right 0 code_len false (word ∷ words) below tt
