-- The text of a value is one that a reader can tell from the identifier behind it.
use Rattle.std.proofs.Common.{◌≡◌, ℕ, Bool, true, false, List, [], ◌∷◌, ◌++◌, Option, Some, None, codes, drop, refl}
use Rattle.std.specs.Prelude.{◌==◌, ◌-◌, cond, if◌then◌else◌, nat_eq}
use Rattle.std.specs.Fmt.{decimal, digits}
use Rattle.std.specs.List.{list_all, starts_with}
use Rattle.std.specs.Option.{option_map_or}
use Rattle.std.proofs.lemmas.Bool.{and_parts}
use Rattle.ga_word.specs.Hex.{hex_digits}
use Rattle.ga_word.specs.Op.{name_of}
use Rattle.ga_word.specs.declared.op.Op.{Op}
use Rattle.ga_word.specs.declared.op.Op.TheVariants as op
use Rattle.ga_place.specs.declared.address.Where.{Where}
use Rattle.ga_place.specs.declared.address.Where.TheVariants.{Ram}
use Rattle.ga_pack.specs.Model.Layout.{Labels}
use Rattle.ga_asm.specs.Image.{ImageView, image_of, label_at}
use Rattle.ga_node.specs.Line.{place_text}
use Rattle.ga_node.specs.declared.place.Place.{Place}
use Rattle.ga_node.specs.declared.place.Place.TheVariants as place
use Rattle.ga_dump.specs.Side.{side_text}
use Rattle.ga_waits.specs.Label.{label_in, label_text, nearest}
use Rattle.ga_wave.specs.declared.deed.Did.{Did}
use Rattle.ga_wave.specs.declared.deed.Did.TheVariants as did
use Rattle.ga_wave.specs.declared.value.Value.{Value}
use Rattle.ga_wave.specs.declared.value.Value.TheVariants as value
use Rattle.ga_wave.specs.declared.work.Work.{Work}
use Rattle.ga_wave.specs.declared.work.Work.TheVariants.{Runs, Elsewhere}
use Rattle.ga_wave.specs.Deed.{did_text}
use Rattle.ga_wave.specs.Laws.{labels_are_words}
use Rattle.ga_wave.specs.Reading.{is_word}
use Rattle.ga_wave.specs.Value.{label_or, name_value, value_text}
use Rattle.ga_wave.specs.Work.{work_text}
use Rattle.ga_wave.proofs.ReadingParts.{IsValueText, bits, high, low, name}
use Rattle.ga_wave.proofs.Words.{digits_word, hex_word, side_word, word_append}

-- ---- names

did_word : (did : Did) → is_word (did_text did) ≡ true
did_word did.Works = refl
did_word did.Spins = refl
did_word (did.Posts side) = word_append (codes "posts_") (side_text side) refl (side_word side)
did_word (did.Takes side) = word_append (codes "takes_") (side_text side) refl (side_word side)
did_word (did.SeesRead side) =
    word_append (codes "sees_" ++ side_text side) (codes "_read")
    (word_append (codes "sees_") (side_text side) refl (side_word side)) refl
did_word did.TakesInput = refl
did_word did.AwaitsWord = refl
did_word did.AwaitsReader = refl
did_word did.AwaitsInput = refl
did_word did.Held = refl
did_word did.Stopped = refl

op_word : (op : Op) → is_word (name_of op) ≡ true
op_word op.Return = refl
op_word _ = refl

place_word : (place : Place) → is_word (place_text place) ≡ true
place_word place.Fetch = refl
place_word _ = refl

work_word : (work : Work) → is_word (work_text work) ≡ true
work_word (Runs op) = op_word op
work_word (Elsewhere place) = place_word place

-- ---- labels

abbrev are_words : Labels → Bool
are_words labels = list_all (λ label. is_word label.0) labels

label_word : (labels : Labels) (address : ℕ) → are_words labels ≡ true → (label : List ℕ)
    → label_at labels address ≡ Some label → is_word label ≡ true
label_word [] address words label found = cc
label_word (first ∷ labels) address words label found =
    by (first.1 == address) found
    (label_word labels address (and_parts (is_word first.0) (are_words labels) words).1 label)
  where
    by : (here : Bool) → (if here then Some first.0 else label_at labels address) ≡ Some label
        → (label_at labels address ≡ Some label → is_word label ≡ true) → is_word label ≡ true
    by true at more =
        let same : first.0 ≡ label = cc in
        rw (← same) (and_parts (is_word first.0) (are_words labels) words).0
    by false at more = more at

offset_word : (test : Bool) (number : ℕ)
    → is_word (if test then [] else 43 ∷ decimal number) ≡ true
offset_word true number = refl
offset_word false number = digits_word 10 number

-- what stands behind the blank of a label's text
behind_blank : (labels : Labels) (index : ℕ) → are_words labels ≡ true
    → is_word (drop 1 (label_text labels index)) ≡ true
unfolding label_text
behind_blank labels index words = by (nearest labels index)
  where
    named : (label : Option (List ℕ)) (offset : List ℕ) → is_word offset ≡ true
        → ((name : List ℕ) → label ≡ Some name → is_word name ≡ true)
        → is_word (drop 1 (option_map_or (λ name. 32 ∷ name ++ offset) label [])) ≡ true
    named None offset e all = refl
    named (Some name) offset e all = word_append name offset (all name refl) e

    by : (found : Option ℕ)
        → is_word (drop 1 (elim found [
          | None ↦ []
          | Some at ↦
              option_map_or (λ name. 32 ∷ name ++ (if index - at == 0 then []
              else 43 ∷ decimal (index - at))) (label_at labels at) []
        ]))
        ≡ true
    by None = refl
    by (Some at) =
        named (label_at labels at) (if index - at == 0 then [] else 43 ∷ decimal (index - at))
        (offset_word (index - at == 0) (index - at)) (label_word labels at words)

image_words : (images : List (ℕ × ImageView)) (node : ℕ) → labels_are_words images ≡ true
    → (image : ImageView) → image_of images node ≡ Some image → are_words image.labels ≡ true
image_words [] node words image found = cc
image_words (first ∷ images) node words image found =
    by (node == first.0) found
    (image_words images node
    (and_parts (are_words first.1.labels) (labels_are_words images) words).1 image)
  where
    by : (here : Bool) → cond here (Some first.1) (image_of images node) ≡ Some image
        → (image_of images node ≡ Some image → are_words image.labels ≡ true)
        → are_words image.labels ≡ true
    by true at more =
        let same : first.1 ≡ image = cc in
        rw (← same) (and_parts (are_words first.1.labels) (labels_are_words images) words).0
    by false at more = more at

reach_word : (image : Option ImageView) (reaches : Where)
    → ((view : ImageView) → image ≡ Some view → are_words view.labels ≡ true)
    → is_word (drop 1 (label_in image reaches)) ≡ true
reach_word (Some image) (Ram index) words = behind_blank image.labels index (words image refl)
reach_word image reaches words = refl

address_text : (label : List ℕ) (address : ℕ) → is_word (drop 1 label) ≡ true
    → IsValueText (label_or label address)
address_text label address word = by (starts_with nat_eq label (codes " "))
  where
    by : (labelled : Bool)
        → IsValueText (if labelled then name_value (drop 1 label)
        else name_value (hex_digits 3 address))
    by true = name (drop 1 label) word
    by false = name (hex_digits 3 address) (hex_word 3 address)

-- ---- values

pub value_texts : (images : List (ℕ × ImageView)) (node : ℕ) → labels_are_words images ≡ true
    → (value : Value) → IsValueText (value_text images node value)
value_texts images node words (value.Did did) = name (did_text did) (did_word did)
value_texts images node words (value.At address reaches) =
    address_text (label_in (image_of images node) reaches) address
    (reach_word (image_of images node) reaches (image_words images node words))
value_texts images node words (value.Runs work) = name (work_text work) (work_word work)
value_texts images node words value.Low = low
value_texts images node words value.High = high
value_texts images node words (value.Bits number) =
    bits (digits 2 false number) (digits_word 2 number)
value_texts images node words value.Nothing = bits (codes "z") refl
