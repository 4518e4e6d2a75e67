-- What `dis` writes for words is assembled to these words.
use Rattle.std.proofs.Common.{◌≡◌, ◌<◌, ◌≤◌, ◌+◌, ◌^◌, ℕ, Bool, true, false, List, [], ◌∷◌, length, map, Option, Some, Result, Ok, Err, unwrap_or, refl, sym, ap, subst, arith}
use Rattle.std.specs.Prelude.{All, nat_lt, if◌then◌else◌}
use Rattle.std.specs.Str.{IsUtf8}
use Rattle.std.proofs.lemmas.Bool.Decides.{nat_tests}
use Rattle.std.proofs.lemmas.Bool.{ltb-false}
use Rattle.std.proofs.lemmas.List.Elements.{All-cons, All-nil}
use Rattle.std.proofs.lemmas.Str.{is_utf8-from_IsUtf8}
use Rattle.ga_word.specs.Hex.{is_word_text, word_of}
use Rattle.ga_word.specs.Text.{word_onto, words_from, words_of_text}
use Rattle.ga_asm.specs.Assembling.{IsAssembled}
use Rattle.ga_asm.specs.Image.{ImageView, image_line, item_count}
use Rattle.ga_asm.specs.Text.{HasImages}
use Rattle.ga_disasm.specs.Source.{FitNode, IsSourceOf}
use Rattle.ga_programs.specs.Asm.{IsAsmOutput, images_text}
use Rattle.ga_programs.specs.Dis.{AssemblesTo, plain_image}
use Rattle.ga_programs.proofs.OneOutput.{one_asm_output}
use Rattle.ga_input.specs.Text.{IsMade, and_then, text_in, words_found, words_in}
use Rattle.ga_input.specs.declared.fault.ServeError.{ServeError}
use Rattle.ga_input.specs.declared.fault.ServeError.TheVariants.{Input, Words}
use Rattle.ga_input.specs.declared.fault.InputFault.TheVariants.{BadText}
use Rattle.ga_input.specs.declared.fault.WordsFault.TheVariants as fault

-- ---- the words of an input fit a node

word_below : (text : List ℕ) (word : ℕ) → word_of text ≡ Some word → word < 2 ^ 18
unfolding is_word_text
word_below text word e = grind (arith, nat_tests)

abbrev IsBelow : ℕ → Type 0
IsBelow word = word < 2 ^ 18

words_below : (place : ℕ) (tokens : List (List ℕ)) (words : List ℕ)
    → words_from place tokens ≡ Ok words → All IsBelow words
words_below place [] words e =
    let none : words ≡ [] = cc in subst (All IsBelow) (sym none) (All-nil IsBelow)
words_below place (token ∷ tokens) words e =
    go (word_of token) refl (words_from (place + 1) tokens) (words_below (place + 1) tokens) e
  where
    go : (found : Option ℕ) → word_of token ≡ found → (rest : Result (List ℕ) ℕ)
        → ((others : List ℕ) → rest ≡ Ok others → All IsBelow others)
        → word_onto place found rest ≡ Ok words → All IsBelow words
    go (Some word) is (Ok others) below f =
        let all : word ∷ others ≡ words = cc in subst (All IsBelow) all
        (All-cons IsBelow word others (word_below token word is) (below others refl))
    go _ is _ below f = absurd (cc)

record Counted (found words : List ℕ) : Type 0 where
  is : found ≡ words
  some : 0 < length words
  most : length words ≤ 64

counted_by : (found words : List ℕ) → words_found (Ok found) ≡ Ok words → Counted found words
counted_by [] words e = absurd (cc)
counted_by (word ∷ found) words e = go (nat_lt 64 (length (word ∷ found))) refl e
  where
    go : (b : Bool) → nat_lt 64 (length (word ∷ found)) ≡ b
        → (if b then Err (Words fault.TooLong) else Ok (word ∷ found)) ≡ Ok words
        → Counted (word ∷ found) words
    go true is f = absurd (cc)
    go false is f =
        let same : word ∷ found ≡ words = cc in
        let few = ltb-false 64 (length (word ∷ found)) is in
        subst (Counted (word ∷ found)) same
        (record { is = refl; some = omega arith; most = omega arith })

fit_found : (found : Result (List ℕ) ℕ) (words : List ℕ)
    → ((ws : List ℕ) → found ≡ Ok ws → All IsBelow ws) → words_found found ≡ Ok words
    → Counted words words × All IsBelow words
fit_found (Err index) words below e = absurd (cc)
fit_found (Ok found) words below e =
    let count = counted_by found words e in (
      subst (λ (ws : List ℕ). Counted ws words) count.is count,
      subst (All IsBelow) count.is (below found refl),
    )

fit_in : (text : Result (List ℕ) ServeError) (words : List ℕ)
    → and_then (λ t. words_found (words_of_text t)) text ≡ Ok words
    → Counted words words × All IsBelow words
fit_in (Err fault) words e = absurd (cc)
fit_in (Ok text) words e = fit_found (words_of_text text) words (λ ws is. words_below 0 _ ws is) e

-- the words of an input are those of a node, of which the first `code_len` are code
fit_node : (input words : List ℕ) (code_len : ℕ) → words_in input ≡ Ok words
    → code_len ≤ length words → FitNode words code_len
unfolding words_in
fit_node input words code_len e within =
    let fit = fit_in (text_in input) words e in
    record { some = fit.0.some; most = fit.0.most; code_within = within; below = fit.1 }

-- ---- a source text of words is assembled to them

module _ (text words : List ℕ) (code_len : ℕ) (utf8 : IsUtf8 text)
    (source : IsSourceOf text words code_len) where
  is_text : text_in text ≡ Ok text
  is_text =
      ap (λ (b : Bool). if b then Ok text else Err (Input BadText)) (is_utf8-from_IsUtf8 text utf8)

  abbrev image : ImageView
  image = record {
    words = words;
    code_len = code_len;
    entry = 0;
    labels = [];
    item_counts = map item_count source.laid.groups;
  }

  assembled : IsAssembled (source.section ∷ []) ((0, image) ∷ [])
  unfolding IsAssembled
  assembled =
      (sym source.node_is, record { laid = source.laid; entry_is = refl; counts_are = refl }, tt)

  has_images : HasImages text ((0, image) ∷ [])
  has_images = record {
    program = source.section ∷ [];
    program_is = source.program_is;
    faultless = source.no_program_fault;
    assembled = assembled;
  }

  -- what is written doesn't tell the groups of items
  same_text : images_text ((0, plain_image words code_len) ∷ []) ≡ images_text ((0, image) ∷ [])
  unfolding image_line
  same_text = refl

  written : IsAsmOutput text (Ok (images_text ((0, plain_image words code_len) ∷ [])))
  unfolding IsMade
  written = ((0, image) ∷ [], (text, is_text, has_images), same_text)

  pub assembles : AssemblesTo text words code_len
  assembles = record {
    written = written;
    only = λ answer is. one_asm_output text answer
        (Ok (images_text ((0, plain_image words code_len) ∷ []))) is written;
  }

-- the same of the words of an input
pub again : (input words words' text : List ℕ) (code : Option ℕ) (code_len : ℕ)
    → words_in input ≡ Ok words → words_in input ≡ Ok words'
    → code_len ≡ unwrap_or code (length words) → code_len ≤ length words → IsUtf8 text
    → (FitNode words code_len → IsSourceOf text words code_len)
    → AssemblesTo text words' (unwrap_or code (length words'))
again input words words' text code code_len e e' code_is within utf8 source =
    let same : words ≡ words' = cc in
    subst (λ (ws : List ℕ). AssemblesTo text ws (unwrap_or code (length ws))) same
    (subst (AssemblesTo text words) code_is
    (assembles text words code_len utf8 (source (fit_node input words code_len e within))))
