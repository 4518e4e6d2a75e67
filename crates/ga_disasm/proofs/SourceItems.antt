-- The source items of the lines that are printed.
use Rattle.std.proofs.Common.{◌≡◌, ◌∙◌, ◌<◌, ◌≤◌, ◌^◌, ℕ, zero, suc, Bool, true, false, List, [], ◌∷◌, ◌++◌, length, map, Option, Some, None, refl, sym, ap, append_assoc, arith}
use Rattle.std.specs.Prelude.{codes, All}
use Rattle.std.specs.Fmt.{decimal}
use Rattle.std.specs.List.{list_all}
use Rattle.std.proofs.lemmas.Bool.{and_from}
use Rattle.std.proofs.lemmas.List.Elements.{All-head, All-tail}
use Rattle.std.proofs.lemmas.List.Folds.{list_all-append}
use Rattle.ga_word.specs.declared.op.Op.{Op}
use Rattle.ga_word.specs.declared.op.Op.TheVariants.{Nop}
use Rattle.ga_word.specs.Op.{name_of}
use Rattle.ga_word.specs.Word.{bits}
use Rattle.ga_pack.specs.Decoded.{Reading, reading_of}
use Rattle.ga_pack.specs.Followers.{followers}
use Rattle.ga_pack.specs.Reading.{Reads}
use Rattle.ga_pack.specs.Model.Token.{Token, open_mark, close_mark, comma, slash, number, op, data_part, node, node_name, end, is_node, meaning_of, meaning_at, meanings}
use Rattle.ga_pack.specs.Model.Text.{texts_of}
use Rattle.ga_pack.specs.Model.Source as source
use Rattle.ga_pack.specs.Model.Source.{Number, Word, WordTo, Plain, item_tokens, items_tokens, op_tokens, spare_tokens, text_tokens}
use Rattle.ga_pack.specs.Model.Program.{tokens_of}
use Rattle.ga_pack.proofs.Encoded.{reading_of-reads}
use Rattle.ga_pack.proofs.Meanings.{meaning_of-name_of}
use Rattle.ga_pack.proofs.ReadingFacts.{count_of_ops, dest_below, spare_below}
use Rattle.ga_disasm.specs.Disassembling.{ItemView, Code, Follower, Data, items_from}
use Rattle.ga_disasm.specs.Printing.{field_texts, item_line, line, item_lines, node_line, number_text, spare_texts}
use Rattle.ga_disasm.proofs.Meanings.{meaning_of-number_text, meaning_of-spare, name_plain, number_plain, spare_plain}
use Rattle.ga_disasm.proofs.TextLines.{is_plain, texts_of-line, texts_of-nothing}

-- ---- the source item of an item

-- all opcodes but the last, and the last
abbrev pub front : List Op → List Op
front [] = []
front (o ∷ []) = []
front (o ∷ p ∷ ops) = o ∷ front (p ∷ ops)

abbrev pub last : List Op → Op
last [] = Nop
last (o ∷ []) = o
last (o ∷ p ∷ ops) = last (p ∷ ops)

-- the spare bits are written if they aren't 0
abbrev pub written : ℕ → Option ℕ
written zero = None
written (suc n) = Some (suc n)

abbrev pub bracketed : List Op → Option ℕ → ℕ → source.Item
bracketed ops None spare = Word ops
bracketed ops (Some dest) spare = WordTo (front ops) (last ops) (Number dest) (written spare)

-- the source items that are printed, behind `data` or in front of it
abbrev pub source_items : Bool → List ItemView → List source.Item
source_items in_data [] = []
source_items in_data (Code reading ∷ items) =
    bracketed reading.ops reading.dest reading.spare ∷ source_items in_data items
source_items in_data (Follower word ∷ items) = Plain (Number word) ∷ source_items in_data items
source_items true (Data word ∷ items) = Plain (Number word) ∷ source_items true items
source_items false (Data word ∷ items) = source.Data ∷ Plain (Number word) ∷ source_items true items

-- ---- items of words

-- a reading is that of some word
abbrev pub IsReading : Reading → Type 0
IsReading reading =
    (word : ℕ) × (word < 2 ^ 18) × Reads (bits 18 word) reading.ops reading.dest reading.spare

abbrev pub IsOfWord : ItemView → Type 0
IsOfWord (Code reading) = IsReading reading
IsOfWord (Follower word) = word < 2 ^ 18
IsOfWord (Data word) = word < 2 ^ 18

abbrev pub AreOfWords : List ItemView → Type 0
AreOfWords [] = Unit {0}
AreOfWords (item ∷ items) = IsOfWord item × AreOfWords items

abbrev pub IsBelow : ℕ → Type 0
IsBelow word = word < 2 ^ 18

pub items_of_words : (owed left : ℕ) (words : List ℕ) → All IsBelow words
    → AreOfWords (items_from owed left words)
unfolding items_from
items_of_words owed left [] h = tt
items_of_words owed zero (word ∷ words) h =
    (All-head IsBelow word words h, items_of_words owed zero words (All-tail IsBelow word words h))
items_of_words zero (suc left) (word ∷ words) h =
    let below = All-head IsBelow word words h in (
      (word, below, reading_of-reads word below),
      items_of_words (followers (reading_of word).ops) left words (All-tail IsBelow word words h),
    )
items_of_words (suc owed) (suc left) (word ∷ words) h =
    (All-head IsBelow word words h, items_of_words owed left words (All-tail IsBelow word words h))

-- ---- the texts of a line are tokens

names_plain : (ops : List Op) → list_all is_plain (map name_of ops) ≡ true
names_plain [] = refl
names_plain (o ∷ ops) =
    and_from (is_plain (name_of o)) (list_all is_plain (map name_of ops)) (name_plain o)
    (names_plain ops)

spare_texts_plain : (spare : ℕ) → spare < 8 → list_all is_plain (spare_texts spare) ≡ true
spare_texts_plain zero h = refl
spare_texts_plain (suc n) h =
    and_from (is_plain (decimal (suc n))) true (spare_plain (suc n) h) refl

field_plain : (dest : Option ℕ) (spare : ℕ) → spare < 8
    → list_all is_plain (field_texts dest spare) ≡ true
field_plain None spare h = refl
field_plain (Some dest) spare h =
    and_from (is_plain (number_text dest)) (list_all is_plain (spare_texts spare))
    (number_plain dest) (spare_texts_plain spare h)

abbrev word_texts : List Op → Option ℕ → ℕ → List (List ℕ)
word_texts ops dest spare = map name_of ops ++ field_texts dest spare ++ codes "]" ∷ []

word_plain : (ops : List Op) (dest : Option ℕ) (spare : ℕ) → spare < 8
    → list_all is_plain (word_texts ops dest spare) ≡ true
word_plain ops dest spare h =
    list_all-append is_plain (map name_of ops ++ field_texts dest spare) (codes "]" ∷ [])
    ∙ and_from (list_all is_plain (map name_of ops ++ field_texts dest spare)) true
    (list_all-append is_plain (map name_of ops) (field_texts dest spare)
    ∙ and_from (list_all is_plain (map name_of ops)) (list_all is_plain (field_texts dest spare))
    (names_plain ops) (field_plain dest spare h)) refl

-- ---- what they mean

means_next : (text : List ℕ) (texts : List (List ℕ)) (token : Token) → meaning_of text ≡ token
    → is_node token ≡ false → meanings false (text ∷ texts) ≡ token ∷ meanings false texts
unfolding meanings meaning_at
means_next text texts token e none = rw (e, none) refl

ops_mean : (ops : List Op) (texts : List (List ℕ))
    → meanings false (map name_of ops ++ texts) ≡ op_tokens ops (meanings false texts)
ops_mean [] texts = refl
ops_mean (o ∷ ops) texts =
    means_next (name_of o) (map name_of ops ++ texts) (op o) (meaning_of-name_of o) refl
    ∙ ap (λ (t : List Token). op o ∷ t) (ops_mean ops texts)

close_means : (texts : List (List ℕ))
    → meanings false (codes "]" ∷ texts) ≡ close_mark ∷ meanings false texts
unfolding meaning_of
close_means texts = means_next (codes "]") texts close_mark refl refl

spare_means : (spare : ℕ) (texts : List (List ℕ)) → spare < 8 → meanings false
    (spare_texts spare ++ codes "]" ∷ texts) ≡ spare_tokens (written spare) (meanings false texts)
unfolding meaning_of
spare_means zero texts h = close_means texts
spare_means (suc n) texts h =
    means_next (codes "/") (decimal (suc n) ∷ codes "]" ∷ texts) slash refl refl
    ∙ ap (λ (t : List Token). slash ∷ t) (means_next (decimal (suc n))
    (codes "]" ∷ texts) (number (suc n)) (meaning_of-spare (suc n) h) refl
    ∙ ap (λ (t : List Token). number (suc n) ∷ t) (close_means texts))

field_means : (dest spare : ℕ) (texts : List (List ℕ)) → dest < 2 ^ 18 → spare < 8
    → meanings false (field_texts (Some dest) spare ++ codes "]" ∷ texts) ≡ number dest
    ∷ spare_tokens (written spare) (meanings false texts)
field_means dest spare texts below small =
    means_next (number_text dest) (spare_texts spare ++ codes "]" ∷ texts) (number dest)
    (meaning_of-number_text dest below) refl
    ∙ ap (λ (t : List Token). number dest ∷ t) (spare_means spare texts small)

front_last : (o : Op) (ops : List Op) (rest : List Token)
    → op_tokens (front (o ∷ ops)) (op (last (o ∷ ops)) ∷ rest) ≡ op_tokens (o ∷ ops) rest
front_last o [] rest = refl
front_last o (p ∷ ops) rest = ap (λ (t : List Token). op o ∷ t) (front_last p ops rest)

inside_means : (ops : List Op) (dest : Option ℕ) (spare : ℕ) (texts : List (List ℕ))
    → 1 ≤ length ops → ((d : ℕ) → dest ≡ Some d → d < 2 ^ 18) → spare < 8
    → open_mark ∷ op_tokens ops (meanings false (field_texts dest spare ++ codes "]" ∷ texts))
    ≡ item_tokens (bracketed ops dest spare) (meanings false texts)
inside_means ops None spare texts some below small =
    ap (λ (t : List Token). open_mark ∷ op_tokens ops t) (close_means texts)
inside_means [] (Some dest) spare texts some below small = absurd (omega arith)
inside_means (o ∷ ops) (Some dest) spare texts some below small =
    ap (λ (t : List Token). open_mark ∷ op_tokens (o ∷ ops) t)
    (field_means dest spare texts (below dest refl) small)
    ∙ ap (λ (t : List Token). open_mark ∷ t)
    (sym (front_last o ops (number dest ∷ spare_tokens (written spare) (meanings false texts))))

word_means : (ops : List Op) (dest : Option ℕ) (spare : ℕ) (texts : List (List ℕ)) → 1 ≤ length ops
    → ((d : ℕ) → dest ≡ Some d → d < 2 ^ 18) → spare < 8
    → meanings false (codes "[" ∷ (word_texts ops dest spare ++ texts))
    ≡ item_tokens (bracketed ops dest spare) (meanings false texts)
unfolding meaning_of
word_means ops dest spare texts some below small =
    let regroup : word_texts ops dest spare ++ texts ≡ map name_of ops
    ++ (field_texts dest spare ++ codes "]" ∷ texts) =
    append_assoc (map name_of ops ++ field_texts dest spare) (codes "]" ∷ []) texts
    ∙ append_assoc (map name_of ops) (field_texts dest spare) (codes "]" ∷ texts) in
    means_next (codes "[") (word_texts ops dest spare ++ texts) open_mark refl refl
    ∙ ap (λ (t : List (List ℕ)). open_mark ∷ meanings false t) regroup
    ∙ ap (λ (t : List Token). open_mark ∷ t)
    (ops_mean ops (field_texts dest spare ++ codes "]" ∷ texts))
    ∙ inside_means ops dest spare texts some below small

plain_means : (n : ℕ) (texts : List (List ℕ)) → n < 2 ^ 18 → meanings false
    (codes "," ∷ number_text n ∷ texts) ≡ item_tokens (Plain (Number n)) (meanings false texts)
unfolding meaning_of
plain_means n texts below =
    means_next (codes ",") (number_text n ∷ texts) comma refl refl ∙ ap (λ (t : List Token). comma
    ∷ t) (means_next (number_text n) texts (number n) (meaning_of-number_text n below) refl)

data_means : (texts : List (List ℕ))
    → meanings false (codes "data" ∷ texts) ≡ item_tokens source.Data (meanings false texts)
unfolding meaning_of
data_means texts = means_next (codes "data") texts data_part refl refl

-- ---- the lines

-- the field of a reading is below 2 ^ 18
field_below : (dest : Option ℕ) {word : List ℕ} {ops : List Op} {spare : ℕ}
    → Reads word ops dest spare → (d : ℕ) → dest ≡ Some d → d < 2 ^ 18
field_below None reads d e = absurd (cc)
field_below (Some dest) reads d e =
    let same : dest ≡ d = cc in let below = dest_below reads in omega arith

code_line : (reading : Reading) (rest : List ℕ) → IsReading reading
    → meanings false (texts_of (item_line (Code reading) ++ rest)) ≡ item_tokens
    (bracketed reading.ops reading.dest reading.spare) (meanings false (texts_of rest))
code_line reading rest (word, below, reads) =
    let small = spare_below reads in
    ap (meanings false) (texts_of-line (codes "[") (word_texts reading.ops reading.dest
    reading.spare) rest refl (word_plain reading.ops reading.dest reading.spare small))
    ∙ word_means reading.ops reading.dest reading.spare (texts_of rest) (count_of_ops reads).0
    (field_below reading.dest reads) small

plain_line : (n : ℕ) (rest : List ℕ) → n < 2 ^ 18
    → meanings false (texts_of (item_line (Follower n) ++ rest))
    ≡ item_tokens (Plain (Number n)) (meanings false (texts_of rest))
plain_line n rest below =
    ap (meanings false) (texts_of-line (codes ",") (number_text n ∷ []) rest refl
    (and_from (is_plain (number_text n)) true (number_plain n) refl))
    ∙ plain_means n (texts_of rest) below

data_mark : (rest : List ℕ) → meanings false (texts_of (line (codes "data") [] ++ rest))
    ≡ item_tokens source.Data (meanings false (texts_of rest))
data_mark rest =
    ap (meanings false) (texts_of-line (codes "data") [] rest refl refl)
    ∙ data_means (texts_of rest)

-- the tokens of the lines are those of the source items
pub lines_mean : (in_data : Bool) (items : List ItemView) → AreOfWords items → meanings false
    (texts_of (item_lines in_data items)) ≡ items_tokens (source_items in_data items) (end ∷ [])
unfolding meanings
lines_mean in_data [] h = ap (meanings false) texts_of-nothing
lines_mean in_data (Code reading ∷ items) h =
    code_line reading (item_lines in_data items) h.0
    ∙ ap (item_tokens (bracketed reading.ops reading.dest reading.spare))
    (lines_mean in_data items h.1)
lines_mean in_data (Follower word ∷ items) h =
    plain_line word (item_lines in_data items) h.0
    ∙ ap (item_tokens (Plain (Number word))) (lines_mean in_data items h.1)
lines_mean true (Data word ∷ items) h =
    plain_line word (item_lines true items) h.0
    ∙ ap (item_tokens (Plain (Number word))) (lines_mean true items h.1)
lines_mean false (Data word ∷ items) h =
    ap (λ (t : List ℕ). meanings false (texts_of t))
    (append_assoc (line (codes "data") []) (item_line (Data word)) (item_lines true items))
    ∙ data_mark (item_line (Data word) ++ item_lines true items)
    ∙ ap (item_tokens source.Data) (plain_line word (item_lines true items) h.0
    ∙ ap (item_tokens (Plain (Number word))) (lines_mean true items h.1))

-- behind the line of a node they are those of its section
pub text_means : (items : List ItemView) → AreOfWords items
    → tokens_of (node_line ++ item_lines false items)
    ≡ text_tokens (record { name = 0; items = source_items false items } ∷ [])
unfolding tokens_of meanings meaning_at meaning_of
text_means items h =
    ap (meanings false)
    (texts_of-line (codes "node") (codes "000" ∷ []) (item_lines false items) refl refl)
    ∙ ap (λ (t : List Token). node ∷ node_name 0 ∷ t) (lines_mean false items h)
