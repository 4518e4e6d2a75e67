-- The tokens of a text, and those of a text behind a token.
use Rattle.std.proofs.Common.{◌≡◌, ◌∙◌, ◌+◌, ℕ, Bool, true, false, not, List, [], ◌∷◌, ◌++◌, filter, length, map, take, refl, sym, ap, append-nil, arith, get_or}
use Rattle.std.specs.Prelude.{All, ◌==◌, ◌&&◌, codes, if◌then◌else◌}
use Rattle.std.specs.List.{list_all, onto_first, slice_split}
use Rattle.std.specs.Str.{bytes_eq}
use Rattle.std.proofs.lemmas.Bool.{and_from, and_parts, not-true}
use Rattle.std.proofs.lemmas.Grind.{common_steps}
use Rattle.std.proofs.lemmas.List.{map-append}
use Rattle.std.proofs.lemmas.List.Sums.{AllPass-from_list_all}
use Rattle.std.proofs.lemmas.List.Splits.{slice_split-cons_no, slice_split-cons_yes, slice_split_none}
use Rattle.ga_word.specs.Text.{is_blank, is_empty}
use Rattle.ga_pack.specs.Model.Text.{Lexeme, Run, before_comment, lexemes, lexemes_from, line_lexemes, lines_of, place_behind, runs_from, texts_of}
use Rattle.ga_expand.specs.inner.Plain.{is_token}

-- ---- what the tokens of a text are written as, without their places

abbrev placed : ℕ → ℕ → List ℕ → Run → Lexeme
placed number offset bytes run = record {
  place = place_behind number (take run.offset bytes);
  start = offset + run.offset;
  text = run.text;
}

-- the tokens of the parts of a line
abbrev parts_texts : List (List ℕ) → List (List ℕ)
parts_texts [] = []
parts_texts ([] ∷ parts) = parts_texts parts
parts_texts ((c ∷ cs) ∷ parts) =
    if bytes_eq (c ∷ cs) (codes "\\") then [] else (c ∷ cs) ∷ parts_texts parts

-- the runs of parts that are tokens
abbrev runs_in : ℕ → List (List ℕ) → List Run
runs_in offset parts =
    before_comment (filter (λ run. not (is_empty run.text)) (runs_from offset parts))

runs_by : (f : Run → Lexeme) (first : Run) (others : List Run) (text : List ℕ)
    (texts : List (List ℕ)) (b : Bool) → (f first).text ≡ text
    → map (λ lexeme. lexeme.text) (map f others) ≡ texts
    → map (λ lexeme. lexeme.text) (map f (if b then [] else first ∷ others))
    ≡ (if b then [] else text ∷ texts)
runs_by f first others text texts true e more = refl
runs_by f first others text texts false e more = rw (e, more) refl

runs_texts : (f : Run → Lexeme) → ((run : Run) → (f run).text ≡ run.text) → (offset : ℕ)
    → (parts : List (List ℕ))
    → map (λ lexeme. lexeme.text) (map f (runs_in offset parts)) ≡ parts_texts parts
runs_texts f same offset [] = refl
runs_texts f same offset ([] ∷ parts) = runs_texts f same (offset + 0 + 1) parts
runs_texts f same offset ((c ∷ cs) ∷ parts) =
    runs_by f (record { offset = offset; text = c ∷ cs })
    (runs_in (offset + length (c ∷ cs) + 1) parts) (c ∷ cs) (parts_texts parts)
    (bytes_eq (c ∷ cs) (codes "\\")) (same (record { offset = offset; text = c ∷ cs }))
    (runs_texts f same (offset + length (c ∷ cs) + 1) parts)

abbrev line_texts : List ℕ → List (List ℕ)
line_texts bytes = parts_texts (slice_split is_blank bytes)

abbrev lines_texts : List (List ℕ) → List (List ℕ)
lines_texts [] = []
lines_texts (bytes ∷ lines) = line_texts bytes ++ lines_texts lines

texts_from : (number offset : ℕ) (lines : List (List ℕ))
    → map (λ lexeme. lexeme.text) (lexemes_from number offset lines) ≡ lines_texts lines
texts_from number offset [] = refl
texts_from number offset (bytes ∷ lines) =
    map-append (λ (lexeme : Lexeme). lexeme.text) (line_lexemes number offset bytes)
    (lexemes_from (number + 1) (offset + length bytes + 1) lines)
    ∙ rw (
      runs_texts (placed number offset bytes) (λ run. refl) 0 (slice_split is_blank bytes),
      texts_from (number + 1) (offset + length bytes + 1) lines,
    ) refl

texts_of-lines : (text : List ℕ) → texts_of text ≡ lines_texts (lines_of text)
unfolding texts_of lexemes
texts_of-lines text = texts_from 1 0 (lines_of text)

pub texts_of-nothing : texts_of [] ≡ []
unfolding texts_of lexemes
texts_of-nothing = refl

-- ---- each of them is a token

abbrev unbroken : List ℕ → Bool
unbroken text = list_all (λ c. not (is_blank c)) text

-- a part without blanks that isn't empty and begins no comment
part_is_token : (c : ℕ) (cs : List ℕ) → bytes_eq (c ∷ cs) (codes "\\") ≡ false
    → unbroken (c ∷ cs) ≡ true → is_token (c ∷ cs) ≡ true
part_is_token c cs e whole = rw (e, whole) refl

parts_are_tokens : (parts : List (List ℕ)) → list_all unbroken parts ≡ true
    → list_all is_token (parts_texts parts) ≡ true
parts_are_tokens [] h = refl
parts_are_tokens ([] ∷ parts) h = parts_are_tokens parts h
parts_are_tokens ((c ∷ cs) ∷ parts) h =
    let two = and_parts (unbroken (c ∷ cs)) (list_all unbroken parts) h in
    by (bytes_eq (c ∷ cs) (codes "\\")) refl two.0 (parts_are_tokens parts two.1)
  where
    by : (b : Bool) → bytes_eq (c ∷ cs) (codes "\\") ≡ b → unbroken (c ∷ cs) ≡ true
        → list_all is_token (parts_texts parts) ≡ true → list_all is_token
        (if bytes_eq (c ∷ cs) (codes "\\") then [] else (c ∷ cs) ∷ parts_texts parts) ≡ true
    by true e whole more = rw e refl
    by false e whole more =
        ap (λ (t : Bool). list_all is_token (if t then [] else (c ∷ cs) ∷ parts_texts parts)) e
        ∙ and_from (is_token (c ∷ cs)) (list_all is_token (parts_texts parts))
        (part_is_token c cs e whole) more

onto_unbroken : (c : ℕ) (parts : List (List ℕ)) → not (is_blank c) ≡ true
    → list_all unbroken parts ≡ true → list_all unbroken (onto_first c parts) ≡ true
onto_unbroken c [] e h = rw e refl
onto_unbroken c (part ∷ parts) e h =
    let two = and_parts (unbroken part) (list_all unbroken parts) h in rw (e, two.0, two.1) refl

split_unbroken : (text : List ℕ) → list_all unbroken (slice_split is_blank text) ≡ true
split_unbroken [] = refl
split_unbroken (c ∷ cs) = by (is_blank c) refl (split_unbroken cs)
  where
    by : (b : Bool) → is_blank c ≡ b → list_all unbroken (slice_split is_blank cs) ≡ true
        → list_all unbroken (slice_split is_blank (c ∷ cs)) ≡ true
    by true e more = ap (list_all unbroken) (slice_split-cons_yes is_blank c cs e) ∙ more
    by false e more =
        ap (list_all unbroken) (slice_split-cons_no is_blank c cs e)
        ∙ onto_unbroken c (slice_split is_blank cs) (ap not e) more

append_tokens : (xs ys : List (List ℕ)) → list_all is_token xs ≡ true
    → list_all is_token ys ≡ true → list_all is_token (xs ++ ys) ≡ true
append_tokens [] ys h k = k
append_tokens (x ∷ xs) ys h k =
    let two = and_parts (is_token x) (list_all is_token xs) h in
    and_from (is_token x) (list_all is_token (xs ++ ys)) two.0 (append_tokens xs ys two.1 k)

lines_are_tokens : (lines : List (List ℕ)) → list_all is_token (lines_texts lines) ≡ true
lines_are_tokens [] = refl
lines_are_tokens (bytes ∷ lines) =
    append_tokens (line_texts bytes) (lines_texts lines)
    (parts_are_tokens (slice_split is_blank bytes) (split_unbroken bytes)) (lines_are_tokens lines)

pub texts_are_tokens : (text : List ℕ) → list_all is_token (texts_of text) ≡ true
texts_are_tokens text =
    ap (list_all is_token) (texts_of-lines text) ∙ lines_are_tokens (lines_of text)

-- ---- a token in front of a text

-- the lines of a text behind a byte that ends no line
lines_behind : (c : ℕ) (text : List ℕ) → (c == 10) ≡ false
    → lines_of (c ∷ text) ≡ onto_first c (lines_of text)
lines_behind c text e = slice_split-cons_no (λ byte. byte == 10) c text e

-- the tokens of lines whose first one begins with more
abbrev begun : List ℕ → List (List ℕ) → List (List ℕ)
begun text [] = text ∷ []
begun text (line ∷ lines) = (text ++ line) ∷ lines

begun_more : (c : ℕ) (text : List ℕ) (lines : List (List ℕ))
    → onto_first c (begun text lines) ≡ begun (c ∷ text) lines
begun_more c text [] = refl
begun_more c text (line ∷ lines) = refl

not_fed : (c : ℕ) → not (is_blank c) ≡ true → (c == 10) ≡ false
not_fed c h = grind (arith, common_steps)

abbrev HasFirst : List (List ℕ) → Type 0
HasFirst lines = (line : List ℕ) × (others : List (List ℕ)) × (lines ≡ line ∷ others)

onto_some : (c : ℕ) (lines : List (List ℕ)) → HasFirst (onto_first c lines)
onto_some c [] = (c ∷ [], [], refl)
onto_some c (line ∷ lines) = (c ∷ line, lines, refl)

some_by : (c : ℕ) (text : List ℕ) (b : Bool) → (c == 10) ≡ b → HasFirst (lines_of (c ∷ text))
some_by c text true e = ([], lines_of text, slice_split-cons_yes (λ byte. byte == 10) c text e)
some_by c text false e =
    let h = onto_some c (lines_of text) in (h.0, h.1, lines_behind c text e ∙ h.2)

some : (text : List ℕ) → HasFirst (lines_of text)
some [] = ([], [], refl)
some (c ∷ text) = some_by c text (c == 10) refl

nothing : (lines : List (List ℕ)) → HasFirst lines → lines ≡ begun [] lines
nothing [] (line, others, e) = absurd (cc)
nothing (line ∷ lines) h = refl

lines_begun : (text rest : List ℕ) → unbroken text ≡ true
    → lines_of (text ++ rest) ≡ begun text (lines_of rest)
lines_begun [] rest h = nothing (lines_of rest) (some rest)
lines_begun (c ∷ text) rest h =
    let two = and_parts (not (is_blank c)) (unbroken text) h in
    lines_behind c (text ++ rest) (not_fed c two.0)
    ∙ ap (onto_first c) (lines_begun text rest two.1) ∙ begun_more c text (lines_of rest)

-- the parts of a line behind a run and a blank
split_behind : (text line : List ℕ) (c : ℕ) → unbroken text ≡ true → is_blank c ≡ true
    → slice_split is_blank (text ++ c ∷ line) ≡ text ∷ slice_split is_blank line
split_behind [] line c h e = slice_split-cons_yes is_blank c line e
split_behind (d ∷ text) line c h e =
    let two = and_parts (not (is_blank d)) (unbroken text) h in
    slice_split-cons_no is_blank d (text ++ c ∷ line) (not-true (is_blank d) two.0)
    ∙ ap (onto_first d) (split_behind text line c two.1 e)

record Parts (text : List ℕ) : Type 0 where
  some : is_empty text ≡ false
  no_mark : bytes_eq text (codes "\\") ≡ false
  unbroken_text : unbroken text ≡ true

token_parts : (text : List ℕ) → is_token text ≡ true → Parts text
token_parts text h =
    let two = and_parts (not (is_empty text) && not (bytes_eq text (codes "\\")))
    (unbroken text) h in
    let one = and_parts (not (is_empty text)) (not (bytes_eq text (codes "\\"))) two.0 in
    record {
      some = not-true (is_empty text) one.0;
      no_mark = not-true (bytes_eq text (codes "\\")) one.1;
      unbroken_text = two.1;
    }

all_unbroken : (text : List ℕ) → unbroken text ≡ true → All (λ c. is_blank c ≡ false) text
all_unbroken text h =
    λ k d m. not-true (is_blank (get_or text k d))
    (AllPass-from_list_all (λ c. not (is_blank c)) text h k d m)

first_part : (text : List ℕ) (parts : List (List ℕ)) → is_token text ≡ true
    → parts_texts (text ∷ parts) ≡ text ∷ parts_texts parts
first_part [] parts h = absurd (cc)
first_part (c ∷ cs) parts h = rw ((token_parts (c ∷ cs) h).no_mark) refl

line_behind : (text line : List ℕ) (c : ℕ) → is_token text ≡ true → is_blank c ≡ true
    → line_texts (text ++ c ∷ line) ≡ text ∷ line_texts line
line_behind text line c h e =
    ap parts_texts (split_behind text line c (token_parts text h).unbroken_text e)
    ∙ first_part text (slice_split is_blank line) h

blank_line : (line : List ℕ) (c : ℕ) → is_blank c ≡ true → line_texts (c ∷ line) ≡ line_texts line
blank_line line c e = ap parts_texts (slice_split-cons_yes is_blank c line e)

-- a blank in front of a text changes no token
pub blank_texts : (c : ℕ) (rest : List ℕ) → is_blank c ≡ true
    → texts_of (c ∷ rest) ≡ texts_of rest
blank_texts c rest e = by (c == 10) refl
  where
    begins : (lines : List (List ℕ)) → lines_texts (onto_first c lines) ≡ lines_texts lines
    begins [] = ap (λ (t : List (List ℕ)). t ++ []) (blank_line [] c e)
    begins (line ∷ lines) = ap (λ (t : List (List ℕ)). t ++ lines_texts lines) (blank_line line c e)

    by : (b : Bool) → (c == 10) ≡ b → texts_of (c ∷ rest) ≡ texts_of rest
    by true fed =
        texts_of-lines (c ∷ rest)
        ∙ ap lines_texts (slice_split-cons_yes (λ byte. byte == 10) c rest fed)
        ∙ sym (texts_of-lines rest)
    by false fed =
        texts_of-lines (c ∷ rest) ∙ ap lines_texts (lines_behind c rest fed)
        ∙ begins (lines_of rest) ∙ sym (texts_of-lines rest)

-- the tokens of a text behind a token and a blank
pub token_texts : (text : List ℕ) (c : ℕ) (rest : List ℕ) → is_token text ≡ true
    → is_blank c ≡ true → texts_of (text ++ c ∷ rest) ≡ text ∷ texts_of rest
token_texts text c rest h e = by (c == 10) refl
  where
    alone : line_texts (text ++ []) ≡ text ∷ []
    alone =
        ap line_texts (append-nil text) ∙ ap parts_texts (slice_split_none is_blank text
        (all_unbroken text (token_parts text h).unbroken_text)) ∙ first_part text [] h

    begins : (lines : List (List ℕ)) → lines_texts (begun text (onto_first c lines))
        ≡ text ∷ lines_texts lines
    begins [] = ap (λ (t : List (List ℕ)). t ++ []) (line_behind text [] c h e)
    begins (line ∷ lines) =
        ap (λ (t : List (List ℕ)). t ++ lines_texts lines) (line_behind text line c h e)

    by : (b : Bool) → (c == 10) ≡ b → texts_of (text ++ c ∷ rest) ≡ text ∷ texts_of rest
    by true fed =
        texts_of-lines (text ++ c ∷ rest)
        ∙ ap lines_texts (lines_begun text (c ∷ rest) (token_parts text h).unbroken_text
        ∙ ap (begun text) (slice_split-cons_yes (λ byte. byte == 10) c rest fed))
        ∙ ap (λ (t : List (List ℕ)). t ++ lines_texts (lines_of rest)) alone
        ∙ ap (λ (t : List (List ℕ)). text ∷ t) (sym (texts_of-lines rest))
    by false fed =
        texts_of-lines (text ++ c ∷ rest)
        ∙ ap lines_texts (lines_begun text (c ∷ rest) (token_parts text h).unbroken_text
        ∙ ap (begun text) (lines_behind c rest fed)) ∙ begins (lines_of rest)
        ∙ ap (λ (t : List (List ℕ)). text ∷ t) (sym (texts_of-lines rest))
