-- The tokens of a text that is written line by line, with one space between the tokens of a line.
use Rattle.std.proofs.Common.{◌≡◌, ◌∙◌, ◌+◌, ℕ, Bool, true, false, not, List, [], ◌∷◌, ◌++◌, filter, get_or, length, map, refl, sym, ap, append_assoc, append-nil, take, arith}
use Rattle.std.specs.Prelude.{◌==◌, ◌&&◌, All, codes}
use Rattle.std.specs.List.{list_all, slice_split}
use Rattle.std.specs.Str.{bytes_eq}
use Rattle.std.proofs.lemmas.Bool.{and_from, and_parts, not-true}
use Rattle.std.proofs.lemmas.List.{map-append}
use Rattle.std.proofs.lemmas.List.Sums.{AllPass-from_list_all}
use Rattle.std.proofs.lemmas.Grind.{common_steps}
use Rattle.std.proofs.lemmas.List.Folds.{list_all-append}
use Rattle.std.proofs.lemmas.List.Splits.{slice_split_at, slice_split_none}
use Rattle.ga_word.specs.Text.{is_blank, is_empty}
use Rattle.ga_pack.specs.Model.Text.{Lexeme, Run, before_comment, lexemes, lexemes_from, line_lexemes, lines_of, place_behind, runs_from, texts_of}
use Rattle.ga_disasm.specs.Printing.{behind_spaces, line}

abbrev is_mark : List ℕ → Bool
is_mark text = bytes_eq text (codes "\\")

-- a text that is a token between blanks
abbrev pub is_plain : List ℕ → Bool
is_plain text = not (is_empty text) && not (is_mark text) && list_all (λ c. not (is_blank c)) text

record Plain (text : List ℕ) : Type 0 where
  some : is_empty text ≡ false
  no_mark : is_mark text ≡ false
  unbroken : All (λ c. is_blank c ≡ false) text

all_unbroken : (text : List ℕ) → list_all (λ c. not (is_blank c)) text ≡ true
    → All (λ c. is_blank c ≡ false) text
all_unbroken text h =
    λ k d m. not-true (is_blank (get_or text k d))
    (AllPass-from_list_all (λ c. not (is_blank c)) text h k d m)

plain_of : (text : List ℕ) → is_plain text ≡ true → Plain text
plain_of text h =
    let two = and_parts (not (is_empty text) && not (is_mark text))
    (list_all (λ c. not (is_blank c)) text) h in
    let one = and_parts (not (is_empty text)) (not (is_mark text)) two.0 in
    record {
      some = not-true (is_empty text) one.0;
      no_mark = not-true (is_mark text) one.1;
      unbroken = all_unbroken text two.1;
    }

-- ---- the parts of a line

split_parts : (text : List ℕ) (texts : List (List ℕ)) → is_plain text ≡ true
    → list_all is_plain texts ≡ true
    → slice_split is_blank (text ++ behind_spaces texts) ≡ text ∷ texts
split_parts text [] h hs =
    ap (slice_split is_blank) (append-nil text)
    ∙ slice_split_none is_blank text (plain_of text h).unbroken
split_parts text (next ∷ texts) h hs =
    let parts = and_parts (is_plain next) (list_all is_plain texts) hs in
    slice_split_at is_blank text 32 (next ++ behind_spaces texts) (plain_of text h).unbroken refl
    ∙ ap (λ (t : List (List ℕ)). text ∷ t) (split_parts next texts parts.0 parts.1)

runs_texts : (offset : ℕ) (texts : List (List ℕ)) → list_all is_plain texts ≡ true
    → map (λ run. run.text)
    (before_comment (filter (λ run. not (is_empty run.text)) (runs_from offset texts))) ≡ texts
runs_texts offset [] h = refl
runs_texts offset (text ∷ texts) h =
    let parts = and_parts (is_plain text) (list_all is_plain texts) h in
    let plain = plain_of text parts.0 in
    rw (plain.some, plain.no_mark)
    (ap (λ (t : List (List ℕ)). text ∷ t) (runs_texts (offset + length text + 1) texts parts.1))

-- what the tokens of a line are written as
abbrev line_texts : List ℕ → List (List ℕ)
line_texts bytes =
    map (λ run. run.text) (before_comment
    (filter (λ run. not (is_empty run.text)) (runs_from 0 (slice_split is_blank bytes))))

parts_texts : (text : List ℕ) (texts : List (List ℕ)) → is_plain text ≡ true
    → list_all is_plain texts ≡ true → line_texts (text ++ behind_spaces texts) ≡ text ∷ texts
parts_texts text texts h hs =
    ap (λ (parts : List (List ℕ)). map (λ (run : Run). run.text) (before_comment
    (filter (λ run. not (is_empty run.text)) (runs_from 0 parts)))) (split_parts text texts h hs)
    ∙ runs_texts 0 (text ∷ texts) (rw (h, hs) refl)

-- ---- the lines of a text

abbrev placed : ℕ → ℕ → List ℕ → Run → Lexeme
placed number offset bytes run = record {
  place = place_behind number (take run.offset bytes);
  start = offset + run.offset;
  text = run.text;
}

lexeme_texts : (f : Run → Lexeme) → ((run : Run) → (f run).text ≡ run.text) → (runs : List Run)
    → map (λ lexeme. lexeme.text) (map f runs) ≡ map (λ run. run.text) runs
lexeme_texts f same [] = refl
lexeme_texts f same (run ∷ runs) = rw (same run, lexeme_texts f same runs) refl

-- what the tokens of lines are written as
abbrev lines_texts : List (List ℕ) → List (List ℕ)
lines_texts [] = []
lines_texts (bytes ∷ lines) = line_texts bytes ++ lines_texts lines

texts_from : (number offset : ℕ) (lines : List (List ℕ))
    → map (λ lexeme. lexeme.text) (lexemes_from number offset lines) ≡ lines_texts lines
texts_from number offset [] = refl
texts_from number offset (bytes ∷ lines) =
    map-append (λ (lexeme : Lexeme). lexeme.text) (line_lexemes number offset bytes)
    (lexemes_from (number + 1) (offset + length bytes + 1) lines)
    ∙ rw (
      lexeme_texts (placed number offset bytes) (λ run. refl) (before_comment
          (filter (λ run. not (is_empty run.text)) (runs_from 0 (slice_split is_blank bytes)))),
      texts_from (number + 1) (offset + length bytes + 1) lines,
    ) refl

texts_of-lines : (text : List ℕ) → texts_of text ≡ lines_texts (lines_of text)
unfolding texts_of lexemes
texts_of-lines text = texts_from 1 0 (lines_of text)

-- a text of nothing has no token
pub texts_of-nothing : texts_of [] ≡ []
unfolding texts_of lexemes
texts_of-nothing = refl

-- ---- one line in front of others

abbrev is_inside : ℕ → Bool
is_inside c = not (c == 10)

inside_line : (c : ℕ) → not (is_blank c) ≡ true → is_inside c ≡ true
inside_line c h = grind (arith, common_steps)

text_inside : (text : List ℕ) → list_all (λ c. not (is_blank c)) text ≡ true
    → list_all is_inside text ≡ true
text_inside [] h = refl
text_inside (c ∷ cs) h =
    let parts = and_parts (not (is_blank c)) (list_all (λ c. not (is_blank c)) cs) h in
    and_from (is_inside c) (list_all is_inside cs) (inside_line c parts.0) (text_inside cs parts.1)

plain_inside : (text : List ℕ) → is_plain text ≡ true → list_all is_inside text ≡ true
plain_inside text h =
    text_inside text (and_parts (not (is_empty text) && not (is_mark text))
    (list_all (λ c. not (is_blank c)) text) h).1

spaces_inside : (texts : List (List ℕ)) → list_all is_plain texts ≡ true
    → list_all is_inside (behind_spaces texts) ≡ true
spaces_inside [] h = refl
spaces_inside (text ∷ texts) h =
    let parts = and_parts (is_plain text) (list_all is_plain texts) h in
    list_all-append is_inside text (behind_spaces texts)
    ∙ and_from (list_all is_inside text) (list_all is_inside (behind_spaces texts))
    (plain_inside text parts.0) (spaces_inside texts parts.1)

unfed : (bytes : List ℕ) → list_all is_inside bytes ≡ true → All (λ c. (c == 10) ≡ false) bytes
unfed bytes h =
    λ k d m. not-true (get_or bytes k d == 10) (AllPass-from_list_all is_inside bytes h k d m)

one_line : (bytes rest : List ℕ) → list_all is_inside bytes ≡ true
    → lines_of (bytes ++ 10 ∷ rest) ≡ bytes ∷ lines_of rest
one_line bytes rest h = slice_split_at (λ byte. byte == 10) bytes 10 rest (unfed bytes h) refl

-- the tokens of a line, and those of the lines behind it
pub texts_of-line : (text : List ℕ) (texts : List (List ℕ)) (rest : List ℕ) → is_plain text ≡ true
    → list_all is_plain texts ≡ true
    → texts_of (line text texts ++ rest) ≡ text ∷ (texts ++ texts_of rest)
texts_of-line text texts rest h hs =
    let bytes = text ++ behind_spaces texts in
    let inside =
    list_all-append is_inside text (behind_spaces texts) ∙ and_from (list_all is_inside text)
    (list_all is_inside (behind_spaces texts)) (plain_inside text h) (spaces_inside texts hs) in
    ap texts_of (append_assoc bytes (10 ∷ []) rest) ∙ texts_of-lines (bytes ++ 10 ∷ rest)
    ∙ ap lines_texts (one_line bytes rest inside)
    ∙ ap (λ (t : List (List ℕ)). t ++ lines_texts (lines_of rest)) (parts_texts text texts h hs)
    ∙ ap (λ (t : List (List ℕ)). text ∷ (texts ++ t)) (sym (texts_of-lines rest))
