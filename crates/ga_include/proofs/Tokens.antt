-- The first token of a line is the one that it has in a source text.
use Rattle.std.proofs.Common.{◌≡◌, ◌∙◌, ℕ, ◌+◌, ◌==◌, ◌||◌, Bool, true, false, not, List, [], ◌∷◌, ◌++◌, arith, cond, length, map, refl, sym, take, ap, ap₂}
use Rattle.std.specs.Prelude.{codes, filter}
use Rattle.std.specs.List.{join_with_byte, list_any, slice_split}
use Rattle.std.specs.Str.{bytes_eq}
use Rattle.std.proofs.lemmas.List.Splits.{join_with_byte-slice_split, length-slice_split}
use Rattle.std.proofs.lemmas.Slice.Eq.{bytes_eq-Decides}
use Rattle.ga_word.specs.Text.{is_blank, is_empty, tokens}
use Rattle.ga_pack.specs.Model.Text.{Lexeme, Run, before_comment, lexemes, lexemes_from, lines_of, place_behind, runs_from, texts_of}
use Rattle.ga_include.specs.IncludeLine.{is_first, is_include}
use Rattle.ga_include.proofs.Fine.{Endless, endless_parts, ends}

abbrev word : List ℕ
word = codes "include"

-- the texts of runs in front of a comment
abbrev texts_before : List Run → List (List ℕ)
texts_before runs = map (λ run. run.text) (before_comment runs)

-- a run with some bytes: a comment is another word
at_run : (run : Run) (runs : List Run) (b : Bool) → bytes_eq run.text (codes "\\") ≡ b
    → is_first word (map (λ run. run.text) (cond b [] (run ∷ before_comment runs)))
    ≡ bytes_eq run.text word
at_run run runs false other = refl
at_run run runs true same =
    let backslash : run.text ≡ codes "\\" =
    (bytes_eq-Decides run.text (codes "\\")).0 same in
    ap (λ text. bytes_eq text word) (sym backslash)

first_run : (offset : ℕ) (parts : List (List ℕ))
    → is_first word
    (texts_before (filter (λ run. not (is_empty run.text)) (runs_from offset parts)))
    ≡ is_first word (filter (λ token. not (is_empty token)) parts)
first_run offset [] = refl
first_run offset ([] ∷ parts) = first_run (offset + 0 + 1) parts
first_run offset ((c ∷ part) ∷ parts) =
    at_run (record { offset = offset; text = c ∷ part })
    (filter (λ run. not (is_empty run.text)) (runs_from (offset + length (c ∷ part) + 1) parts)) _
    refl

-- a line without LF is its only line
only_part : (line : List ℕ) (parts : List (List ℕ)) → length parts ≡ 1
    → join_with_byte 10 parts ≡ line → parts ≡ line ∷ []
only_part line [] one joined = absurd (omega arith)
only_part line (part ∷ []) one joined = ap (λ l. l ∷ []) joined
only_part line (part ∷ next ∷ parts) one joined = absurd (omega arith)

only_line : (line : List ℕ) → ends line ≡ 0 → lines_of line ≡ line ∷ []
only_line line none =
    only_part line (lines_of line)
    (length-slice_split (λ byte. byte == 10) line ∙ ap (λ n. n + 1) none)
    (join_with_byte-slice_split 10 line)

-- a run, as the token of a line
abbrev token_at : List ℕ → Run → Lexeme
token_at line run = record {
  place = place_behind 1 (take run.offset line);
  start = 0 + run.offset;
  text = run.text;
}

same_texts : (line : List ℕ) (runs : List Run)
    → map (λ lexeme. lexeme.text) (map (token_at line) runs ++ []) ≡ map (λ run. run.text) runs
same_texts line [] = refl
same_texts line (run ∷ runs) = ap (λ texts. run.text ∷ texts) (same_texts line runs)

abbrev runs_of : List ℕ → List Run
runs_of line = filter (λ run. not (is_empty run.text)) (runs_from 0 (slice_split is_blank line))

first_of_line : (line : List ℕ) → ends line ≡ 0
    → is_include line ≡ is_first word (texts_of line)
unfolding tokens texts_of lexemes
first_of_line line none =
    sym (ap (λ parts. is_first word (map (λ lexeme. lexeme.text) (lexemes_from 1 0 parts)))
    (only_line line none)
    ∙ ap (is_first word) (same_texts line (before_comment (runs_of line)))
    ∙ first_run 0 (slice_split is_blank line))

first_of_lines : (lines : List (List ℕ)) → Endless lines → list_any is_include lines
    ≡ list_any (λ line. is_first (codes "include") (texts_of line)) lines
first_of_lines [] endless = refl
first_of_lines (line ∷ lines) endless =
    ap₂ ◌||◌ (first_of_line line endless.0) (first_of_lines lines endless.1)

pub by_tokens : (text : List ℕ) → list_any is_include (lines_of text)
    ≡ list_any (λ line. is_first (codes "include") (texts_of line)) (lines_of text)
by_tokens text = first_of_lines (lines_of text) (endless_parts text)
