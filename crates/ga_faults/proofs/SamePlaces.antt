-- The tokens of a part are where they are in the text.
use Rattle.std.proofs.Common.{nat_lt, ◌≡◌, ◌∙◌, ◌&&◌, ◌+◌, ◌-◌, ◌<◌, ◌≤◌, ◌++◌, ℕ, zero, suc, Option, Some, None, Bool, true, false, List, [], ◌∷◌, length, map, refl, sym, ap, ap₂, arith}
use Rattle.std.specs.Prelude.{All, ◌==◌, filter, take}
use Rattle.std.specs.Bool.{if◌then◌else◌}
use Rattle.std.specs.List.{AllByRecursion, join_with_byte, onto_first, slice_split}
use Rattle.std.proofs.lemmas.Bool.{le-ltb, ltb-false, ltb-true}
use Rattle.std.proofs.lemmas.List.{map-append}
use Rattle.std.proofs.lemmas.List.Elements.{All-cons, All-nil, filter-append}
use Rattle.std.proofs.lemmas.List.Splits.{slice_split_at, slice_split_none}
use Rattle.ga_pack.specs.Model.Text.{Lexeme, Run, lexemes, lexemes_from, line_lexemes, lines_of, place_behind}
use Rattle.ga_expand.specs.Expanding.{Piece, piece_at, pieces_of}
use Rattle.ga_faults.specs.Laws.{PartsKeepPlaces}
use Rattle.ga_faults.specs.Sections.{is_before, is_kept, kept_line, kept_lines, up_to}
use Rattle.ga_faults.proofs.Once.{all_take}

-- ---- the lines of a part

abbrev is_end : ℕ → Bool
is_end byte = byte == 10

-- a line has no LF
abbrev IsLine : List ℕ → Type 0
IsLine bytes = All (λ byte. is_end byte ≡ false) bytes

abbrev AreLines : List (List ℕ) → Type 0
AreLines lines = AllByRecursion IsLine lines

longer_line : (byte : ℕ) (lines : List (List ℕ)) → is_end byte ≡ false → AreLines lines
    → AreLines (onto_first byte lines)
longer_line byte [] inside all = (
  All-cons (λ b. is_end b ≡ false) byte [] inside
      (All-nil (λ b. is_end b ≡ false)),
  tt,
)
longer_line byte (line ∷ lines) inside all =
    (All-cons (λ b. is_end b ≡ false) byte line inside all.0, all.1)

split_lines : (text : List ℕ) → AreLines (slice_split is_end text)
split_lines [] = (All-nil (λ b. is_end b ≡ false), tt)
split_lines (byte ∷ text) = by_end (is_end byte) refl (split_lines text)
  where
    by_end : (ends : Bool) → is_end byte ≡ ends → AreLines (slice_split is_end text)
        → AreLines (if ends then [] ∷ slice_split is_end text
        else onto_first byte (slice_split is_end text))
    by_end true is all = (All-nil (λ b. is_end b ≡ false), all)
    by_end false is all = longer_line byte (slice_split is_end text) is all

kept_are_lines : (head first : ℕ) (line : ℕ) (lines : List (List ℕ))
    → AreLines lines → AreLines (kept_lines head first line lines)
unfolding kept_lines
kept_are_lines head first line [] all = tt
kept_are_lines head first line (bytes ∷ lines) all =
    (by_kept (is_kept head first line), kept_are_lines head first (line + 1) lines all.1)
  where
    by_kept : (kept : Bool) → IsLine (if kept then bytes else [])
    by_kept true = all.0
    by_kept false = All-nil (λ b. is_end b ≡ false)

lines_joined : (bytes : List ℕ) (lines : List (List ℕ)) → AreLines (bytes ∷ lines)
    → slice_split is_end (join_with_byte 10 (bytes ∷ lines)) ≡ bytes ∷ lines
lines_joined bytes [] all = slice_split_none is_end bytes all.0
lines_joined bytes (next ∷ lines) all =
    slice_split_at is_end bytes 10 (join_with_byte 10 (next ∷ lines)) all.0 refl
    ∙ ap (λ ls. bytes ∷ ls) (lines_joined next lines all.1)

-- ---- the tokens of a line

abbrev lexeme_at : ℕ → ℕ → List ℕ → Run → Lexeme
lexeme_at line offset bytes run = record {
  place = place_behind line (take run.offset bytes);
  start = offset + run.offset;
  text = run.text;
}

all_kept : (keeps : ℕ → Bool) (line one other : ℕ) (bytes : List ℕ) → keeps line ≡ true
    → (runs : List Run) → map piece_at (map (lexeme_at line one bytes) runs)
    ≡ filter (λ token. keeps token.place.line)
    (map piece_at (map (lexeme_at line other bytes) runs))
all_kept keeps line one other bytes kept [] = refl
all_kept keeps line one other bytes kept (run ∷ runs) =
    rw kept (ap (λ ls. piece_at (lexeme_at line one bytes run) ∷ ls)
    (all_kept keeps line one other bytes kept runs))

none_kept : (keeps : ℕ → Bool) (line other : ℕ) (bytes : List ℕ) → keeps line ≡ false
    → (runs : List Run)
    → [] ≡ filter (λ token. keeps token.place.line)
    (map piece_at (map (lexeme_at line other bytes) runs))
none_kept keeps line other bytes left [] = refl
none_kept keeps line other bytes left (run ∷ runs) =
    rw left (none_kept keeps line other bytes left runs)

line_kept : (head first : ℕ) (line one other : ℕ) (bytes : List ℕ)
    → map piece_at (line_lexemes line one (kept_line head first line bytes))
    ≡ filter (λ token. is_kept head first token.place.line)
    (map piece_at (line_lexemes line other bytes))
line_kept head first line one other bytes = by_kept (is_kept head first line) refl
  where
    by_kept : (kept : Bool) → is_kept head first line ≡ kept
        → map piece_at (line_lexemes line one (if kept then bytes else []))
        ≡ filter (λ token. is_kept head first token.place.line)
        (map piece_at (line_lexemes line other bytes))
    by_kept true is = all_kept (is_kept head first) line one other bytes is _
    by_kept false is = none_kept (is_kept head first) line other bytes is _

-- ---- all tokens

tokens_kept : (head first : ℕ) (line one other : ℕ) (lines : List (List ℕ))
    → map piece_at (lexemes_from line one (kept_lines head first line lines))
    ≡ filter (λ token. is_kept head first token.place.line)
    (map piece_at (lexemes_from line other lines))
unfolding kept_lines
tokens_kept head first line one other [] = refl
tokens_kept head first line one other (bytes ∷ lines) =
    let keeps : Piece → Bool = λ token. is_kept head first token.place.line in
    let kept = kept_line head first line bytes in
    let left = lexemes_from (line + 1) (one + length kept + 1)
    (kept_lines head first (line + 1) lines) in
    let rest = lexemes_from (line + 1) (other + length bytes + 1) lines in
    map-append piece_at (line_lexemes line one kept) left
    ∙ ap₂ ◌++◌ (line_kept head first line one other bytes)
    (tokens_kept head first (line + 1) (one + length kept + 1) (other + length bytes + 1) lines)
    ∙ sym (filter-append keeps (map piece_at (line_lexemes line other bytes)) (map piece_at rest))
    ∙ ap (filter keeps) (sym (map-append piece_at (line_lexemes line other bytes) rest))

-- no token is left, if none of these lines passes
none_later : (keeps : ℕ → Bool) (line offset : ℕ) (lines : List (List ℕ))
    → ((later : ℕ) → line ≤ later → keeps later ≡ false)
    → [] ≡ filter (λ token. keeps token.place.line) (map piece_at (lexemes_from line offset lines))
none_later keeps line offset [] none = refl
none_later keeps line offset (bytes ∷ lines) none =
    let passes : Piece → Bool = λ token. keeps token.place.line in
    let here = line_lexemes line offset bytes in
    let rest = lexemes_from (line + 1) (offset + length bytes + 1) lines in
    ap₂ ◌++◌ (none_kept keeps line offset bytes (none line (omega arith)) _)
    (none_later keeps (line + 1) (offset + length bytes + 1) lines
    (λ later h. none later (omega (arith, h))))
    ∙ sym (filter-append passes (map piece_at here) (map piece_at rest))
    ∙ ap (filter passes) (sym (map-append piece_at here rest))

take-nil : {X : Type 0} (n : ℕ) → ◌≡◌ {A = List X} (take n []) []
take-nil zero = refl
take-nil (suc n) = refl

-- one more line before another
before_more : (next line offset : ℕ) (bytes : List ℕ) (lines : List (List ℕ))
    → nat_lt line next ≡ true
    → map piece_at (lexemes_from (line + 1) (offset + length bytes + 1)
    (take (next - (line + 1)) lines))
    ≡ filter (λ token. nat_lt token.place.line next)
    (map piece_at (lexemes_from (line + 1) (offset + length bytes + 1) lines))
    → map piece_at (lexemes_from line offset (take (next - line) (bytes ∷ lines)))
    ≡ filter (λ token. nat_lt token.place.line next)
    (map piece_at (lexemes_from line offset (bytes ∷ lines)))
before_more next line offset bytes lines before rest =
    let passes : Piece → Bool = λ token. nat_lt token.place.line next in
    let here = line_lexemes line offset bytes in
    let behind = λ (ls : List (List ℕ)). lexemes_from (line + 1) (offset + length bytes + 1) ls in
    let above : line < next = ltb-true line next before in
    let further : next - line ≡ suc (next - (line + 1)) = omega (arith, above) in
    ap (λ n. map piece_at (lexemes_from line offset (take n (bytes ∷ lines)))) further
    ∙ map-append piece_at here (behind (take (next - (line + 1)) lines))
    ∙ ap₂ ◌++◌ (all_kept (λ l. nat_lt l next) line offset offset bytes before _) rest
    ∙ sym (filter-append passes (map piece_at here) (map piece_at (behind lines)))
    ∙ ap (filter passes) (sym (map-append piece_at here (behind lines)))

-- no more line is before another
before_none : (next line offset : ℕ) (lines : List (List ℕ)) → nat_lt line next ≡ false
    → map piece_at (lexemes_from line offset (take (next - line) lines))
    ≡ filter (λ token. nat_lt token.place.line next) (map piece_at (lexemes_from line offset lines))
before_none next line offset lines behind =
    let past : next ≤ line = ltb-false line next behind in
    let none : next - line ≡ 0 = omega (arith, past) in
    ap (λ n. map piece_at (lexemes_from line offset (take n lines))) none
    ∙ none_later (λ l. nat_lt l next) line offset lines
    (λ later h. le-ltb later next (omega (arith, h, past)))

-- the tokens before a line
tokens_before : (next line offset : ℕ) (lines : List (List ℕ))
    → map piece_at (lexemes_from line offset (take (next - line) lines))
    ≡ filter (λ token. nat_lt token.place.line next) (map piece_at (lexemes_from line offset lines))
tokens_before next line offset [] =
    ap (λ lines. map piece_at (lexemes_from line offset lines)) (take-nil (next - line))
tokens_before next line offset (bytes ∷ lines) =
    by_line (nat_lt line next) refl
    (tokens_before next (line + 1) (offset + length bytes + 1) lines)
  where
    by_line : (before : Bool) → nat_lt line next ≡ before
        → map piece_at (lexemes_from (line + 1) (offset + length bytes + 1)
        (take (next - (line + 1)) lines))
        ≡ filter (λ token. nat_lt token.place.line next)
        (map piece_at (lexemes_from (line + 1) (offset + length bytes + 1) lines))
        → map piece_at (lexemes_from line offset (take (next - line) (bytes ∷ lines)))
        ≡ filter (λ token. nat_lt token.place.line next)
        (map piece_at (lexemes_from line offset (bytes ∷ lines)))
    by_line true is rest = before_more next line offset bytes lines is rest
    by_line false is rest = before_none next line offset (bytes ∷ lines) is

all_pass : {X : Type 0} (xs : List X) → xs ≡ filter (λ x. true) xs
all_pass [] = refl
all_pass (x ∷ xs) = ap (λ l. x ∷ l) (all_pass xs)

-- the tokens of a text up to the end of a section
tokens_up_to : (next : Option ℕ) (lines : List (List ℕ))
    → map piece_at (lexemes_from 1 0 (up_to next lines))
    ≡ filter (λ token. is_before next token.place.line) (map piece_at (lexemes_from 1 0 lines))
tokens_up_to None lines = all_pass (map piece_at (lexemes_from 1 0 lines))
tokens_up_to (Some next) lines = tokens_before next 1 0 lines

filter_both : {X : Type 0} (one other : X → Bool) (xs : List X)
    → filter other (filter one xs) ≡ filter (λ x. one x && other x) xs
filter_both one other [] = refl
filter_both one other (x ∷ xs) = by_one (one x) (other x) refl refl (filter_both one other xs)
  where
    by_one : (a b : Bool) → one x ≡ a → other x ≡ b
        → filter other (filter one xs) ≡ filter (λ x. one x && other x) xs
        → filter other (if a then x ∷ filter one xs else filter one xs)
        ≡ (if (a && b) then x ∷ filter (λ x. one x && other x) xs
        else filter (λ x. one x && other x) xs)
    by_one true true p q rest = rw q (ap (λ l. x ∷ l) rest)
    by_one true false p q rest = rw q rest
    by_one false b p q rest = rest

lines_up_to : (next : Option ℕ) (lines : List (List ℕ)) → AreLines lines
    → AreLines (up_to next lines)
lines_up_to None lines all = all
lines_up_to (Some next) lines all = all_take IsLine (next - 1) lines all

-- the tokens of lines that are joined
tokens_joined : (lines : List (List ℕ)) → AreLines lines
    → map piece_at (lexemes_from 1 0 (lines_of (join_with_byte 10 lines)))
    ≡ map piece_at (lexemes_from 1 0 lines)
tokens_joined [] all = refl
tokens_joined (bytes ∷ lines) all =
    ap (λ ls. map piece_at (lexemes_from 1 0 ls)) (lines_joined bytes lines all)

pub same_places : PartsKeepPlaces
unfolding pieces_of lexemes
same_places text head section =
    let all = lines_of text in
    let lines = up_to section.next all in
    tokens_joined (kept_lines head section.first 1 lines)
    (kept_are_lines head section.first 1 lines (lines_up_to section.next all (split_lines text)))
    ∙ tokens_kept head section.first 1 0 0 lines
    ∙ ap (filter (λ token. is_kept head section.first token.place.line))
    (tokens_up_to section.next all)
    ∙ filter_both (λ token. is_before section.next token.place.line)
    (λ token. is_kept head section.first token.place.line) (map piece_at (lexemes_from 1 0 all))
