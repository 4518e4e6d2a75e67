-- A text is cut into lines and a line into runs: the tokens are those from the first place on.
use Rattle.std.proofs.Common.{rules, ◌≡◌, ◌∙◌, ◌++◌, ◌+◌, ◌<◌, ◌≤◌, ◌⊎◌, ℕ, Bool, true, false, not, None, List, [], ◌∷◌, inl, inr, map, length, take, get_or, refl, sym, ap, ap₂, subst, append_assoc, arith, length-append}
use Rattle.std.specs.Prelude.{◌==◌, count_by, filter, if◌then◌else◌}
use Rattle.std.specs.List.{slice_split, onto_first}
use Rattle.std.proofs.Math.Seq.{take-append_seam}
use Rattle.std.proofs.lemmas.List.{get_or_default}
use Rattle.std.proofs.lemmas.List.Splits.{slice_split-cons_no, slice_split-cons_yes}
use Rattle.std.proofs.lemmas.List.Sums.{count_by-le-length, sum_by-append}
use Rattle.std.proofs.lemmas.Bool.{false_from_ne_true}
use Rattle.memchr.specs.Find.{Nowhere, Passes, is_byte}
use Rattle.ga_word.specs.Text.{is_blank, is_empty}
use Rattle.ga_source.specs.inner.Walk.{FirstLine, columns_on, is_mark, left_lexemes, lexemes_at, run_lexemes}
use Rattle.ga_pack.specs.Model.Text.{Lexeme, Run, before_comment, begins_character, lexemes, lexemes_from, line_lexemes, lines_of, place_behind, runs_from}

-- ---- the first part of a list that is cut

-- it is the whole list, or ends at an element that cuts
abbrev pub IsCut : (p : ℕ → Bool) → List ℕ → List ℕ → List (List ℕ) → Type 0
IsCut p xs first others =
    ((others ≡ []) × (xs ≡ first)) ⊎ ((y : ℕ) × (rest : List ℕ) × (xs ≡ first ++ y ∷ rest)
    × (p y ≡ true) × (slice_split p rest ≡ others))

pub record First (p : ℕ → Bool) (xs : List ℕ) : Type 0 where
  pub first : List ℕ
  pub others : List (List ℕ)
  pub parts : slice_split p xs ≡ first ∷ others
  pub cut : IsCut p xs first others

longer_cut : (p : ℕ → Bool) (x : ℕ) (xs first : List ℕ) (others : List (List ℕ))
    → IsCut p xs first others → IsCut p (x ∷ xs) (x ∷ first) others
longer_cut p x xs first others (inl (none, whole)) = inl (none, ap (λ (l : List ℕ). x ∷ l) whole)
longer_cut p x xs first others (inr (y, rest, whole, yes', left)) =
    inr (y, rest, ap (λ (l : List ℕ). x ∷ l) whole, yes', left)

first_more : (p : ℕ → Bool) (x : ℕ) (xs : List ℕ) (b : Bool) → p x ≡ b → First p xs
    → First p (x ∷ xs)
first_more p x xs true e f = record {
  first = [];
  others = slice_split p xs;
  parts = slice_split-cons_yes p x xs e;
  cut = inr (x, xs, refl, e, refl);
}
first_more p x xs false e f = record {
  first = x ∷ f.first;
  others = f.others;
  parts = slice_split-cons_no p x xs e ∙ ap (onto_first x) f.parts;
  cut = longer_cut p x xs f.first f.others f.cut;
}

pub first_of : (p : ℕ → Bool) (xs : List ℕ) → First p xs
first_of p [] = record { first = []; others = []; parts = refl; cut = inl (refl, refl) }
first_of p (x ∷ xs) = first_more p x xs (p x) refl (first_of p xs)

pub cut : (p : ℕ → Bool) (xs first : List ℕ) (others : List (List ℕ))
    → slice_split p xs ≡ first ∷ others → IsCut p xs first others
cut p xs first others e =
    let f = first_of p xs in
    let same : f.first ∷ f.others ≡ first ∷ others = sym f.parts ∙ e in
    let heads : f.first ≡ first = cc in
    let tails : f.others ≡ others = cc in
    subst (λ (os : List (List ℕ)). IsCut p xs first os) tails
    (subst (λ (o : List ℕ). IsCut p xs o f.others) heads f.cut)

-- how many elements parts have, with the one at which each ends
abbrev pub span : List (List ℕ) → ℕ
span [] = 0
span (part ∷ parts) = length part + 1 + span parts

pub span_split : (p : ℕ → Bool) (xs : List ℕ) → span (slice_split p xs) ≡ length xs + 1
span_split p [] = refl
span_split p (x ∷ xs) = more (p x) refl (first_of p xs) (span_split p xs)
  where
    more : (b : Bool) → p x ≡ b → First p xs → span (slice_split p xs) ≡ length xs + 1
        → span (slice_split p (x ∷ xs)) ≡ length (x ∷ xs) + 1
    more true e f whole = omega (arith, ap span (slice_split-cons_yes p x xs e), whole)
    more false e f whole =
        omega (
          arith,
          ap span (slice_split-cons_no p x xs e ∙ ap (onto_first x) f.parts),
          ap span f.parts,
          whole,
        )

-- ---- the tokens of a line

abbrev placed_run : ℕ → ℕ → List ℕ → Run → Lexeme
placed_run line offset bytes run = record {
  place = place_behind line (take run.offset bytes);
  start = offset + run.offset;
  text = run.text;
}

-- the tokens of parts of a line, the first of which begins at this byte
abbrev pub of_parts : ℕ → ℕ → List ℕ → ℕ → List (List ℕ) → List Lexeme
of_parts line offset bytes at parts =
    map (placed_run line offset bytes)
    (before_comment (filter (λ run. not (is_empty run.text)) (runs_from at parts)))

of_mark : (line offset : ℕ) (bytes : List ℕ) (at : ℕ) (run : List ℕ) (parts : List (List ℕ))
    → is_mark run ≡ true → of_parts line offset bytes at (run ∷ parts) ≡ []
of_mark line offset bytes at [] parts e = absurd (cc)
of_mark line offset bytes at (x ∷ xs) parts e = rw e refl

of_run : (line offset : ℕ) (bytes : List ℕ) (at : ℕ) (run : List ℕ) (parts : List (List ℕ))
    → is_mark run ≡ false → 0 < length run
    → of_parts line offset bytes at (run ∷ parts) ≡ placed_run line offset bytes
    (record { offset = at; text = run }) ∷ of_parts line offset bytes (at + length run + 1) parts
of_run line offset bytes at [] parts e some = absurd (omega (arith, some))
of_run line offset bytes at (x ∷ xs) parts e some = rw e refl

-- The byte and the column of a line at which the remaining parts begin.
pub record Stands (bytes : List ℕ) (at column : ℕ) (left : List (List ℕ)) : Type 0 where
  pub front : List ℕ
  pub rest : List ℕ
  pub whole : bytes ≡ front ++ rest
  pub behind : length front ≡ at
  pub parts : slice_split is_blank rest ≡ left
  pub columns : column ≡ 1 + count_by begins_character front

-- the first part that is left
pub record Next (bytes : List ℕ) (at column : ℕ) (run : List ℕ)
    (others : List (List ℕ)) : Type 0 where
  pub inside : at + length run ≤ length bytes
  pub columns : column ≡ 1 + count_by begins_character (take at bytes)
  pub low : column ≤ at + 1
  pub behind : (others ≡ [])
      ⊎ Stands bytes (at + length run + 1) (column + (count_by begins_character run + 1)) others

pub count_append : (xs ys : List ℕ) → count_by begins_character (xs ++ ys)
    ≡ count_by begins_character xs + count_by begins_character ys
count_append xs ys = sum_by-append _ xs ys

pub blank_begins : (y : ℕ) → is_blank y ≡ true → begins_character y ≡ true
blank_begins y e = search rules

next_stands : (bytes : List ℕ) (at column : ℕ) (run : List ℕ) (others : List (List ℕ))
    (s : Stands bytes at column (run ∷ others)) → IsCut is_blank s.rest run others → (others ≡ [])
    ⊎ Stands bytes (at + length run + 1) (column + (count_by begins_character run + 1)) others
next_stands bytes at column run others s (inl (none, whole)) = inl none
next_stands bytes at column run others s (inr (y, rest, whole, blank, left)) = inr (record {
  front = s.front ++ (run ++ y ∷ []);
  rest = rest;
  whole = s.whole ∙ ap (λ (l : List ℕ). s.front ++ l) (whole ∙ sym (append_assoc run (y ∷ []) rest))
      ∙ sym (append_assoc s.front (run ++ y ∷ []) rest);
  behind =
      omega (arith, length-append s.front (run ++ y ∷ []), length-append run (y ∷ []), s.behind);
  parts = left;
  columns = omega (
    arith,
    s.columns,
    count_append s.front (run ++ y ∷ []),
    count_append run (y ∷ []),
    ap {B = ℕ} (λ b. if b then 1 else 0) (blank_begins y blank),
  );
})

pub next_part : (bytes : List ℕ) (at column : ℕ) (run : List ℕ) (others : List (List ℕ))
    → (run ∷ others ≡ []) ⊎ Stands bytes at column (run ∷ others) → Next bytes at column run others
next_part bytes at column run others (inl none) = absurd (cc)
next_part bytes at column run others (inr s) =
    let c = cut is_blank s.rest run others s.parts in
    let seam : take at bytes ≡ s.front = ap (λ (l : List ℕ). take at l) s.whole
    ∙ ap (λ n. take n (s.front ++ s.rest)) (sym s.behind) ∙ take-append_seam s.front s.rest in
    record {
      inside = omega (
        arith,
        ap length s.whole,
        length-append s.front s.rest,
        s.behind,
        cut_inside s.rest run others c,
      );
      columns = s.columns ∙ ap (λ l. 1 + count_by begins_character l) (sym seam);
      low = omega (arith, s.columns, s.behind, count_by-le-length begins_character s.front);
      behind = next_stands bytes at column run others s c;
    }
  where
    cut_inside : (rest run : List ℕ) (others : List (List ℕ)) → IsCut is_blank rest run others
        → length run ≤ length rest
    cut_inside rest run others (inl (none, whole)) = omega (arith, ap length whole)
    cut_inside rest run others (inr (y, left, whole, blank, parts)) =
        omega (arith, ap length whole, length-append run (y ∷ left))

-- the tokens of runs are those from their place on
module _ (line offset : ℕ) (bytes : List ℕ) where
  runs_are : (at column : ℕ) (runs : List (List ℕ)) → (runs ≡ []) ⊎ Stands bytes at column runs
      → of_parts line offset bytes at runs
      ≡ run_lexemes (record { line = line; column = column }) (offset + at) runs
  runs_are at column [] s = refl
  runs_are at column ([] ∷ runs) s =
      runs_are (at + 0 + 1) (column + (0 + 1)) runs (next_part bytes at column [] runs s).behind
      ∙ ap₂ (λ (c n : ℕ). run_lexemes (record { line = line; column = c }) n runs) (omega arith)
      (omega arith)
  runs_are at column ((c ∷ cs) ∷ runs) s =
      by (is_mark (c ∷ cs)) refl
      (runs_are (at + length (c ∷ cs) + 1) (column + (count_by begins_character (c ∷ cs) + 1)) runs
      (next_part bytes at column (c ∷ cs) runs s).behind)
    where
      next : Next bytes at column (c ∷ cs) runs
      next = next_part bytes at column (c ∷ cs) runs s

      others : List Lexeme
      others =
          run_lexemes (columns_on (record { line = line; column = column })
          (count_by begins_character (c ∷ cs) + 1)) (offset + at + length (c ∷ cs) + 1) runs

      by : (b : Bool) → is_mark (c ∷ cs) ≡ b
          → of_parts line offset bytes (at + length (c ∷ cs) + 1) runs ≡ run_lexemes
          (record { line = line; column = column + (count_by begins_character (c ∷ cs) + 1) })
          (offset + (at + length (c ∷ cs) + 1)) runs
          → of_parts line offset bytes at ((c ∷ cs) ∷ runs)
          ≡ run_lexemes (record { line = line; column = column }) (offset + at) ((c ∷ cs) ∷ runs)
      by true e more =
          of_mark line offset bytes at (c ∷ cs) runs e
          ∙ sym (ap (λ (t : Bool). if t then [] else record
          { place = record { line = line; column = column }; start = offset + at; text = c ∷ cs }
          ∷ others) e)
      by false e more =
          of_run line offset bytes at (c ∷ cs) runs e (omega arith)
          ∙ ap (λ (n : ℕ).
          record { place = record { line = line; column = n }; start = offset + at; text = c ∷ cs }
          ∷ of_parts line offset bytes (at + length (c ∷ cs) + 1) runs) (sym next.columns)
          ∙ ap (λ (ls : List Lexeme). record
          { place = record { line = line; column = column }; start = offset + at; text = c ∷ cs }
          ∷ ls) more
          ∙ ap (λ (n : ℕ). record
          { place = record { line = line; column = column }; start = offset + at; text = c ∷ cs }
          ∷ run_lexemes (columns_on (record { line = line; column = column })
          (count_by begins_character (c ∷ cs) + 1)) n runs) (omega arith)
          ∙ sym (ap (λ (t : Bool). if t then [] else record
          { place = record { line = line; column = column }; start = offset + at; text = c ∷ cs }
          ∷ others) e)

line_is : (line offset : ℕ) (bytes : List ℕ) → line_lexemes line offset bytes
    ≡ run_lexemes (record { line = line; column = 1 }) offset (slice_split is_blank bytes)
line_is line offset bytes =
    runs_are line offset bytes 0 1 (slice_split is_blank bytes) (inr (record
    { front = []; rest = bytes; whole = refl; behind = refl; parts = refl; columns = refl }))
    ∙ ap (λ (n : ℕ). run_lexemes (record { line = line; column = 1 }) n
    (slice_split is_blank bytes)) (omega arith)

lines_are : (line offset : ℕ) (lines : List (List ℕ)) → lexemes_from line offset lines
    ≡ left_lexemes (record { line = line; column = 1 }) offset lines
lines_are line offset [] = refl
lines_are line offset (bytes ∷ lines) =
    ap₂ (λ (xs ys : List Lexeme). xs ++ ys) (line_is line offset bytes)
    (lines_are (line + 1) (offset + length bytes + 1) lines)

pub lexemes_are : (text : List ℕ)
    → lexemes text ≡ lexemes_at (record { line = 1; column = 1 }) 0 text
unfolding lexemes
lexemes_are text = lines_are 1 0 (lines_of text)

-- ---- the first line of a text

pub lines_without_end : (text : List ℕ) → Nowhere (Passes (is_byte 10) text) 0 (length text)
    → FirstLine text text None
lines_without_end text nowhere = (
  refl,
  λ k d m. ap (λ byte. byte == 10) (get_or_default text k d 0 m)
      ∙ false_from_ne_true (get_or text k 0 == 10) (nowhere k (omega arith) m),
)
