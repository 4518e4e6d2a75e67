-- Each token is its slice of the text.
use Rattle.std.proofs.Common.{◌≡◌, ◌∙◌, ◌++◌, ◌+◌, ◌-◌, ◌≤◌, ℕ, Bool, true, false, not, List, [], ◌∷◌, inl, inr, map, length, take, drop, refl, sym, ap, ap₂, subst, append-nil, append_assoc, arith, length-append}
use Rattle.std.specs.Prelude.{◌==◌, All, codes, filter, slice_range, if◌then◌else◌}
use Rattle.std.specs.List.{slice_split}
use Rattle.std.specs.Str.{bytes_eq}
use Rattle.std.proofs.Math.Seq.{drop-append_seam, take-append_seam}
use Rattle.std.proofs.lemmas.List.Elements.{All-append, All-cons, All-filter, All-head, All-map, All-nil, All-tail}
use Rattle.ga_word.specs.Text.{is_blank, is_empty}
use Rattle.ga_pack.specs.Model.Text.{Lexeme, Run, before_comment, lexemes, lexemes_from, line_lexemes, lines_of, runs_from, texts_of}
use Rattle.ga_source.specs.Token.{token_of}
use Rattle.ga_source.proofs.Lines.{cut}

-- a part of a list, from an index on
record IsPart (whole : List ℕ) (at : ℕ) (part : List ℕ) : Type 0 where
  pub front : List ℕ
  pub back : List ℕ
  pub is : whole ≡ front ++ (part ++ back)
  pub behind : length front ≡ at

part_of_part : (whole : List ℕ) (at offset : ℕ) (bytes part : List ℕ) → IsPart whole at bytes
    → IsPart bytes offset part → IsPart whole (at + offset) part
part_of_part whole at offset bytes part outer inner = record {
  front = outer.front ++ inner.front;
  back = inner.back ++ outer.back;
  is = outer.is ∙ ap (λ l. outer.front ++ (l ++ outer.back)) inner.is ∙ simp append_assoc;
  behind = omega (arith, length-append outer.front inner.front, outer.behind, inner.behind);
}

abbrev RunIn : List ℕ → Run → Type 0
RunIn whole run = IsPart whole run.offset run.text

-- what a list is cut into are parts of it
parts_from : (p : ℕ → Bool) (whole front rest : List ℕ) (at : ℕ) (parts : List (List ℕ))
    → whole ≡ front ++ rest → length front ≡ at → slice_split p rest ≡ parts
    → All (RunIn whole) (runs_from at parts)
parts_from p whole front rest at [] is behind e = All-nil (RunIn whole)
parts_from p whole front rest at (part ∷ parts) is behind e = elim (cut p rest part parts e) [
  | inl last ↦
      All-cons (RunIn whole)
      (record { offset = at; text = part }) (runs_from (at + length part + 1) parts) (record {
        front = front;
        back = [];
        is = is ∙ ap (λ l. front ++ l) (last.1 ∙ sym (append-nil part));
        behind = behind;
      })
      (subst (λ ps. All (RunIn whole) (runs_from (at + length part + 1) ps)) (sym last.0)
      (All-nil (RunIn whole)))
  | inr ended ↦
      All-cons (RunIn whole)
      (record { offset = at; text = part }) (runs_from (at + length part + 1) parts) (record {
        front = front;
        back = ended.0 ∷ ended.1;
        is = is ∙ ap (λ l. front ++ l) ended.2;
        behind = behind;
      })
      (parts_from p whole (front ++ (part ++ ended.0 ∷ [])) ended.1 (at + length part + 1) parts
      (is ∙ ap (λ l. front ++ l) ended.2 ∙ simp append_assoc) (omega (
        arith,
        length-append front (part ++ ended.0 ∷ []),
        length-append part (ended.0 ∷ []),
        behind,
      )) ended.4)
]

before_comment_parts : (whole : List ℕ) (runs : List Run) → All (RunIn whole) runs
    → All (RunIn whole) (before_comment runs)
before_comment_parts whole [] all = all
before_comment_parts whole (run ∷ runs) all =
    by_mark (bytes_eq run.text (codes "\\"))
    (before_comment_parts whole runs (All-tail (RunIn whole) run runs all))
  where
    by_mark : (b : Bool) → All (RunIn whole) (before_comment runs)
        → All (RunIn whole) (if b then [] else run ∷ before_comment runs)
    by_mark true rest = All-nil (RunIn whole)
    by_mark false rest =
        All-cons (RunIn whole) run (before_comment runs) (All-head (RunIn whole) run runs all) rest

abbrev LexemeIn : List ℕ → Lexeme → Type 0
LexemeIn text lexeme = IsPart text lexeme.start lexeme.text

line_slices : (text : List ℕ) (line offset : ℕ) (bytes : List ℕ) → IsPart text offset bytes
    → All (LexemeIn text) (line_lexemes line offset bytes)
line_slices text line offset bytes part =
    let runs = before_comment_parts bytes
    (filter (λ run. not (is_empty run.text)) (runs_from 0 (slice_split is_blank bytes)))
    (All-filter (λ run. not (is_empty run.text)) (RunIn bytes) (runs_from 0
    (slice_split is_blank bytes)) (parts_from is_blank bytes [] bytes 0 _ refl refl refl)) in
    All-map (LexemeIn text) _ _ (λ k e m. part_of_part text offset _ bytes _ part (runs k e m))

slices_from : (text : List ℕ) (line offset : ℕ) (lines : List (List ℕ))
    → All (RunIn text) (runs_from offset lines)
    → All (LexemeIn text) (lexemes_from line offset lines)
slices_from text line offset [] parts = All-nil (LexemeIn text)
slices_from text line offset (bytes ∷ lines) parts =
    All-append (LexemeIn text) (line_lexemes line offset bytes) _ (line_slices text line offset
    bytes (All-head (RunIn text) (record { offset = offset; text = bytes }) _ parts))
    (slices_from text (line + 1) (offset + length bytes + 1) lines
    (All-tail (RunIn text) (record { offset = offset; text = bytes }) _ parts))

all_slices : (text : List ℕ) → All (LexemeIn text) (lexemes text)
unfolding lexemes
all_slices text =
    slices_from text 1 0 (lines_of text)
    (parts_from (λ byte. byte == 10) text [] text 0 _ refl refl refl)

-- ---- and so of the tokens

slice_of_part : (whole : List ℕ) (at : ℕ) (part : List ℕ) → IsPart whole at part
    → slice_range whole at (at + length part) ≡ part
slice_of_part whole at part p =
    let behind : drop at whole ≡ part ++ p.back =
    ap (drop at) p.is ∙ ap (λ n. drop n (p.front ++ (part ++ p.back))) (sym p.behind)
    ∙ drop-append_seam p.front (part ++ p.back) in
    let long : at + length part - at ≡ length part = omega arith in
    ap (take (at + length part - at)) behind ∙ ap (λ n. take n (part ++ p.back)) long
    ∙ take-append_seam part p.back

part_inside : (whole : List ℕ) (at : ℕ) (part : List ℕ) → IsPart whole at part
    → at + length part ≤ length whole
part_inside whole at part p =
    omega (
      arith,
      ap length p.is,
      length-append p.front (part ++ p.back),
      length-append part p.back,
      p.behind,
    )

sliced : (text : List ℕ) (found : List Lexeme) → All (LexemeIn text) found
    → map (λ t. slice_range text t.start t.end) (map token_of found)
    ≡ map (λ lexeme. lexeme.text) found
sliced text [] all = refl
sliced text (lexeme ∷ found) all =
    ap₂ ◌∷◌
    (slice_of_part text lexeme.start lexeme.text (All-head (LexemeIn text) lexeme found all))
    (sliced text found (All-tail (LexemeIn text) lexeme found all))

pub tokens_inside : (text : List ℕ)
    → All (λ t. (t.start ≤ t.end) × (t.end ≤ length text)) (map token_of (lexemes text))
tokens_inside text =
    All-map (λ t. (t.start ≤ t.end) × (t.end ≤ length text)) token_of (lexemes text)
    (λ k e m. let part = all_slices text k e m in (omega arith, part_inside text _ _ part))

pub tokens_sliced : (text : List ℕ)
    → map (λ t. slice_range text t.start t.end) (map token_of (lexemes text)) ≡ texts_of text
unfolding texts_of
tokens_sliced text = sliced text (lexemes text) (all_slices text)
