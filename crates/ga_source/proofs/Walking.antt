-- The tokens of a text, found from the front, run by run.
use Rattle.std.proofs.Common.{rules, ◌≡◌, ◌∙◌, ◌++◌, ◌+◌, ◌-◌, ◌<◌, ◌≤◌, ℕ, zero, suc, Bool, true, false, not, List, [], ◌∷◌, Option, Some, None, inl, inr, map, length, take, drop, get_or, refl, sym, ap, ap₂, subst, add-zero, append-nil, append_assoc, arith, take_all, take-append-drop, length-drop, length-append}
use Rattle.std.specs.Prelude.{◌==◌, All, count_by, if◌then◌else◌}
use Rattle.std.specs.List.{position, position_or_len, slice_split, onto_first}
use Rattle.std.specs.Borrow.{Bor}
use Rattle.std.proofs.Math.Seq.{take-append_seam}
use Rattle.std.proofs.lemmas.Bool.{not-false, not-true}
use Rattle.std.proofs.lemmas.Grind.{common_steps}
use Rattle.std.proofs.lemmas.List.{drop_all, drop_more, get_or-drop, get_or-take, get_or_default, length-map, length-take, map-append, take_more}
use Rattle.std.proofs.lemmas.List.Elements.{All-append, All-tail}
use Rattle.std.proofs.lemmas.List.Quantifiers.{position-Some}
use Rattle.std.proofs.lemmas.List.Sums.{fails_before_first}
use Rattle.std.proofs.lemmas.List.Splits.{slice_split-cons_no, slice_split-cons_yes, slice_split_at, slice_split_none}
use Rattle.ga_word.specs.Text.{is_blank}
use Rattle.ga_pack.specs.Model.Text.{Lexeme, Place, begins_character, end_from, end_of, lexemes, lines_of, texts_of}
use Rattle.ga_source.specs.Token.{token_of}
use Rattle.ga_source.specs.declared.token.Token.{Token}
use Rattle.ga_source.specs.inner.Walk.{BehindRun, Begins, FirstLine, FirstRun, columns_on, is_mark, left_lexemes, lexemes_at, next_line, run_lexemes, step, walk}
use Rattle.ga_source.proofs.Lines.{First, blank_begins, count_append, first_of, lexemes_are, span, span_split}

abbrev NoBlank : List ℕ → Type 0
NoBlank run = All (λ c. is_blank c ≡ false) run

abbrev NoEnd : List ℕ → Type 0
NoEnd line = All (λ c. (c == 10) ≡ false) line

-- ---- where bytes lead

pub walk_append : (p : Place) (xs ys : List ℕ) → walk p (xs ++ ys) ≡ walk (walk p xs) ys
walk_append p [] ys = refl
walk_append p (x ∷ xs) ys = walk_append (step p x) xs ys

in_line : (p : Place) (c : ℕ) → (c == 10) ≡ false
    → step p c ≡ columns_on p (if begins_character c then 1 else 0)
in_line p c e =
    ap (λ (b : Bool). if b then next_line p
    else columns_on p (if begins_character c then 1 else 0)) e

same_place : (line column column' : ℕ) → column ≡ column' → ◌≡◌ {A = Place}
    (record { line = line; column = column }) (record { line = line; column = column' })
same_place line column column' e = ap (λ (n : ℕ). record { line = line; column = n }) e

pub walk_more : (p : Place) (bytes : List ℕ) (i : ℕ) → i < length bytes
    → walk p (take (i + 1) bytes) ≡ step (walk p (take i bytes)) (get_or bytes i 0)
walk_more p bytes i inside =
    ap (walk p) (take_more bytes i 0 inside) ∙ walk_append p (take i bytes) (get_or bytes i 0 ∷ [])

count_more : (c : ℕ) (cs : List ℕ) → count_by begins_character (c ∷ cs)
    ≡ (if begins_character c then 1 else 0) + count_by begins_character cs
count_more c cs =
    count_append (c ∷ []) cs ∙ ap (λ (n : ℕ). n + count_by begins_character cs)
    (zero_more (if begins_character c then 1 else 0))
  where
    zero_more : (n : ℕ) → 0 + n ≡ n
    zero_more n = omega arith

walk_line : (p : Place) (bytes : List ℕ) → NoEnd bytes
    → walk p bytes ≡ columns_on p (count_by begins_character bytes)
walk_line p [] none = same_place p.line p.column (p.column + 0) (omega arith)
walk_line p (c ∷ cs) none =
    ap (λ (q : Place). walk q cs) (in_line p c (none 0 0 (omega arith)))
    ∙ walk_line (columns_on p (if begins_character c then 1 else 0)) cs
    (All-tail (λ c. (c == 10) ≡ false) c cs none)
    ∙ same_place p.line
    (p.column + (if begins_character c then 1 else 0) + count_by begins_character cs)
    (p.column + count_by begins_character (c ∷ cs)) (omega (arith, count_more c cs))

no_end : (run : List ℕ) → NoBlank run → NoEnd run
no_end run none = λ k d m. by (get_or run k d) (none k d m)
  where
    by : (c : ℕ) → is_blank c ≡ false → (c == 10) ≡ false
    by c e = search rules

-- how far they lead
pub walk_low : (p : Place) (bytes : List ℕ) → ((walk p bytes).line ≤ p.line + length bytes)
    × ((walk p bytes).column ≤ p.column + length bytes)
walk_low p [] = (omega arith, omega arith)
walk_low p (c ∷ cs) =
    let h = walk_low (step p c) cs in
    let low = by (c == 10) (begins_character c) in
    (omega (arith, h.0, low.0), omega (arith, h.1, low.1))
  where
    by : (b d : Bool)
        → ((if b then next_line p else columns_on p (if d then 1 else 0)).line ≤ p.line + 1)
        × ((if b then next_line p else columns_on p (if d then 1 else 0)).column ≤ p.column + 1)
    by true d = (omega arith, omega arith)
    by false true = (omega arith, omega arith)
    by false false = (omega arith, omega arith)

-- ---- blanks in front

blank_columns : (p : Place) (c : ℕ) → is_blank c ≡ true → (c == 10) ≡ false
    → columns_on p 1 ≡ step p c
blank_columns p c blank e =
    ap (λ (b : Bool). columns_on p (if b then 1 else 0)) (sym (blank_begins c blank))
    ∙ sym (in_line p c e)

skip_blank : (p : Place) (start c : ℕ) (text : List ℕ) → is_blank c ≡ true
    → lexemes_at p start (c ∷ text) ≡ lexemes_at (step p c) (start + 1) text
skip_blank p start c text blank = by (c == 10) refl (first_of (λ byte. byte == 10) text)
  where
    by : (b : Bool) → (c == 10) ≡ b → First (λ byte. byte == 10) text
        → lexemes_at p start (c ∷ text) ≡ lexemes_at (step p c) (start + 1) text
    by true e f =
        ap (left_lexemes p start) (slice_split-cons_yes (λ byte. byte == 10) c text e)
        ∙ ap₂ (λ (n : ℕ) (q : Place). lexemes_at q n text) (omega arith) (sym (ap (λ (b : Bool).
        if b then next_line p else columns_on p (if begins_character c then 1 else 0)) e))
    by false e f =
        ap (left_lexemes p start)
        (slice_split-cons_no (λ byte. byte == 10) c text e ∙ ap (onto_first c) f.parts)
        ∙ ap (λ (runs : List (List ℕ)). run_lexemes p start runs ++ left_lexemes (next_line p)
        (start + length (c ∷ f.first) + 1) f.others) (slice_split-cons_yes is_blank c f.first blank)
        ∙ ap (λ (n : ℕ). run_lexemes (columns_on p 1) (start + 1) (slice_split is_blank f.first)
        ++ left_lexemes (next_line p) n f.others) (omega arith)
        ∙ ap (left_lexemes (columns_on p 1) (start + 1)) (sym f.parts)
        ∙ ap (λ (q : Place). lexemes_at q (start + 1) text) (blank_columns p c blank e)

skip_blanks : (p : Place) (start : ℕ) (front text : List ℕ) → All (λ c. is_blank c ≡ true) front
    → lexemes_at p start (front ++ text) ≡ lexemes_at (walk p front) (start + length front) text
skip_blanks p start [] text blanks = ap (λ (n : ℕ). lexemes_at p n text) (omega arith)
skip_blanks p start (c ∷ cs) text blanks =
    skip_blank p start c (cs ++ text) (blanks 0 0 (omega arith))
    ∙ skip_blanks (step p c) (start + 1) cs text (All-tail (λ c. is_blank c ≡ true) c cs blanks)
    ∙ ap (λ (n : ℕ). lexemes_at (walk (step p c) cs) n text) (omega arith)

-- ---- a run in front

-- the first line of a run and the text behind it
prefix_lines : (run behind first : List ℕ) (others : List (List ℕ)) → NoEnd run
    → lines_of behind ≡ first ∷ others → lines_of (run ++ behind) ≡ (run ++ first) ∷ others
prefix_lines [] behind first others none e = e
prefix_lines (c ∷ run) behind first others none e =
    slice_split-cons_no (λ byte. byte == 10) c (run ++ behind) (none 0 0 (omega arith))
    ∙ ap (onto_first c)
    (prefix_lines run behind first others (All-tail (λ c. (c == 10) ≡ false) c run none) e)

-- the first line behind a run begins with a blank, or is empty
first_behind : (behind first : List ℕ) (others : List (List ℕ)) → BehindRun behind
    → lines_of behind ≡ first ∷ others → BehindRun first
first_behind behind first others (inl none) e =
    inl (let whole : first ∷ others ≡ [] ∷ [] = sym e ∙ ap lines_of none in cc)
first_behind behind first others (inr (c, rest, is, blank)) e =
    by (c == 10) refl (first_of (λ byte. byte == 10) rest)
  where
    by : (b : Bool) → (c == 10) ≡ b → First (λ byte. byte == 10) rest → BehindRun first
    by true ends f =
        inl (let whole : first ∷ others ≡ [] ∷ lines_of rest = sym e ∙ ap lines_of is
        ∙ slice_split-cons_yes (λ byte. byte == 10) c rest ends in cc)
    by false ends f =
        let whole : first ∷ others ≡ (c ∷ f.first) ∷ f.others = sym e ∙ ap lines_of is
        ∙ slice_split-cons_no (λ byte. byte == 10) c rest ends ∙ ap (onto_first c) f.parts in
        let same : first ≡ c ∷ f.first = cc in
        inr (c, f.first, same, blank)

-- a run that is cut off a line
record Cuts (run first : List ℕ) : Type 0 where
  behind : List (List ℕ)
  whole : slice_split is_blank (run ++ first) ≡ run ∷ behind
  rest : (p : Place) (start : ℕ) → run_lexemes p start (slice_split is_blank first)
      ≡ run_lexemes (columns_on p 1) (start + 1) behind

cuts : (run first : List ℕ) → NoBlank run → BehindRun first → Cuts run first
cuts run first none (inl e) = record {
  behind = [];
  whole = ap (λ (l : List ℕ). slice_split is_blank (run ++ l)) e
      ∙ ap (slice_split is_blank) (append-nil run) ∙ slice_split_none is_blank run none;
  rest = λ p start. ap (λ (l : List ℕ). run_lexemes p start (slice_split is_blank l)) e;
}
cuts run first none (inr (c, rest, e, blank)) = record {
  behind = slice_split is_blank rest;
  whole = ap (λ (l : List ℕ). slice_split is_blank (run ++ l)) e
      ∙ slice_split_at is_blank run c rest none blank;
  rest = λ p start. ap (λ (l : List ℕ). run_lexemes p start (slice_split is_blank l)) e
      ∙ ap (run_lexemes p start) (slice_split-cons_yes is_blank c rest blank);
}

run_first : (p : Place) (start : ℕ) (run : List ℕ) (runs : List (List ℕ)) → 0 < length run
    → is_mark run ≡ false
    → run_lexemes p start (run ∷ runs) ≡ record { place = p; start = start; text = run }
    ∷ run_lexemes (columns_on p (count_by begins_character run + 1)) (start + length run + 1) runs
run_first p start [] runs some e = absurd (omega (arith, some))
run_first p start (c ∷ cs) runs some e =
    ap (λ (b : Bool). if b then []
    else record { place = p; start = start; text = c ∷ cs } ∷ run_lexemes
    (columns_on p (count_by begins_character (c ∷ cs) + 1)) (start + length (c ∷ cs) + 1) runs) e

mark_first : (p : Place) (start : ℕ) (run : List ℕ) (runs : List (List ℕ)) → is_mark run ≡ true
    → run_lexemes p start (run ∷ runs) ≡ []
mark_first p start [] runs e = absurd (cc)
mark_first p start (c ∷ cs) runs e =
    ap (λ (b : Bool). if b then []
    else record { place = p; start = start; text = c ∷ cs } ∷ run_lexemes
    (columns_on p (count_by begins_character (c ∷ cs) + 1)) (start + length (c ∷ cs) + 1) runs) e

token_first : (p : Place) (start : ℕ) (run behind : List ℕ) → 0 < length run → NoBlank run
    → BehindRun behind → is_mark run ≡ false
    → lexemes_at p start (run ++ behind) ≡ record { place = p; start = start; text = run }
    ∷ lexemes_at (walk p run) (start + length run) behind
token_first p start run behind some none ends e =
    let f = first_of (λ byte. byte == 10) behind in
    let c = cuts run f.first none (first_behind behind f.first f.others ends f.parts) in
    let q : Place = columns_on p (count_by begins_character run) in
    let lexeme : Lexeme = record { place = p; start = start; text = run } in
    ap (left_lexemes p start) (prefix_lines run behind f.first f.others (no_end run none) f.parts)
    ∙ ap (λ (runs : List (List ℕ)). run_lexemes p start runs
    ++ left_lexemes (next_line p) (start + length (run ++ f.first) + 1) f.others) c.whole
    ∙ ap (λ (ls : List Lexeme). ls ++ left_lexemes (next_line p)
    (start + length (run ++ f.first) + 1) f.others) (run_first p start run c.behind some e)
    ∙ ap₂ (λ (x : Place) (n : ℕ). lexeme
    ∷ (run_lexemes x (start + length run + 1) c.behind ++ left_lexemes (next_line p) n f.others))
    (same_place p.line (p.column + (count_by begins_character run + 1)) (p.column
    + count_by begins_character run + 1) (omega arith)) (omega (arith, length-append run f.first))
    ∙ ap (λ (ls : List Lexeme). lexeme ∷ (ls ++ left_lexemes (next_line p)
    (start + length run + length f.first + 1) f.others)) (sym (c.rest q (start + length run)))
    ∙ ap (λ (lines : List (List ℕ)). lexeme ∷ left_lexemes q (start + length run) lines)
    (sym f.parts)
    ∙ ap (λ (x : Place). lexeme ∷ lexemes_at x (start + length run) behind)
    (sym (walk_line p run (no_end run none)))

-- what is left behind the first line
abbrev pub IsLeft : Option (Bor (List ℕ)) → List ℕ → Type 0
IsLeft None rest = rest ≡ []
IsLeft (Some next) rest = rest ≡ next.now

-- the text behind a front has the tokens that are left
pub record Behind (text rest : List ℕ) : Type 0 where
  pub front : List ℕ
  pub whole : text ≡ front ++ rest
  pub same : (p : Place) (start : ℕ)
      → lexemes_at p start text ≡ lexemes_at (walk p front) (start + length front) rest

pub behind_nothing : (text : List ℕ) → Behind text text
behind_nothing text = record {
  front = [];
  whole = refl;
  same = λ p start. ap (λ (n : ℕ). lexemes_at p n text) (omega arith);
}

pub behind_more : (text rest more : List ℕ) → Behind text rest → Behind rest more → Behind text more
behind_more text rest more a b = record {
  front = a.front ++ b.front;
  whole =
      a.whole ∙ ap (λ (l : List ℕ). a.front ++ l) b.whole ∙ sym (append_assoc a.front b.front more);
  same = λ p start.
      a.same p start ∙ b.same (walk p a.front) (start + length a.front)
      ∙ ap₂ (λ (q : Place) (n : ℕ). lexemes_at q n more) (sym (walk_append p a.front b.front))
      (omega (arith, length-append a.front b.front));
}

no_end_append : (xs ys : List ℕ) → NoEnd xs → NoEnd ys → NoEnd (xs ++ ys)
no_end_append xs ys x y = All-append (λ c. (c == 10) ≡ false) xs ys x y

line_behind : (line rest : List ℕ) → BehindRun (line ++ 10 ∷ rest) → BehindRun line
line_behind [] rest ends = inl refl
line_behind (c ∷ cs) rest (inl none) = absurd (cc)
line_behind (c ∷ cs) rest (inr (d, more, is, blank)) =
    let same : d ≡ c = cc in inr (c, cs, refl, subst (λ x. is_blank x ≡ true) same blank)

-- a comment, to the end of its line
comment_first : (run line behind rest : List ℕ) (next : Option (Bor (List ℕ))) → NoBlank run
    → BehindRun behind → is_mark run ≡ true → FirstLine behind line next → IsLeft next rest
    → Behind (run ++ behind) rest
comment_first run line behind rest None none ends e f left =
    let whole : lines_of (run ++ behind) ≡ (run ++ behind) ∷ [] =
    slice_split_none (λ byte. byte == 10) (run ++ behind)
    (no_end_append run behind (no_end run none) (subst NoEnd (sym f.0) f.1)) in
    let c = cuts run behind none ends in
    record {
      front = run ++ behind;
      whole =
          sym (append-nil (run ++ behind)) ∙ ap (λ (l : List ℕ). (run ++ behind) ++ l) (sym left);
      same = λ p start.
          ap (left_lexemes p start) whole
          ∙ ap (λ (runs : List (List ℕ)). run_lexemes p start runs ++ []) c.whole
          ∙ ap (λ (ls : List Lexeme). ls ++ []) (mark_first p start run c.behind e)
          ∙ ap (lexemes_at (walk p (run ++ behind)) (start + length (run ++ behind))) (sym left);
    }
comment_first run line behind rest (Some next) none ends e f left =
    let c = cuts run line none (line_behind line next.now (subst BehindRun f.0 ends)) in
    let clear : NoEnd (run ++ line) = no_end_append run line (no_end run none) f.1 in
    let seam : run ++ behind ≡ (run ++ line) ++ 10 ∷ next.now =
    ap (λ (l : List ℕ). run ++ l) f.0 ∙ sym (append_assoc run line (10 ∷ next.now)) in
    let whole : lines_of (run ++ behind) ≡ (run ++ line) ∷ lines_of next.now =
    ap lines_of seam ∙ slice_split_at (λ byte. byte == 10) (run ++ line) 10 next.now clear refl in
    record {
      front = (run ++ line) ++ 10 ∷ [];
      whole = seam ∙ sym (append_assoc (run ++ line) (10 ∷ []) next.now)
          ∙ ap (λ (l : List ℕ). ((run ++ line) ++ 10 ∷ []) ++ l) (sym left);
      same = λ p start.
          let there : walk p ((run ++ line) ++ 10 ∷ []) ≡ next_line p = walk_append p (run ++ line)
          (10 ∷ []) ∙ ap (λ (q : Place). next_line q) (walk_line p (run ++ line) clear) in
          ap (left_lexemes p start) whole
          ∙ ap (λ (runs : List (List ℕ)). run_lexemes p start runs ++ left_lexemes (next_line p)
          (start + length (run ++ line) + 1) (lines_of next.now)) c.whole
          ∙ ap (λ (ls : List Lexeme). ls ++ left_lexemes (next_line p) (start + length (run ++ line)
          + 1) (lines_of next.now)) (mark_first p start run c.behind e)
          ∙ ap₂ (λ (q : Place) (n : ℕ). lexemes_at q n next.now) (sym there)
          (omega (arith, length-append (run ++ line) (10 ∷ [])))
          ∙ ap (lexemes_at (walk p ((run ++ line) ++ 10 ∷ []))
          (start + length ((run ++ line) ++ 10 ∷ []))) (sym left);
    }

-- ---- the next token

module _ (text run behind : List ℕ) (b : Begins text run behind) where
  at_run : (p : Place) (start : ℕ) → lexemes_at p start text
      ≡ lexemes_at (walk p b.front) (start + length b.front) (run ++ behind)
  at_run p start =
      ap (lexemes_at p start) b.whole ∙ skip_blanks p start b.front (run ++ behind) b.blanks

  pub found_first : is_mark run ≡ false → FirstRun text run behind
  found_first e = record {
    front = b.front;
    whole = b.whole;
    some = b.some;
    first = λ p start. at_run p start
        ∙ token_first (walk p b.front) (start + length b.front) run behind b.some b.none b.ends e;
    ends = b.ends;
  }

  pub behind_comment : (line : List ℕ) (next : Option (Bor (List ℕ))) (rest : List ℕ)
      → is_mark run ≡ true → FirstLine behind line next → IsLeft next rest → Behind text rest
  behind_comment line next rest e f left =
      behind_more text (run ++ behind) rest
      (record { front = b.front; whole = b.whole; same = at_run })
      (comment_first run line behind rest next b.none b.ends e f left)

pub found_behind : (text rest run behind : List ℕ) → Behind text rest → FirstRun rest run behind
    → FirstRun text run behind
found_behind text rest run behind a f = record {
  front = a.front ++ f.front;
  whole = a.whole ∙ ap (λ (l : List ℕ). a.front ++ l) f.whole
      ∙ sym (append_assoc a.front f.front (run ++ behind));
  some = f.some;
  first = λ p start.
      a.same p start ∙ f.first (walk p a.front) (start + length a.front)
      ∙ ap₂ (λ (q : Place) (n : ℕ). record { place = q; start = n; text = run }
      ∷ lexemes_at (walk q run) (n + length run) behind) (sym (walk_append p a.front f.front))
      (omega (arith, length-append a.front f.front));
  ends = f.ends;
}

-- ---- a run is found

-- a text of only blanks has no token
pub no_token : (text : List ℕ) → position (λ c. not (is_blank c)) text ≡ None
    → (p : Place) (start : ℕ) → lexemes_at p start text ≡ []
no_token text e p start =
    let all : length text ≤ position_or_len (λ c. not (is_blank c)) text =
    grind (arith, common_steps) in
    let blanks : All (λ c. is_blank c ≡ true) text = λ k d m. not-false (is_blank (get_or text k d))
    (fails_before_first (λ c. not (is_blank c)) text k d (omega (arith, m, all))) in
    ap (lexemes_at p start) (sym (append-nil text)) ∙ skip_blanks p start text [] blanks

module _ (text rest : List ℕ) (start : ℕ)
    (found : position (λ c. not (is_blank c)) text ≡ Some start) (is : rest ≡ drop start text) where
  at : (start < length text) × (not (is_blank (get_or text start 0)) ≡ true)
      × ((k : ℕ) → k < start → not (is_blank (get_or text k 0)) ≡ false)
  at = position-Some (λ c. not (is_blank c)) text start 0 found

  before : All (λ c. is_blank c ≡ true) (take start text)
  before = λ k d m.
      ap is_blank (get_or-take start text k d (omega (arith, m, length-take start text))
      ∙ get_or_default text k d 0 (omega (arith, m, length-take start text, at.0)))
      ∙ not-false (is_blank (get_or text k 0)) (at.2 k (omega (arith, m, length-take start text)))

  begun : (0 < length rest) × (is_blank (get_or rest 0 0) ≡ false)
  begun = (
    omega (arith, ap length is, length-drop start text, at.0),
    ap is_blank (ap (λ l. get_or l 0 0) is ∙ get_or-drop start text 0 0
        ∙ ap (λ i. get_or text i 0) (add-zero start))
        ∙ not-true (is_blank (get_or text start 0)) at.1,
  )

  whole : text ≡ take start text ++ rest
  whole = sym (take-append-drop start text) ∙ ap (λ l. take start text ++ l) (sym is)

  -- which ends at a blank
  pub begins_blank : (end : ℕ) (run behind : List ℕ) → position is_blank rest ≡ Some end
      → run ≡ take end rest → behind ≡ drop end rest → Begins text run behind
  begins_blank end run behind e r b =
      let there = position-Some is_blank rest end 0 e in
      record {
        front = take start text;
        blanks = before;
        whole = whole ∙ ap (λ l. take start text ++ l) (sym (take-append-drop end rest)
            ∙ sym (ap₂ (λ xs ys. xs ++ ys) r b));
        some = omega (arith, ap length r, length-take end rest, there.0, positive end there.1);
        none = subst (All (λ c. is_blank c ≡ false)) (sym r)
            (λ k d m. ap is_blank (get_or-take end rest k d (omega (arith, m, length-take end rest))
            ∙ get_or_default rest k d 0 (omega (arith, m, length-take end rest)))
            ∙ there.2 k (omega (arith, m, length-take end rest)));
        ends =
            inr (get_or rest end 0, drop (end + 1) rest, b ∙ drop_more rest end 0 there.0, there.1);
      }
    where
      positive : (end : ℕ) → is_blank (get_or rest end 0) ≡ true → 0 < end
      positive zero blank = absurd (let other = begun.1 in cc)
      positive (suc end) blank = omega arith

  -- which ends with the text
  pub begins_last : (run behind : List ℕ) → position is_blank rest ≡ None
      → run ≡ take (length rest) rest → behind ≡ drop (length rest) rest → Begins text run behind
  begins_last run behind e r b =
      let all_of : run ≡ rest = r ∙ take_all (length rest) rest (omega arith) in
      let all : length rest ≤ position_or_len is_blank rest = grind (arith, common_steps) in
      record {
        front = take start text;
        blanks = before;
        whole = whole ∙ ap (λ l. take start text ++ l) (sym (take-append-drop (length rest) rest)
            ∙ sym (ap₂ (λ xs ys. xs ++ ys) r b));
        some = omega (arith, ap length all_of, begun.0);
        none = subst (All (λ c. is_blank c ≡ false)) (sym all_of)
            (λ k d m. fails_before_first is_blank rest k d (omega (arith, m, all)));
        ends = inl (b ∙ drop_all (length rest) rest (omega arith));
      }

-- ---- what tokens are written as, wherever they stand

same_runs : (p q : Place) (m n : ℕ) (runs : List (List ℕ))
    → map (λ l. l.text) (run_lexemes p m runs) ≡ map (λ l. l.text) (run_lexemes q n runs)
same_runs p q m n [] = refl
same_runs p q m n ([] ∷ runs) = same_runs (columns_on p 1) (columns_on q 1) (m + 1) (n + 1) runs
same_runs p q m n ((c ∷ cs) ∷ runs) =
    by (is_mark (c ∷ cs)) _ _ (same_runs (columns_on p (count_by begins_character (c ∷ cs) + 1))
    (columns_on q (count_by begins_character (c ∷ cs) + 1)) (m + length (c ∷ cs) + 1)
    (n + length (c ∷ cs) + 1) runs)
  where
    by : (b : Bool) (xs ys : List Lexeme) → map (λ l. l.text) xs ≡ map (λ l. l.text) ys
        → map (λ l. l.text) (if b then [] else record { place = p; start = m; text = c ∷ cs } ∷ xs)
        ≡ map (λ l. l.text) (if b then [] else record { place = q; start = n; text = c ∷ cs } ∷ ys)
    by true xs ys e = refl
    by false xs ys e = ap (λ ts. (c ∷ cs) ∷ ts) e

same_lines : (p q : Place) (m n : ℕ) (lines : List (List ℕ))
    → map (λ l. l.text) (left_lexemes p m lines) ≡ map (λ l. l.text) (left_lexemes q n lines)
same_lines p q m n [] = refl
same_lines p q m n (bytes ∷ lines) =
    map-append (λ l. l.text) (run_lexemes p m (slice_split is_blank bytes))
    (left_lexemes (next_line p) (m + length bytes + 1) lines)
    ∙ ap₂ (λ xs ys. xs ++ ys) (same_runs p q m n (slice_split is_blank bytes))
    (same_lines (next_line p) (next_line q) (m + length bytes + 1) (n + length bytes + 1) lines)
    ∙ sym (map-append (λ l. l.text) (run_lexemes q n (slice_split is_blank bytes))
    (left_lexemes (next_line q) (n + length bytes + 1) lines))

pub texts_at : (p : Place) (start : ℕ) (text : List ℕ)
    → texts_of text ≡ map (λ l. l.text) (lexemes_at p start text)
unfolding texts_of
texts_at p start text =
    ap (map (λ l. l.text)) (lexemes_are text)
    ∙ same_lines (record { line = 1; column = 1 }) p 0 start (lines_of text)

-- the texts of the tokens that are left behind the next one
pub texts_first : (text run behind : List ℕ) → FirstRun text run behind
    → texts_of text ≡ run ∷ texts_of behind
texts_first text run behind f =
    texts_at (record { line = 1; column = 1 }) 0 text
    ∙ ap (map (λ l. l.text)) (f.first (record { line = 1; column = 1 }) 0)
    ∙ ap (λ ts. run ∷ ts) (sym (texts_at (walk (walk (record { line = 1; column = 1 }) f.front) run)
    (0 + length f.front + length run) behind))

pub texts_none : (text : List ℕ) → ((p : Place) (start : ℕ) → lexemes_at p start text ≡ [])
    → texts_of text ≡ []
texts_none text none =
    texts_at (record { line = 1; column = 1 }) 0 text
    ∙ ap (map (λ l. l.text)) (none (record { line = 1; column = 1 }) 0)

-- a blank behind a run changes no text
pub blank_behind : (behind : List ℕ) (c : ℕ) (rest : List ℕ) → BehindRun behind → behind ≡ c ∷ rest
    → texts_of rest ≡ texts_of behind
blank_behind behind c rest (inl none) e = absurd (cc)
blank_behind behind c rest (inr (d, more, is, blank)) e =
    let same : d ∷ more ≡ c ∷ rest = sym is ∙ e in
    let first : is_blank c ≡ true = cc in
    texts_at (step (record { line = 1; column = 1 }) c) 1 rest
    ∙ ap (map (λ l. l.text)) (sym (skip_blank (record { line = 1; column = 1 }) 0 c rest first))
    ∙ sym (texts_at (record { line = 1; column = 1 }) 0 (c ∷ rest)) ∙ ap texts_of (sym e)

-- how many there are
few_runs : (p : Place) (start : ℕ) (runs : List (List ℕ))
    → length (run_lexemes p start runs) ≤ span runs
few_runs p start [] = omega arith
few_runs p start ([] ∷ runs) = omega (arith, few_runs (columns_on p 1) (start + 1) runs)
few_runs p start ((c ∷ cs) ∷ runs) =
    by (is_mark (c ∷ cs)) _ (few_runs (columns_on p (count_by begins_character (c ∷ cs) + 1))
    (start + length (c ∷ cs) + 1) runs)
  where
    by : (b : Bool) (ls : List Lexeme) → length ls ≤ span runs → length (if b then []
        else record { place = p; start = start; text = c ∷ cs } ∷ ls) ≤ span ((c ∷ cs) ∷ runs)
    by true ls few = omega arith
    by false ls few = omega (arith, few)

few_lines : (p : Place) (start : ℕ) (lines : List (List ℕ))
    → length (left_lexemes p start lines) ≤ span lines
few_lines p start [] = omega arith
few_lines p start (bytes ∷ lines) =
    omega (
      arith,
      length-append (run_lexemes p start (slice_split is_blank bytes))
          (left_lexemes (next_line p) (start + length bytes + 1) lines),
      few_runs p start (slice_split is_blank bytes),
      span_split is_blank bytes,
      few_lines (next_line p) (start + length bytes + 1) lines,
    )

pub few_texts : (text : List ℕ) → length (texts_of text) ≤ length text + 1
few_texts text =
    omega (
      arith,
      ap length (texts_at (record { line = 1; column = 1 }) 0 text),
      length-map (lexemes_at (record { line = 1; column = 1 }) 0 text) (λ l. l.text),
      few_lines (record { line = 1; column = 1 }) 0 (lines_of text),
      span_split (λ byte. byte == 10) text,
    )

-- ---- the end of a text

-- the end of the last of some lines, the first of which started before
abbrev end_behind : ℕ → ℕ → List (List ℕ) → Place
end_behind line past [] = record { line = line; column = 1 }
end_behind line past (bytes ∷ []) =
    record { line = line; column = 1 + (past + count_by begins_character bytes) }
end_behind line past (bytes ∷ next ∷ lines) = end_from (line + 1) (next ∷ lines)

end_first : (line : ℕ) (lines : List (List ℕ)) → end_behind line 0 lines ≡ end_from line lines
end_first line [] = refl
end_first line (bytes ∷ []) = same_place line _ _ (omega arith)
end_first line (bytes ∷ next ∷ lines) = refl

end_longer : (line past c : ℕ) (first : List ℕ) (others : List (List ℕ))
    → end_behind line (past + (if begins_character c then 1 else 0)) (first ∷ others)
    ≡ end_behind line past ((c ∷ first) ∷ others)
end_longer line past c first [] = same_place line _ _ (omega (arith, count_more c first))
end_longer line past c first (next ∷ others) = refl

walk_end : (line past : ℕ) (text : List ℕ)
    → walk (record { line = line; column = 1 + past }) text ≡ end_behind line past (lines_of text)
walk_end line past [] = same_place line _ _ (omega arith)
walk_end line past (c ∷ text) =
    by (c == 10) refl (first_of (λ byte. byte == 10) text) (walk_end (line + 1) 0 text)
    (walk_end line (past + (if begins_character c then 1 else 0)) text)
  where
    by : (b : Bool) → (c == 10) ≡ b → First (λ byte. byte == 10) text
        → walk (record { line = line + 1; column = 1 + 0 }) text
        ≡ end_behind (line + 1) 0 (lines_of text)
        → walk (record { line = line; column = 1 + (past + (if begins_character c then 1 else 0)) })
        text ≡ end_behind line (past + (if begins_character c then 1 else 0)) (lines_of text)
        → walk (step (record { line = line; column = 1 + past }) c) text
        ≡ end_behind line past (lines_of (c ∷ text))
    by true e f down on =
        ap (λ (b : Bool). walk (if b then record { line = line + 1; column = 1 } else
        record { line = line; column = 1 + past + (if begins_character c then 1 else 0) }) text) e
        ∙ down ∙ end_first (line + 1) (lines_of text) ∙ ap (end_from (line + 1)) f.parts
        ∙ ap (λ lines. end_behind line past ([] ∷ lines)) (sym f.parts)
        ∙ ap (end_behind line past) (sym (slice_split-cons_yes (λ byte. byte == 10) c text e))
    by false e f down on =
        ap (λ (q : Place). walk q text) (in_line (record { line = line; column = 1 + past }) c e
        ∙ same_place line _ (1 + (past + (if begins_character c then 1 else 0))) (omega arith))
        ∙ on ∙ ap (end_behind line (past + (if begins_character c then 1 else 0))) f.parts
        ∙ end_longer line past c f.first f.others
        ∙ ap (end_behind line past)
        (sym (slice_split-cons_no (λ byte. byte == 10) c text e ∙ ap (onto_first c) f.parts))

pub end_walked : (text : List ℕ) → walk (record { line = 1; column = 1 }) text ≡ end_of text
unfolding end_of
end_walked text = walk_end 1 0 text ∙ end_first 1 (lines_of text)

-- ---- all tokens

-- the text was walked over up to this place, and these tokens were found there
pub record HasWalked (text : List ℕ) (line column : ℕ) (rest : List ℕ)
    (tokens : List Token) : Type 0 where
  pub front : List ℕ
  pub whole : text ≡ front ++ rest
  pub found : map token_of (lexemes text) ≡ tokens
      ++ map token_of (lexemes_at (record { line = line; column = column }) (length front) rest)
  pub low_line : line + length rest ≤ length text + 1
  pub low_column : column + length rest ≤ length text + 1

pub walked_nothing : (text : List ℕ) → HasWalked text 1 1 text []
walked_nothing text = record {
  front = [];
  whole = refl;
  found = ap (map token_of) (lexemes_are text);
  low_line = omega arith;
  low_column = omega arith;
}

module _ (text rest run behind : List ℕ) (line column : ℕ) (tokens : List Token)
    (w : HasWalked text line column rest tokens) (f : FirstRun rest run behind) where
  pub lengths : length rest ≡ length f.front + (length run + length behind)
  lengths =
      ap length f.whole ∙ length-append f.front (run ++ behind)
      ∙ ap (λ n. length f.front + n) (length-append run behind)

  pub front_is : (front : List ℕ) → front ≡ take (length rest - length behind - length run) rest
      → front ≡ f.front
  front_is front e =
      let n : length rest - length behind - length run ≡ length f.front = omega (arith, lengths) in
      e ∙ ap₂ (λ (k : ℕ) (l : List ℕ). take k l) n f.whole
      ∙ take-append_seam f.front (run ++ behind)

  pub offset : length text ≡ length w.front + length rest
  offset = ap length w.whole ∙ length-append w.front rest

  pub walked_more : (at there : Place) (token : Token) (more : List Token)
      → at ≡ walk (record { line = line; column = column }) f.front → there ≡ walk at run
      → token ≡ record {
        start = length text - length behind - length run;
        end = length text - length behind;
        line = at.line;
        column = at.column;
      } → more ≡ tokens ++ token ∷ [] → HasWalked text there.line there.column behind more
  walked_more at there token more a t is m =
      let p : Place = record { line = line; column = column } in
      let low = walk_low p f.front in
      let low' = walk_low at run in
      let al : at.line ≡ (walk p f.front).line = ap (λ (q : Place). q.line) a in
      let ac : at.column ≡ (walk p f.front).column = ap (λ (q : Place). q.column) a in
      let tl : there.line ≡ (walk at run).line = ap (λ (q : Place). q.line) t in
      let tc : there.column ≡ (walk at run).column = ap (λ (q : Place). q.column) t in
      let here : token_of
      (record { place = at; start = length w.front + length f.front; text = run }) ≡ token =
      ap₂ {C = Token}
      (λ (s e : ℕ). record { start = s; end = e; line = at.line; column = at.column })
      (omega (arith, lengths, offset)) (omega (arith, lengths, offset)) ∙ sym is in
      record {
        front = w.front ++ (f.front ++ run);
        whole = w.whole
            ∙ ap (λ (l : List ℕ). w.front ++ l) (f.whole ∙ sym (append_assoc f.front run behind))
            ∙ sym (append_assoc w.front (f.front ++ run) behind);
        found =
            w.found
            ∙ ap (λ (ls : List Lexeme). tokens ++ map token_of ls) (f.first p (length w.front))
            ∙ ap (λ (q : Place). tokens ++ token_of (record
            { place = q; start = length w.front + length f.front; text = run }) ∷ map token_of
            (lexemes_at (walk q run) (length w.front + length f.front + length run) behind))
            (sym a)
            ∙ ap₂ (λ (x : Token) (q : Place). tokens ++ x ∷ map token_of
            (lexemes_at q (length w.front + length f.front + length run) behind)) here (sym t)
            ∙ sym (append_assoc tokens (token ∷ []) (map token_of
            (lexemes_at there (length w.front + length f.front + length run) behind)))
            ∙ ap₂ (λ (ts : List Token) (n : ℕ). ts ++ map token_of (lexemes_at there n behind))
            (sym m)
            (omega (arith, length-append w.front (f.front ++ run), length-append f.front run));
        low_line = omega (arith, w.low_line, lengths, low.0, low'.0, al, tl);
        low_column = omega (arith, w.low_column, lengths, low.1, low'.1, ac, tc);
      }

pub walked_all : (text rest : List ℕ) (line column : ℕ) (tokens : List Token)
    → HasWalked text line column rest tokens
    → ((p : Place) (start : ℕ) → lexemes_at p start rest ≡ [])
    → tokens ≡ map token_of (lexemes text)
walked_all text rest line column tokens w none =
    sym (append-nil tokens) ∙ ap (λ (ls : List Lexeme). tokens ++ map token_of ls)
    (sym (none (record { line = line; column = column }) (length w.front))) ∙ sym w.found
