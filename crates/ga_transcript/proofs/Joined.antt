-- A text of joined lines has these lines.
use Rattle.std.proofs.Common.{◌≡◌, ◌∙◌, ℕ, suc, true, false, Bool, List, [], ◌∷◌, ◌++◌, ap, append-nil, arith, length, refl, sym, subst}
use Rattle.std.specs.Prelude.{◌==◌, ◌||◌, codes, eqb, map, if◌then◌else◌}
use Rattle.std.specs.List.{All, onto_first, slice_split, starts_with}
use Rattle.std.proofs.lemmas.Bool.{eqb-true}
use Rattle.std.proofs.lemmas.List.Elements.{All-cons, All-head, All-nil, All-tail}
use Rattle.std.proofs.lemmas.List.Splits.{slice_split-cons_no, slice_split-cons_yes, slice_split_at, slice_split_none}
use Rattle.ga_debug.specs.Pieces.{pieces}
use Rattle.ga_transcript.specs.Following.{Lines}
use Rattle.ga_transcript.specs.Line.{Kind, Note, Reply, as_reply, by_kind, kind_of}
use Rattle.ga_transcript.specs.Record.{behind_ends, lines_text}
use Rattle.ga_transcript.specs.Reply.{lines_in}

-- no LF is in a line
abbrev pub IsClean : List ℕ → Type 0
IsClean line = All (λ c. (c == 10) ≡ false) line

abbrev pub AreClean : Lines → Type 0
AreClean lines = All IsClean lines

pub lines_of_text : (line : List ℕ) (lines : Lines) → IsClean line → AreClean lines
    → slice_split (λ c. c == 10) (lines_text (line ∷ lines)) ≡ line ∷ lines
lines_of_text line [] clean rest =
    ap (slice_split (λ c. c == 10)) (append-nil line) ∙ slice_split_none (λ c. c == 10) line clean
lines_of_text line (next ∷ lines) clean rest =
    slice_split_at (λ c. c == 10) line 10 (next ++ behind_ends lines) clean refl
    ∙ ap (λ ls. line ∷ ls)
    (lines_of_text next lines (All-head IsClean next lines rest) (All-tail IsClean next lines rest))

-- the lines of a text have none
onto_clean : (c : ℕ) (parts : Lines) → (c == 10) ≡ false → AreClean parts
    → AreClean (onto_first c parts)
onto_clean c [] other clean =
    All-cons IsClean (c ∷ []) [] (All-cons (λ c. (c == 10) ≡ false) c [] other
    (All-nil (λ c. (c == 10) ≡ false))) (All-nil IsClean)
onto_clean c (part ∷ parts) other clean =
    All-cons IsClean (c ∷ part) parts (All-cons (λ c. (c == 10) ≡ false) c part other
    (All-head IsClean part parts clean)) (All-tail IsClean part parts clean)

clean_by : (c : ℕ) (text : List ℕ) (ends : Bool) → (c == 10) ≡ ends
    → AreClean (slice_split (λ c. c == 10) text) → AreClean (slice_split (λ c. c == 10) (c ∷ text))
clean_by c text true e clean =
    subst AreClean (sym (slice_split-cons_yes (λ c. c == 10) c text e))
    (All-cons IsClean [] (slice_split (λ c. c == 10) text) (All-nil (λ c. (c == 10) ≡ false)) clean)
clean_by c text false e clean =
    subst AreClean (sym (slice_split-cons_no (λ c. c == 10) c text e))
    (onto_clean c (slice_split (λ c. c == 10) text) e clean)

pub split_clean : (text : List ℕ) → AreClean (slice_split (λ c. c == 10) text)
split_clean [] = All-cons IsClean [] [] (All-nil (λ c. (c == 10) ≡ false)) (All-nil IsClean)
split_clean (c ∷ text) = clean_by c text (c == 10) refl (split_clean text)

-- and neither have those of a reply
quoted_clean : (line : List ℕ) (kind : Kind) → IsClean line
    → IsClean (by_kind kind (λ command. codes ". " ++ line) (codes ". " ++ line) line)
quoted_clean line Reply clean = clean
quoted_clean line _ clean =
    All-cons (λ c. (c == 10) ≡ false) 46 (32 ∷ line) refl
    (All-cons (λ c. (c == 10) ≡ false) 32 line refl clean)

pub reply_clean : (lines : Lines) → AreClean lines → AreClean (map as_reply lines)
reply_clean [] clean = All-nil IsClean
reply_clean (line ∷ lines) clean =
    All-cons IsClean (as_reply line) (map as_reply lines)
    (quoted_clean line (kind_of line) (All-head IsClean line lines clean))
    (reply_clean lines (All-tail IsClean line lines clean))

pub lines_clean : (text : List ℕ) → AreClean (lines_in text)
lines_clean text = by (length text == 0)
  where
    by : (none : Bool) → AreClean (if none then [] else pieces 10 text)
    by true = All-nil IsClean
    by false = split_clean text

-- a line of a reply is read as one
not_empty : (n : ℕ) → (suc n == 0) ≡ false
not_empty n = by (suc n == 0) refl
  where
    by : (b : Bool) → (suc n == 0) ≡ b → (suc n == 0) ≡ false
    by true e = let none : suc n ≡ 0 = eqb-true (suc n) 0 e in absurd (omega (arith, none))
    by false e = e

quoted_is_reply : (line : List ℕ) → kind_of (codes ". " ++ line) ≡ Reply
unfolding kind_of
quoted_is_reply line =
    ap (λ b. if b || starts_with eqb (codes ". " ++ line) (codes "\\ ") then Note
    else Reply) (not_empty (suc (length line)))

read_by : (line : List ℕ) (kind : Kind) → kind_of line ≡ kind
    → kind_of (by_kind kind (λ command. codes ". " ++ line) (codes ". " ++ line) line) ≡ Reply
read_by line Reply is = is
read_by line _ is = quoted_is_reply line

pub read_as_reply : (line : List ℕ) → kind_of (as_reply line) ≡ Reply
read_as_reply line = read_by line (kind_of line) refl
