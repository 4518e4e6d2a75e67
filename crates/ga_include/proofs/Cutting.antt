-- How a text is cut at its first separator.
use Rattle.std.proofs.Common.{◌≡◌, ◌∙◌, ℕ, ◌<◌, ◌+◌, ◌==◌, ◌||◌, Bool, true, false, not, Some, None, List, [], ◌∷◌, cond, length, refl, sym, subst, arith, ap}
use Rattle.std.specs.Borrow.{Bor}
use Rattle.std.specs.List.{after_first, before_first, list_any, position_or_len, slice_split}
use Rattle.std.proofs.lemmas.List.Splits.{slice_split_first, slice_split_none}
use Rattle.std.proofs.lemmas.List.Sums.{fails_before_first}
use Rattle.std.proofs.lemmas.Str.Pattern.{IsSplitOnceResult, split_once_first}
use Rattle.ga_include.specs.IncludeLine.{is_quote, parts_at_quote}

-- a text without separator is one piece
pub no_cut : (separator : ℕ) (text : List ℕ) → separator < 128
    → IsSplitOnceResult separator text None → slice_split (λ c. c == separator) text ≡ text ∷ []
no_cut separator text ascii h =
    let none = split_once_first separator text None h ascii in
    slice_split_none (λ c. c == separator) text (λ k d within.
    fails_before_first (λ c. c == separator) text k d (subst (λ n. k < n) (sym none) within))

-- else the first piece is before the first separator
pub first_cut : (separator : ℕ) (text : List ℕ) (piece behind : Bor (List ℕ)) → separator < 128
    → IsSplitOnceResult separator text (Some (piece, behind))
    → slice_split (λ c. c == separator) text
    ≡ piece.now ∷ slice_split (λ c. c == separator) behind.now
first_cut separator text piece behind ascii h =
    let cut = split_once_first separator text (Some (piece, behind)) h ascii in
    slice_split_first (λ c. c == separator) text 0 cut.0 ∙ rw (cut.1, cut.2) refl

-- ---- whether a test passes anywhere

none_before : (b rest : Bool) (n m : ℕ) → cond (not b) (1 + n) 0 ≡ 1 + m
    → (n ≡ m → rest ≡ false) → (b || rest) ≡ false
none_before true rest n m h next = absurd (omega arith)
none_before false rest n m h next = next (omega arith)

nowhere : (p : ℕ → Bool) (text : List ℕ) → position_or_len p text ≡ length text
    → list_any p text ≡ false
nowhere p [] h = refl
nowhere p (c ∷ text) h =
    none_before (p c) (list_any p text) (position_or_len p text) (length text)
    (h ∙ (omega arith)) (nowhere p text)

some_before : (b rest : Bool) (n m : ℕ) → cond (not b) (1 + n) 0 < 1 + m
    → (n < m → rest ≡ true) → (b || rest) ≡ true
some_before true rest n m h next = refl
some_before false rest n m h next = next (omega arith)

somewhere : (p : ℕ → Bool) (text : List ℕ) → position_or_len p text < length text
    → list_any p text ≡ true
somewhere p [] h = absurd (omega arith)
somewhere p (c ∷ text) h =
    some_before (p c) (list_any p text) (position_or_len p text) (length text)
    (omega (arith, h)) (somewhere p text)

-- ---- the parts around a quote

pub no_quote : (text : List ℕ) → IsSplitOnceResult 34 text None → parts_at_quote text ≡ None
no_quote text h =
    let none = split_once_first 34 text None h (omega arith) in
    ap (λ b. cond b (Some (before_first is_quote text, after_first is_quote text)) None)
    (nowhere is_quote text none)

pub at_a_quote : (text : List ℕ) (front behind : Bor (List ℕ))
    → IsSplitOnceResult 34 text (Some (front, behind))
    → parts_at_quote text ≡ Some (front.now, behind.now)
at_a_quote text front behind h =
    let cut = split_once_first 34 text (Some (front, behind)) h (omega arith) in
    ap (λ b. cond b (Some (before_first is_quote text, after_first is_quote text)) None)
    (somewhere is_quote text cut.0)
    ∙ rw (cut.1, cut.2) refl
