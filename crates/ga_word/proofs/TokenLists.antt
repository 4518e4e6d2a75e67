-- How a text of tokens begins.
use Rattle.std.proofs.Common.{◌≡◌, ℕ, zero, suc, ◌+◌, ◌<◌, ◌≤◌, Bool, true, false, not, cond, List, [], ◌∷◌, length, take, drop, get_or, filter, ltb, unwrap_or, Some, None, refl, arith, sym, ap, ◌∙◌, add-zero}
use Rattle.std.proofs.lemmas.Bool.Decides.{nat_tests}
use Rattle.std.proofs.lemmas.List.{length-drop, drop_all, get_or-drop}
use Rattle.std.proofs.lemmas.List.Sums.{prefix_len-le-length}
use Rattle.std.proofs.lemmas.List.Quantifiers.{position-Some}
use Rattle.std.specs.List.{slice_split, onto_first, position, position_or_len}
use Rattle.ga_word.specs.Text.{is_blank, is_empty, tokens}

abbrev not_blank : ℕ → Bool
not_blank c = not (is_blank c)

-- cut at its first element that passes, a list's first part is what comes before
abbrev SplitsAtFirst : {X : Type 0} → (X → Bool) → List X → Type 0
SplitsAtFirst {X} p xs =
    (parts : List (List X)) × (slice_split p xs ≡ take (position_or_len p xs) xs ∷ parts)
    × (slice_split p (drop (position_or_len p xs) xs) ≡ [] ∷ parts)

splits_step : {X : Type 0} (p : X → Bool) (x : X) (xs : List X) (b : Bool) → p x ≡ b
    → SplitsAtFirst p xs → SplitsAtFirst p (x ∷ xs)
splits_step p x xs true e h = simp e (slice_split p xs, refl, refl)
splits_step p x xs false e h =
    let one_more : 1 + position_or_len p xs ≡ suc (position_or_len p xs) = omega arith in
    simp (e, one_more) (h.0, ap (onto_first x) h.1, h.2)

abbrev token_parts : List (List ℕ) → List (List ℕ)
token_parts parts = filter (λ token. not (is_empty token)) parts

splits_at_first : {X : Type 0} (p : X → Bool) (xs : List X) → SplitsAtFirst p xs
splits_at_first p [] = ([], refl, refl)
splits_at_first p (x ∷ xs) = splits_step p x xs (p x) refl (splits_at_first p xs)

skip_step : (c : ℕ) (text : List ℕ) (b : Bool) → is_blank c ≡ b
    → tokens text ≡ tokens (drop (position_or_len not_blank text) text)
    → tokens (c ∷ text) ≡ tokens (drop (position_or_len not_blank (c ∷ text)) (c ∷ text))
unfolding tokens
skip_step c text true e h =
    let one_more : 1 + position_or_len not_blank text ≡ suc (position_or_len not_blank text) =
    omega arith in
    simp (e, one_more) h
skip_step c text false e h = simp e

-- blanks in front change no token
skip_blanks : (text : List ℕ) → tokens text ≡ tokens (drop (position_or_len not_blank text) text)
skip_blanks [] = refl
skip_blanks (c ∷ text) = skip_step c text (is_blank c) refl (skip_blanks text)

is_empty-take : {X : Type 0} (n : ℕ) (xs : List X) → 0 < n → n ≤ length xs
    → is_empty (take n xs) ≡ false
is_empty-take zero xs some within = absurd (omega arith)
is_empty-take (suc n) [] some within = absurd (omega arith)
is_empty-take (suc n) (x ∷ xs) some within = refl

-- a text that begins with no blank begins with a token
token_first : (text : List ℕ) → 0 < position_or_len is_blank text → tokens text
    ≡ take (position_or_len is_blank text) text ∷ tokens (drop (position_or_len is_blank text) text)
unfolding tokens
token_first text begins =
    let h = splits_at_first is_blank text in
    let some : is_empty (take (position_or_len is_blank text) text) ≡ false =
    is_empty-take (position_or_len is_blank text) text begins
    (prefix_len-le-length not_blank text) in
    ap token_parts h.1 ∙ rw some refl
    ∙ ap (λ rest. take (position_or_len is_blank text) text ∷ rest) (sym (ap token_parts h.2))

not_blank_first : (text : List ℕ) → 0 < length text → not_blank (get_or text 0 0) ≡ true
    → 0 < position_or_len is_blank text
not_blank_first [] some h = absurd (omega arith)
not_blank_first (c ∷ text) some h = rw h (omega arith)

place_of : (m n start : ℕ) → cond (ltb m n) (Some m) None ≡ Some start → m ≡ start
place_of m n start h = grind (arith, nat_tests)

none_at_end : (m n : ℕ) → cond (ltb m n) (Some m) None ≡ None → n ≤ m
none_at_end m n h = grind (arith, nat_tests)

first_or_all : (m n : ℕ) → m ≤ n → unwrap_or (cond (ltb m n) (Some m) None) n ≡ m
first_or_all m n h = grind (arith, nat_tests)

-- how far the first part reaches
pub position_or_len-le : {X : Type 0} (p : X → Bool) (xs : List X)
    → position_or_len p xs ≤ length xs
position_or_len-le p xs = prefix_len-le-length (λ x. not (p x)) xs

pub unwrap_or-position : {X : Type 0} (p : X → Bool) (xs : List X)
    → unwrap_or (position p xs) (length xs) ≡ position_or_len p xs
unwrap_or-position p xs =
    first_or_all (position_or_len p xs) (length xs) (prefix_len-le-length (λ x. not (p x)) xs)

-- if a text has a character that is not blank, its first token begins at the first of these
pub token_at : (text rest : List ℕ) (start : ℕ) → position not_blank text ≡ Some start
    → rest ≡ drop start text → tokens text ≡ take (position_or_len is_blank rest) rest
    ∷ tokens (drop (position_or_len is_blank rest) rest)
token_at text rest start found is =
    let at = position-Some not_blank text start 0 found in
    let start_is : position_or_len not_blank text ≡ start = place_of _ _ _ found in
    let longer : 0 < length rest = rw (is, length-drop) (omega (arith, at.0)) in
    let first : not_blank (get_or rest 0 0) ≡ true = ap not_blank (ap (λ l. get_or l 0 0) is
    ∙ get_or-drop start text 0 0 ∙ ap (λ i. get_or text i 0) (add-zero start)) ∙ at.1 in
    skip_blanks text ∙ ap (λ i. tokens (drop i text)) start_is ∙ ap tokens (sym is)
    ∙ token_first rest (not_blank_first rest longer first)

-- if it has none, it has no token
pub no_token : (text : List ℕ) → position not_blank text ≡ None → tokens text ≡ []
unfolding tokens
no_token text none =
    let all : length text ≤ position_or_len not_blank text = none_at_end _ _ none in
    skip_blanks text ∙ ap tokens (drop_all (position_or_len not_blank text) text all)
