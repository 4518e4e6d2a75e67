-- Lists, one element after another.
use Rattle.std.proofs.Common.{◌≡◌, ◌∙◌, ◌+◌, ◌<◌, ◌≤◌, ◌++◌, ℕ, suc, Bool, List, [], ◌∷◌, Option, Some, None, true, false, Bor, length, map, get_or, drop, take, not, refl, sym, ap, add-one, append-nil, append_assoc, arith, if◌then◌else◌}
use Rattle.std.specs.Prelude.{◌==◌, ◌&&◌, slice_get}
use Rattle.std.specs.List.{find, list_any, position, prefix_len}
use Rattle.std.specs.Option.{option_and_then, option_map}
use Rattle.std.specs.Str.{bytes_eq}
use Rattle.std.proofs.Math.Seq.{drop-cons}
use Rattle.std.proofs.lemmas.List.{drop_all, get_or-map, length-map, take_more}
use Rattle.ga_pack.specs.Model.Text.{lexemes, texts_of}
use Rattle.ga_source.specs.Token.{place_of, token_of}
use Rattle.ga_source.specs.declared.token.Place.{Place}
use Rattle.ga_source.specs.declared.token.Token.{Token}
use Rattle.ga_expand.specs.Constants.{is_among}
use Rattle.ga_expand.specs.Texts.{is_at}
use Rattle.ga_hints.specs.Names.{names_from, word_at}

abbrev pub now : Bor (List ℕ) → List ℕ
now text = text.now

-- ---- a list that is read from the front

-- one more element was read, each seen through a function
pub more_read : {X Y : Type 0} (f : X → Y) (xs : List X) (index : ℕ) (other : X) (read new : List Y)
    → index < length xs → read ≡ take index (map f xs)
    → new ≡ read ++ f (get_or xs index other) ∷ []
    → new ≡ take (index + 1) (map f xs)
more_read f xs index other read new inside so_far pushed =
    let within : index < length (map f xs) = omega (arith, inside, length-map xs f) in
    let here = get_or-map f xs index other (f other) inside in
    pushed ∙ ap (λ ys. ys ++ f (get_or xs index other) ∷ []) so_far
    ∙ ap (λ y. take index (map f xs) ++ y ∷ []) (sym here)
    ∙ sym (take_more (map f xs) index (f other) within)

-- what is left at an index
pub left_at : {X Y : Type 0} (f : X → Y) (xs : List X) (index : ℕ) (other : X)
    → index < length xs
    → drop index (map f xs) ≡ f (get_or xs index other) ∷ drop (index + 1) (map f xs)
left_at {Y = Y} f xs index other inside =
    let within : index < length (map f xs) = omega (arith, inside, length-map xs f) in
    drop-cons (map f xs) index (f other) within
    ∙ ap (λ (y : Y). y ∷ drop (suc index) (map f xs)) (get_or-map f xs index other (f other) inside)
    ∙ ap (λ (i : ℕ). f (get_or xs index other) ∷ drop i (map f xs)) (sym (add-one index))

-- nothing is left behind the end
pub none_left : {X Y : Type 0} (f : X → Y) (xs : List X) (index : ℕ) → length xs ≤ index
    → drop index (map f xs) ≡ []
none_left f xs index past = drop_all index (map f xs) (omega (arith, length-map xs f, past))

-- ---- names

-- one more token
pub names_more : (word : List ℕ) (tokens : List (Bor (List ℕ))) (index : ℕ)
    (other : Bor (List ℕ)) (behind next : Bool) (names new all : List (List ℕ))
    → index < length tokens
    → names ++ names_from word behind (drop index (map now tokens)) ≡ all
    → new ≡ names ++ (if behind then (get_or tokens index other).now ∷ [] else [])
    → next ≡ bytes_eq (get_or tokens index other).now word
    → new ++ names_from word next (drop (index + 1) (map now tokens)) ≡ all
unfolding names_from
names_more word tokens index other behind next names new all inside so_far pushed is =
    let token = (get_or tokens index other).now in
    let rest = λ (b : Bool). names_from word b (drop (index + 1) (map now tokens)) in
    let first : List (List ℕ) = if behind then token ∷ [] else [] in
    ap (λ ns. ns ++ rest next) pushed
    ∙ append_assoc names first (rest next)
    ∙ ap (λ (b : Bool). names ++ (first ++ rest b)) is
    ∙ ap (λ left. names ++ names_from word behind left)
    (sym (left_at now tokens index other inside))
    ∙ so_far

-- no token is left
pub names_all : (word : List ℕ) (tokens : List (Bor (List ℕ))) (index : ℕ) (behind : Bool)
    (names all : List (List ℕ)) → length tokens ≤ index
    → names ++ names_from word behind (drop index (map now tokens)) ≡ all → names ≡ all
unfolding names_from
names_all word tokens index behind names all past so_far =
    sym (append-nil names)
    ∙ ap (λ left. names ++ names_from word behind left) (sym (none_left now tokens index past))
    ∙ so_far

-- ---- the token at a place

module _ {X Y : Type 0} (f : X → Y) (p : Y → Bool) where
  prefix_map : (xs : List X) → prefix_len (λ y. not (p y)) (map f xs)
      ≡ prefix_len (λ x. not (p (f x))) xs
  prefix_map [] = refl
  prefix_map (x ∷ xs) = rw (prefix_map xs) refl

  pub position_map : (xs : List X) → position p (map f xs) ≡ position (λ x. p (f x)) xs
  position_map xs = rw (prefix_map xs, length-map xs f) refl

abbrev is_there : Place → Token → Bool
is_there place token = (token.line == place.line) && (token.column == place.column)

-- the index of the first token at a place
pub index_found : (text : List ℕ) (tokens : List Token) (place : Place) (index : Option ℕ)
    → tokens ≡ map token_of (lexemes text) → index ≡ position (is_there place) tokens
    → index ≡ position (is_at (place_of place)) (lexemes text)
index_found text tokens place index e at =
    at ∙ ap (position (is_there place)) e
    ∙ position_map token_of (is_there place) (lexemes text)

-- and the word with it
pub word_found : (text : List ℕ) (tokens : List Token) (place : Place) (index : Option ℕ)
    → tokens ≡ map token_of (lexemes text) → index ≡ position (is_there place) tokens
    → option_and_then (slice_get (texts_of text)) index ≡ word_at text (place_of place)
word_found text tokens place index e at =
    ap (option_and_then (slice_get (texts_of text))) (index_found text tokens place index e at)

-- ---- a word among names

pub among_map : (word : List ℕ) (names : List (Bor (List ℕ)))
    → is_among (map now names) word ≡ list_any (λ name. bytes_eq word name.now) names
among_map word [] = refl
among_map word (name ∷ names) = rw (among_map word names) refl

-- ---- the first name that passes a test

found_by : {X Y : Type 0} (f : X → Y) (x : X) (found : Option X) (rest : Option Y) (b : Bool)
    → option_map f found ≡ rest
    → option_map f (if b then Some x else found) ≡ (if b then Some (f x) else rest)
found_by f x found rest true same = refl
found_by f x found rest false same = same

find_map : {X Y : Type 0} (f : X → Y) (test : Y → Bool) (xs : List X)
    → option_map f (find (λ x. test (f x)) xs) ≡ find test (map f xs)
find_map f test [] = refl
find_map f test (x ∷ xs) =
    found_by f x (find (λ x. test (f x)) xs) (find test (map f xs)) (test (f x))
    (find_map f test xs)

as_it_is : {X : Type 0} (found : Option X) → option_map (λ x. x) found ≡ found
as_it_is None = refl
as_it_is (Some x) = refl

pub found_map : {X Y : Type 0} (f : X → Y) (test : Y → Bool) (xs : List X) (found : Option X)
    → option_map (λ x. x) found ≡ find (λ x. test (f x)) xs
    → option_map f found ≡ find test (map f xs)
found_map f test xs found is =
    ap (option_map f) (sym (as_it_is found) ∙ is) ∙ find_map f test xs
