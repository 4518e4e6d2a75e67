-- One more token is written.
use Rattle.std.proofs.Common.{◌≡◌, ◌∙◌, ◌<◌, ℕ, zero, suc, true, List, [], ◌∷◌, ◌++◌, map, refl, sym, ap, subst, append-nil, append_assoc, lit<, arith}
use Rattle.std.specs.Prelude.{nat_lt}
use Rattle.std.specs.List.{list_all}
use Rattle.std.specs.Str.{IsAscii, IsUtf8}
use Rattle.std.proofs.lemmas.Bool.{and_parts, ltb-true}
use Rattle.std.proofs.lemmas.Bool.Decides.{nat_tests}
use Rattle.std.proofs.lemmas.List.{map-append}
use Rattle.std.proofs.lemmas.Str.{IsUtf8-from_ascii}
use Rattle.ga_word.specs.Text.{is_blank}
use Rattle.ga_pack.specs.Model.Text.{Place, texts_of}
use Rattle.ga_source.specs.Token.{place_of}
use Rattle.ga_source.specs.declared.token.Place as here
use Rattle.ga_expand.specs.declared.writing.Writer.{Writer}
use Rattle.ga_expand.specs.Expanding.{Piece, is_ascii}
use Rattle.ga_expand.specs.inner.Plain.{is_token, is_written}
use Rattle.ga_expand.specs.inner.Writing.{HasAdded, HasAddedAll, IsSeparated, Written}
use Rattle.ga_expand.proofs.TokenTexts.{texts_of-nothing, token_texts}

-- ---- the tokens

abbrev written_texts : List Piece → List (List ℕ)
written_texts pieces = map (λ piece. piece.text) pieces

abbrev written_places : List Piece → List Place
written_places pieces = map (λ piece. piece.place) pieces

-- what follows a text behind a blank is behind these tokens
abbrev IsBehind : List ℕ → List (List ℕ) → Type 0
IsBehind text texts = (c : ℕ) (rest : List ℕ) → is_blank c ≡ true
    → texts_of (text ++ c ∷ rest) ≡ texts ++ texts_of rest

behind_more : (old text : List ℕ) (c : ℕ) (texts : List (List ℕ)) → IsBehind old texts
    → is_blank c ≡ true → is_token text ≡ true
    → IsBehind ((old ++ c ∷ []) ++ text) (texts ++ text ∷ [])
behind_more old text c texts h e is d rest f =
    ap texts_of (append_assoc (old ++ c ∷ []) text (d ∷ rest)
    ∙ append_assoc old (c ∷ []) (text ++ d ∷ rest))
    ∙ h c (text ++ d ∷ rest) e
    ∙ ap (λ (t : List (List ℕ)). texts ++ t) (token_texts text d rest is f)
    ∙ sym (append_assoc texts (text ∷ []) (texts_of rest))

behind_added : (origins : List here.Place) (old separated text : List ℕ) (pieces : List Piece)
    → IsSeparated origins old separated → IsBehind old (written_texts pieces)
    → map place_of origins ≡ written_places pieces → (pieces ≡ [] → old ≡ [])
    → is_token text ≡ true → IsBehind (separated ++ text) (written_texts pieces ++ text ∷ [])
behind_added [] old separated text [] s h places first is d rest f =
    ap (λ (t : List ℕ). texts_of ((t ++ text) ++ d ∷ rest)) (s ∙ first refl)
    ∙ token_texts text d rest is f
behind_added [] old separated text (piece ∷ pieces) s h places first is d rest f = absurd (cc)
behind_added (origin ∷ origins) old separated text pieces (c, e, blank) h places first is d rest f =
    ap (λ (t : List ℕ). texts_of ((t ++ text) ++ d ∷ rest)) e
    ∙ behind_more old text c (written_texts pieces) h blank is d rest f

-- ---- their characters

pub all_ascii : (text : List ℕ) → is_ascii text ≡ true → IsAscii text
all_ascii [] e i = lit< tt
all_ascii (c ∷ cs) e zero =
    ltb-true c 128 (and_parts (nat_lt c 128) (list_all (λ c. nat_lt c 128) cs) e).0
all_ascii (c ∷ cs) e (suc i) =
    all_ascii cs (and_parts (nat_lt c 128) (list_all (λ c. nat_lt c 128) cs) e).1 i

pub append_ascii : (xs ys : List ℕ) → IsAscii xs → IsAscii ys → IsAscii (xs ++ ys)
append_ascii [] ys h k i = k i
append_ascii (x ∷ xs) ys h k zero = h zero
append_ascii (x ∷ xs) ys h k (suc i) = append_ascii xs ys (λ j. h (suc j)) k i

pub one_ascii : (c : ℕ) → c < 128 → IsAscii (c ∷ [])
one_ascii c h zero = h
one_ascii c h (suc i) = lit< tt

blank_ascii : (c : ℕ) → is_blank c ≡ true → c < 128
blank_ascii c e = grind (arith, nat_tests)

separated_ascii : (origins : List here.Place) (old separated : List ℕ)
    → IsSeparated origins old separated → IsAscii old → IsAscii separated
separated_ascii [] old separated s h = subst IsAscii (sym s) h
separated_ascii (origin ∷ origins) old separated (c, e, blank) h =
    subst IsAscii (sym e) (append_ascii old (c ∷ []) h (one_ascii c (blank_ascii c blank)))

-- ---- a token behind others

some_more : (pieces : List Piece) (piece : Piece) (A : Type 0) → pieces ++ piece ∷ [] ≡ [] → A
some_more [] piece A e = absurd (cc)
some_more (first ∷ pieces) piece A e = absurd (cc)

pub added : (old new : Writer) (separated text : List ℕ) (place : here.Place)
    → IsSeparated old.origins.items old.text.items separated
    → new.text.items ≡ separated ++ text → new.origins.items ≡ old.origins.items ++ place ∷ []
    → (pieces : List Piece) → Written old pieces
    → is_written (record { text = text; place = place_of place }) ≡ true
    → Written new (pieces ++ record { text = text; place = place_of place } ∷ [])
added old new separated text place s texts places pieces w is =
    let piece : Piece = record { text = text; place = place_of place } in
    let two = and_parts (is_token text) (is_ascii text) is in
    record {
      texts = λ c rest e. ap (λ (t : List ℕ). texts_of (t ++ c ∷ rest)) texts
          ∙ behind_added old.origins.items old.text.items separated text pieces s w.texts w.places
          w.first two.0 c rest e
          ∙ ap (λ (t : List (List ℕ)). t ++ texts_of rest)
          (sym (map-append (λ (p : Piece). p.text) pieces (piece ∷ [])));
      places = ap (map place_of) places
          ∙ map-append place_of old.origins.items (place ∷ [])
          ∙ ap (λ (t : List Place). t ++ place_of place ∷ []) w.places
          ∙ sym (map-append (λ (p : Piece). p.place) pieces (piece ∷ []));
      first = λ e. some_more pieces piece (new.text.items ≡ []) e;
      ascii = subst IsAscii (sym texts) (append_ascii separated text
          (separated_ascii old.origins.items old.text.items separated s w.ascii)
          (all_ascii text two.1));
    }

pub none_added : (writer : Writer) → HasAddedAll writer writer []
none_added writer pieces w all = subst (Written writer) (sym (append-nil pieces)) w

-- a token, and then others
pub then_all : (before between after : Writer) (piece : Piece) (others : List Piece)
    → HasAdded before between piece → HasAddedAll between after others
    → HasAddedAll before after (piece ∷ others)
then_all before between after piece others one more pieces w all =
    let two = and_parts (is_written piece) (list_all is_written others) all in
    subst (Written after) (append_assoc pieces (piece ∷ []) others)
    (more (pieces ++ piece ∷ []) (one pieces w two.0) two.1)

-- ---- the text of a writer that has written all

pub finished_ascii : (old new : List ℕ) → IsAscii old → new ≡ old ++ 10 ∷ [] → IsUtf8 new
finished_ascii old new h e =
    IsUtf8-from_ascii new
    (subst IsAscii (sym e) (append_ascii old (10 ∷ []) h (one_ascii 10 (lit< tt))))

pub finished : (writer : Writer) (text : List ℕ) → text ≡ writer.text.items ++ 10 ∷ []
    → (pieces : List Piece) → Written writer pieces
    → (texts_of text ≡ map (λ piece. piece.text) pieces)
    × (map place_of writer.origins.items ≡ map (λ piece. piece.place) pieces)
finished writer text e pieces w = (
  ap texts_of e ∙ w.texts 10 [] refl
      ∙ ap (λ (t : List (List ℕ)). written_texts pieces ++ t) texts_of-nothing
      ∙ append-nil (written_texts pieces),
  w.places,
)
