-- Names, names before `:`, and names of nodes.
use Rattle.std.proofs.Common.{◌≡◌, ◌∙◌, ◌++◌, ◌<◌, ◌≤◌, ℕ, zero, suc, Bool, true, false, List, [], ◌∷◌, Option, Some, None, length, refl, sym, ap, arith, append_assoc, lit<, eq-eqb}
use Rattle.std.specs.Char.{is_digit}
use Rattle.std.specs.Option.{option_map, unwrap_or}
use Rattle.std.specs.Prelude.{◌==◌, ◌&&◌, nat_lt, if◌then◌else◌}
use Rattle.std.specs.List.{list_all}
use Rattle.std.specs.Str.{IsAscii, IsUtf8}
use Rattle.std.specs.Str.Parse.{digits_value}
use Rattle.std.proofs.lemmas.Bool.{and_parts, false≢true, ltb-true, ne_eqb}
use Rattle.std.proofs.lemmas.Bool.Decides.{nat_tests}
use Rattle.std.proofs.lemmas.List.{append-nil}
use Rattle.std.proofs.lemmas.Str.{IsUtf8-from_ascii}
use Rattle.ga_place.specs.Node.{is_node_name, node_named}
use Rattle.ga_pack.specs.Model.Token.{as_label, as_name, as_node, is_letter, is_letter_or_digit, is_name, label_from, meaning_at, meaning_of, label, name, node_name}

-- ---- a name and a last byte

label_from-last : (front text : List ℕ) (last : ℕ) → label_from front (text ++ last ∷ [])
    ≡ (if (last == 58) && is_name (front ++ text) then Some (label (front ++ text)) else None)
label_from-last front [] last = rw (append-nil front) refl
label_from-last front (c ∷ []) last = refl
label_from-last front (c ∷ d ∷ cs) last =
    label_from-last (front ++ c ∷ []) (d ∷ cs) last ∙ ap (λ (text : List ℕ). if (last == 58)
    && is_name text then Some (label text) else None) (append_assoc front (c ∷ []) (d ∷ cs))

-- ---- a name is text

letter_below : (c : ℕ) → is_letter_or_digit c ≡ true → c < 128
letter_below c e = grind (arith, nat_tests)

letters_below : (text : List ℕ) → list_all is_letter_or_digit text ≡ true → IsAscii text
letters_below [] e i = lit< tt
letters_below (c ∷ cs) e zero =
    letter_below c (and_parts (is_letter_or_digit c) (list_all is_letter_or_digit cs) e).0
letters_below (c ∷ cs) e (suc i) =
    letters_below cs (and_parts (is_letter_or_digit c) (list_all is_letter_or_digit cs) e).1 i

all_letters : (text : List ℕ) → is_name text ≡ true → list_all is_letter_or_digit text ≡ true
all_letters [] e = refl
all_letters (c ∷ cs) e =
    let both =
    and_parts (is_letter c && nat_lt (length cs) 16) (list_all is_letter_or_digit cs) e in
    let first = and_parts (is_letter c) (nat_lt (length cs) 16) both.0 in
    rw (first.0, both.1) refl

pub name-IsUtf8 : (text : List ℕ) → is_name text ≡ true → IsUtf8 text
name-IsUtf8 text e = IsUtf8-from_ascii text (letters_below text (all_letters text e))

-- a name is no longer than sixteen bytes
pub name_fits : (text : List ℕ) → is_name text ≡ true → length text ≤ 16
name_fits [] e = absurd (false≢true e)
name_fits (c ∷ cs) e =
    let both =
    and_parts (is_letter c && nat_lt (length cs) 16) (list_all is_letter_or_digit cs) e in
    let few = ltb-true (length cs) 16 (and_parts (is_letter c) (nat_lt (length cs) 16) both.0).1 in
    omega (arith, few)

-- a text that is a name
pub name_read : (text same : List ℕ) → is_name text ≡ true → same ≡ text
    → Some (name same) ≡ as_name text
name_read text same is e = rw is (ap (λ (t : List ℕ). Some (name t)) e)

module _ {N : Type 0} (bytes : N → List ℕ) where
  same_name : (b : Bool) (front : List ℕ) (read : Option N)
      → option_map (λ t. name (bytes t)) read ≡ (if b then Some (name front) else None)
      → option_map (λ t. label (bytes t)) read ≡ (if b then Some (label front) else None)
  same_name true front None e = absurd (cc)
  same_name true front (Some t) e = cc
  same_name false front None e = refl
  same_name false front (Some t) e = absurd (cc)

  -- the label that a name before `:` is
  pub label_read : (text front : List ℕ) (last : ℕ) (read : Option N) → text ≡ front ++ last ∷ []
      → last ≡ 58 → option_map (λ t. name (bytes t)) read ≡ as_name front
      → option_map (λ t. label (bytes t)) read ≡ as_label text
  label_read text front last read cut colon e =
      same_name (is_name front) front read e
      ∙ sym (ap (label_from []) cut ∙ label_from-last [] front last ∙ ap (λ (t : Bool). if t
      && is_name front then Some (label front) else None) (eq-eqb last 58 colon))

pub no_label : (text front : List ℕ) (last : ℕ) → text ≡ front ++ last ∷ [] → (last ≡ 58 → ⊥)
    → None ≡ as_label text
no_label text front last cut other =
    sym (ap (label_from []) cut ∙ label_from-last [] front last ∙ ap
    (λ (t : Bool). if t && is_name front then Some (label front) else None) (ne_eqb last 58 other))

-- ---- names of nodes

-- a text behind `node` that names a node
pub node_read : (text : List ℕ) → option_map node_name (node_named text) ≡ as_node text
node_read text =
    by ((length text == 3) && list_all (λ c. is_digit c 10) text
    && is_node_name (digits_value 10 text)) (digits_value 10 text)
  where
    by : (t : Bool) (v : ℕ) → option_map node_name (if t then Some v else None)
        ≡ (if t then Some (node_name v) else None)
    by true v = refl
    by false v = refl

-- and one that is elsewhere, or names none
pub no_node_read : (is_behind : Bool) (text : List ℕ) → (is_behind ≡ true → node_named text ≡ None)
    → meaning_at is_behind text ≡ meaning_of text
unfolding meaning_at
no_node_read true text none =
    ap (λ o. unwrap_or o (meaning_of text))
    (sym (node_read text) ∙ ap (option_map node_name) (none refl))
no_node_read false text none = refl
