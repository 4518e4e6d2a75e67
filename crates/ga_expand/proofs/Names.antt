-- Names of constants, and constants in a map.
use Rattle.std.proofs.Common.{◌≡◌, ◌<◌, ℕ, zero, suc, Bool, true, false, List, [], ◌∷◌, ◌++◌, Some, None, refl, ap, arith, lit<}
use Rattle.std.specs.Prelude.{◌&&◌, nat_lt, length, if◌then◌else◌}
use Rattle.std.specs.List.{list_all}
use Rattle.std.specs.Map.{lookup}
use Rattle.std.specs.Str.{IsAscii, IsUtf8, bytes_eq}
use Rattle.std.proofs.lemmas.Bool.{and_parts}
use Rattle.std.proofs.lemmas.Bool.Decides.{nat_tests}
use Rattle.std.proofs.lemmas.Str.{IsUtf8-from_ascii}
use Rattle.indexmap.specs.IndexMap.{insert_entry}
use Rattle.ga_pack.specs.Model.Token.{is_letter, is_letter_or_digit, is_name}
use Rattle.ga_source.specs.Name.{NameText}
use Rattle.ga_expand.specs.declared.value.Operand.{Operand}
use Rattle.ga_expand.specs.Constants.{constant_of}
use Rattle.ga_expand.specs.inner.Constants.{constants_in}

-- ---- a name is text

letter_below : (c : ℕ) → is_letter_or_digit c ≡ true → c < 128
letter_below c e = grind (arith, nat_tests)

letters_below : (text : List ℕ) → list_all is_letter_or_digit text ≡ true → IsAscii text
letters_below [] e i = lit< tt
letters_below (c ∷ cs) e zero =
    letter_below c (and_parts (is_letter_or_digit c) (list_all is_letter_or_digit cs) e).0
letters_below (c ∷ cs) e (suc i) =
    letters_below cs (and_parts (is_letter_or_digit c) (list_all is_letter_or_digit cs) e).1 i

all_letters : (text : List ℕ) → is_name text ≡ true → list_all is_letter_or_digit text ≡ true
all_letters [] e = refl
all_letters (c ∷ cs) e =
    let both =
    and_parts (is_letter c && nat_lt (length cs) 16) (list_all is_letter_or_digit cs) e in
    let first = and_parts (is_letter c) (nat_lt (length cs) 16) both.0 in
    rw (first.0, both.1) refl

pub name-IsUtf8 : (text : List ℕ) → is_name text ≡ true → IsUtf8 text
name-IsUtf8 text e = IsUtf8-from_ascii text (letters_below text (all_letters text e))

-- ---- constants in a map

pub lookup_constants : (name : List ℕ) (entries : List (NameText × Operand))
    → lookup (λ k. bytes_eq name k.bytes) entries ≡ constant_of (constants_in entries) name
lookup_constants name [] = refl
lookup_constants name (entry ∷ entries) =
    ap (λ r. if bytes_eq name entry.0.bytes then Some entry.1 else r)
    (lookup_constants name entries)

-- a constant that is new goes last
last_by : (name : NameText) (value : Operand) (entry : NameText × Operand)
    (entries : List (NameText × Operand)) (b : Bool)
    → (if b then Some entry.1 else constant_of (constants_in entries) name.bytes) ≡ None
    → (constant_of (constants_in entries) name.bytes ≡ None → constants_in
    (insert_entry (λ one other. bytes_eq one.bytes other.bytes) entries name value)
    ≡ constants_in entries ++ (name.bytes, value) ∷ [])
    → constants_in (if b then (entry.0, value) ∷ entries else entry
    ∷ insert_entry (λ one other. bytes_eq one.bytes other.bytes) entries name value)
    ≡ constants_in (entry ∷ entries) ++ (name.bytes, value) ∷ []
last_by name value entry entries true none more = absurd (cc)
last_by name value entry entries false none more =
    ap (λ r. (entry.0.bytes, entry.1) ∷ r) (more none)

pub constant_last : (name : NameText) (value : Operand) (entries : List (NameText × Operand))
    → constant_of (constants_in entries) name.bytes ≡ None
    → constants_in (insert_entry (λ one other. bytes_eq one.bytes other.bytes) entries name value)
    ≡ constants_in entries ++ (name.bytes, value) ∷ []
constant_last name value [] none = refl
constant_last name value (entry ∷ entries) none =
    last_by name value entry entries (bytes_eq name.bytes entry.0.bytes) none
    (λ more. constant_last name value entries more)
