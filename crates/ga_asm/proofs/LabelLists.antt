-- Labels in a map, and as the model has them.
use Rattle.std.proofs.Common.{◌≡◌, ◌≤◌, ℕ, Bool, true, false, List, [], ◌∷◌, ◌++◌, Option, Some, None, refl, ap, arith}
use Rattle.std.proofs.lemmas.Bool.{and_parts, leb-true}
use Rattle.std.specs.Prelude.{String, codes, ◌||◌, nat_le, if◌then◌else◌}
use Rattle.std.specs.Map.{lookup}
use Rattle.std.specs.Option.{is_some, unwrap_or}
use Rattle.std.specs.Str.{bytes_eq}
use Rattle.std.specs.String.{string_bytes, string_eq}
use Rattle.indexmap.specs.IndexMap.{insert_entry}
use Rattle.ga_pack.specs.Model.Layout.{Labels, address_of}
use Rattle.ga_pack.specs.Model.Source.{is_among}
use Rattle.ga_asm.specs.Image.{all_near, entry_of, labels_of}
use Rattle.ga_asm.specs.inner.Layout.{names_of}

pub lookup_labels : {A : Type 0} (name : List ℕ) (entries : List (String A × ℕ))
    → lookup (λ k. bytes_eq name (string_bytes k)) entries ≡ address_of (labels_of entries) name
lookup_labels name [] = refl
lookup_labels name (entry ∷ entries) =
    ap (λ r. if bytes_eq name (string_bytes entry.0) then Some entry.1
    else r) (lookup_labels name entries)

-- a label that is new goes last
more_by : {A : Type 0} (name : List ℕ) (key : String A) (address : ℕ)
    (entry : String A × ℕ) (entries : List (String A × ℕ)) (b c : Bool) → c ≡ b
    → (b || is_among name (names_of (labels_of entries))) ≡ false
    → (is_among name (names_of (labels_of entries)) ≡ false → labels_of
    (insert_entry string_eq entries key address) ≡ labels_of entries ++ (name, address) ∷ [])
    → labels_of (if c then (entry.0, address) ∷ entries else entry ∷ insert_entry string_eq entries
    key address) ≡ labels_of (entry ∷ entries) ++ (name, address) ∷ []
more_by name key address entry entries false false same g rest =
    ap (λ r. (string_bytes entry.0, entry.1) ∷ r) (rest g)
more_by name key address entry entries _ _ same g rest = absurd (cc)

pub labels_more : {A : Type 0} (name : List ℕ) (key : String A) (address : ℕ)
    (entries : List (String A × ℕ)) → string_bytes key ≡ name
    → is_among name (names_of (labels_of entries)) ≡ false
    → labels_of (insert_entry string_eq entries key address) ≡ labels_of entries ++ (name, address)
    ∷ []
labels_more name key address [] e h = ap (λ t. (t, address) ∷ []) e
labels_more name key address (entry ∷ entries) e h =
    more_by name key address entry entries (bytes_eq name (string_bytes entry.0))
    (bytes_eq (string_bytes key) (string_bytes entry.0))
    (ap (λ t. bytes_eq t (string_bytes entry.0)) e) h (labels_more name key address entries e)

-- a label that is found is among the names
found_by : (name : List ℕ) (label : List ℕ × ℕ) (labels : Labels) (b : Bool)
    → (is_some (address_of labels name) ≡ true → is_among name (names_of labels) ≡ true)
    → is_some (if b then Some label.1 else address_of labels name) ≡ true
    → (b || is_among name (names_of labels)) ≡ true
found_by name label labels true rest h = refl
found_by name label labels false rest h = rest h

pub found_among : (name : List ℕ) (labels : Labels) → is_some (address_of labels name) ≡ true
    → is_among name (names_of labels) ≡ true
found_among name [] h = absurd (cc)
found_among name (label ∷ labels) h =
    found_by name label labels (bytes_eq name label.0) (found_among name labels) h

-- a label that is found is near
near_by : (labels : Labels) (name : List ℕ) (address near : ℕ) (b : Bool) → near ≤ 64
    → (address_of labels name ≡ Some address → address ≤ 64)
    → (if b then Some near else address_of labels name) ≡ Some address → address ≤ 64
near_by labels name address near true h rest f = let same : near ≡ address = cc in omega arith
near_by labels name address near false h rest f = rest f

pub near_found : (labels : Labels) (name : List ℕ) (address : ℕ) → all_near labels ≡ true
    → address_of labels name ≡ Some address → address ≤ 64
near_found [] name address h e = absurd (cc)
near_found (label ∷ labels) name address h e =
    let parts = and_parts (nat_le label.1 64) (all_near labels) h in
    near_by labels name address label.1 (bytes_eq name label.0) (leb-true label.1 64 parts.0)
    (near_found labels name address parts.1) e

pub near_entry : (labels : Labels) → all_near labels ≡ true → entry_of labels ≤ 64
near_entry labels h = by (address_of labels (codes "main")) (near_found labels (codes "main"))
  where
    by : (r : Option ℕ) → ((address : ℕ) → all_near labels ≡ true → r ≡ Some address → address ≤ 64)
        → unwrap_or r 0 ≤ 64
    by None found = omega arith
    by (Some address) found = found address h refl
