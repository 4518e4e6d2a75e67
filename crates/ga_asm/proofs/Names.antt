-- A set of names, and whether a name is among them.
use Rattle.std.proofs.Common.{◌≡◌, ◌∙◌, ℕ, ◌+◌, ◌<◌, Bool, true, false, List, [], ◌∷◌, ◌++◌, get_or, length, map, refl, sym, ap}
use Rattle.std.proofs.Common.{take as first}
use Rattle.std.proofs.Math.Bool.{or-false, or-true}
use Rattle.std.proofs.lemmas.List.{map-append, take_more}
use Rattle.std.proofs.lemmas.List.Folds.{list_any-append}
use Rattle.std.proofs.lemmas.Slice.Eq.{bytes_eq-Decides}
use Rattle.std.specs.Prelude.{◌||◌, if◌then◌else◌}
use Rattle.std.specs.List.{list_any}
use Rattle.std.specs.Str.{bytes_eq}
use Rattle.ga_pack.specs.Model.Source.{is_among}
use Rattle.ga_source.proofs.ParserSteps.{same_any}
use Rattle.ga_asm.specs.inner.Layout.{AreSameNames}

-- a name that is among names adds none
known_more : (name key : List ℕ) (keys : List (List ℕ)) (b : Bool) → bytes_eq name key ≡ b
    → is_among key keys ≡ true → is_among name keys ≡ (is_among name keys || (b || false))
known_more name key keys false e known = sym (or-false (is_among name keys))
known_more name key keys true e known =
    ap (λ t. is_among t keys) ((bytes_eq-Decides name key).0 e) ∙ known
    ∙ sym (or-true (is_among name keys))

module _ {N : Type 0} (bytes : N → List ℕ)
    (same : N → N → Bool) (is_same : (x y : N) → same x y ≡ bytes_eq (bytes x) (bytes y)) where
  inserted_by : (name : List ℕ) (keys : List N) (key : N) (b : Bool) → list_any (same key) keys ≡ b
      → is_among name (map bytes (if b then keys else keys ++ key ∷ []))
      ≡ (is_among name (map bytes keys) || (bytes_eq name (bytes key) || false))
  inserted_by name keys key true known =
      known_more name (bytes key) (map bytes keys) (bytes_eq name (bytes key)) refl
      (sym (same_any bytes same is_same key keys) ∙ known)
  inserted_by name keys key false known =
      ap (is_among name) (map-append bytes keys (key ∷ []))
      ∙ list_any-append (bytes_eq name) (map bytes keys) (bytes key ∷ [])

  -- the names of the labels up to the next one
  pub names_next : (labels : List N) (i : ℕ) (key : N) (keys new : List N) → i < length labels
      → key ≡ get_or labels i key → AreSameNames (map bytes keys) (map bytes (first i labels))
      → new ≡ (if list_any (same key) keys then keys else keys ++ key ∷ [])
      → AreSameNames (map bytes new) (map bytes (first (i + 1) labels))
  names_next labels i key keys new within is before inserted name =
      ap (λ t. is_among name (map bytes t)) inserted
      ∙ inserted_by name keys key (list_any (same key) keys) refl
      ∙ ap (λ t. t || (bytes_eq name (bytes key) || false)) (before name)
      ∙ sym
      (ap (λ t. is_among name (map bytes t))
      (take_more labels i key within ∙ ap (λ t. first i labels ++ t ∷ []) (sym is))
      ∙ ap (is_among name) (map-append bytes (first i labels) (key ∷ []))
      ∙ list_any-append (bytes_eq name) (map bytes (first i labels)) (bytes key ∷ []))
