-- Arrays of values that are made one by one.
use Rattle.std.proofs.Common.{◌≡◌, ◌∙◌, ◌<◌, ◌≤◌, ℕ, ◌+◌, List, [], ◌∷◌, ◌++◌, ap, append-nil, append_assoc, drop, get_or, length, map, sym}
use Rattle.std.proofs.lemmas.List.{at_drop_more, drop_all, map-append}
use Rattle.serde_json.specs.Data.{Data}

mapped : {A : Type 0} (f : A → Data) (items : List A) (index : ℕ) (default : A)
    → index < length items
    → f (get_or items index default) ∷ map f (drop (index + 1) items) ≡ map f (drop index items)
mapped f items index default within =
    sym (at_drop_more (map f) items index default within)

-- one value more, of those that are left
pub value_more : {V A : Type 0} (view : V → Data) (f : A → Data) (old new : List V) (items : List A)
    (index : ℕ) (default : A) (value : V) → index < length items → new ≡ old ++ value ∷ []
    → view value ≡ f (get_or items index default)
    → map view old ++ map f (drop index items) ≡ map f items
    → map view new ++ map f (drop (index + 1) items) ≡ map f items
value_more view f old new items index default value within is seen so_far =
    let rest = map f (drop (index + 1) items) in
    ap (λ all. map view all ++ rest) is ∙ ap (λ all. all ++ rest) (map-append view old (value ∷ []))
    ∙ append_assoc (map view old) (view value ∷ []) rest
    ∙ ap (λ one. map view old ++ (one ∷ rest)) seen
    ∙ ap (λ all. map view old ++ all) (mapped f items index default within) ∙ so_far

-- behind the last one nothing is left
pub values_all : {A : Type 0} (f : A → Data) (done : List Data) (items : List A) (index : ℕ)
    → length items ≤ index → done ++ map f (drop index items) ≡ map f items → done ≡ map f items
values_all f done items index all so_far =
    sym (append-nil done) ∙ ap (λ rest. done ++ map f rest) (sym (drop_all index items all))
    ∙ so_far
