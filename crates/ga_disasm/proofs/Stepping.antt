-- One word more is taken apart.
use Rattle.std.proofs.Common.{◌≡◌, ◌∙◌, ◌+◌, ◌<◌, ℕ, suc, List, [], ◌∷◌, ◌++◌, length, map, drop, get_or, refl, sym, ap, append_assoc, append-nil, add-one}
use Rattle.std.proofs.Math.Seq.{drop-cons}
use Rattle.std.proofs.lemmas.List.{map-append}
use Rattle.ga_pack.specs.Decoded.{Reading, reading_of}
use Rattle.ga_pack.specs.Followers.{followers}
use Rattle.ga_disasm.specs.Disassembling.{ItemView, Code, Follower, Data, items_from, item_view}
use Rattle.ga_disasm.specs.declared.item.Item.{Item}

-- the words from an index on
pub rest_is : (words : List ℕ) (index word : ℕ) → index < length words
    → word ≡ get_or words index word → drop index words ≡ word ∷ drop (index + 1) words
rest_is words index word inside is =
    rw add-one
    (drop-cons words index word inside ∙ ap (λ (w : ℕ). w ∷ drop (suc index) words) (sym is))

-- behind the code part
pub data_next : (owed owed' left left' word : ℕ) (words rest : List ℕ) → words ≡ word ∷ rest
    → owed' ≡ owed → left ≡ 0 → left' ≡ 0
    → items_from owed left words ≡ Data word ∷ items_from owed' left' rest
unfolding items_from
data_next owed owed' left left' word words rest e same none none' = rw (e, none, none', same) refl

-- if followers are missing
pub follower_next : (owed owed' left left' word : ℕ) (words rest : List ℕ) → words ≡ word ∷ rest
    → owed ≡ suc owed' → left ≡ suc left'
    → items_from owed left words ≡ Follower word ∷ items_from owed' left' rest
unfolding items_from
follower_next owed owed' left left' word words rest e some more = rw (e, some, more) refl

-- if none are
pub code_next : (owed owed' left left' word : ℕ) (words rest : List ℕ) (reading : Reading)
    → words ≡ word ∷ rest → owed ≡ 0 → left ≡ suc left' → reading_of word ≡ reading
    → owed' ≡ followers reading.ops
    → items_from owed left words ≡ Code reading ∷ items_from owed' left' rest
unfolding items_from
code_next owed owed' left left' word words rest reading e none more is same =
    rw (e, none, more, is, same) refl

-- an item more, and what is left behind it
pub one_more : (items more : List Item) (item : Item) (left left' all : List ItemView)
    → map item_view items ++ left ≡ all → left ≡ item_view item ∷ left' → more ≡ items ++ item ∷ []
    → map item_view more ++ left' ≡ all
one_more items more item left left' all so_far next pushed =
    ap (λ (t : List Item). map item_view t ++ left') pushed
    ∙ ap (λ (t : List ItemView). t ++ left') (map-append item_view items (item ∷ []))
    ∙ append_assoc (map item_view items) (item_view item ∷ []) left'
    ∙ ap (λ (t : List ItemView). map item_view items ++ t) (sym next) ∙ so_far

-- nothing is left
pub all_apart : (owed left : ℕ) (words : List ℕ) (items all : List ItemView) → words ≡ []
    → items ++ items_from owed left words ≡ all → items ≡ all
unfolding items_from
all_apart owed left words items all none e = sym (append-nil items) ∙ rw none at e
