-- Texts that are written part by part.
use Rattle.std.proofs.Common.{◌≡◌, ◌∙◌, ℕ, ◌+◌, ◌<◌, true, false, List, [], ◌∷◌, ◌++◌, length, get_or, drop, ap, sym, add-one, append_assoc, drop-cons, map, refl}
use Rattle.std.specs.Prelude.{if◌then◌else◌}
use Rattle.std.specs.List.{flat_map, range_with_len}
use Rattle.std.proofs.lemmas.Grind.{flat_map-append}
use Rattle.ga_place.specs.Side.{is_among}
use Rattle.ga_place.specs.declared.side.Side.{Side}
use Rattle.ga_place.specs.declared.side.Sides.{Sides}
use Rattle.ga_dump.proofs.Lines.{next_line}
use Rattle.ga_waits.specs.Sides.{joined}
use Rattle.ga_waits.specs.Waits.{text_of}

-- One more side of a list of sides: if it is in the set,
pub side_told : (text : Side → List ℕ) (front between now : List ℕ) (sides : Sides)
    (items : List Side) (i : ℕ) (d : Side) (old mid new whole : List ℕ) → i < length items
    → old ++ joined text front between sides (drop i items) ≡ whole
    → is_among (get_or items i d) sides ≡ true → mid ≡ old ++ front
    → new ≡ mid ++ text (get_or items i d) → now ≡ between
    → new ++ joined text now between sides (drop (i + 1) items) ≡ whole
side_told text front between now sides items i d old mid new whole within so_far among wrote_front
    wrote is =
    let side = get_or items i d in
    let rest = drop (i + 1) items in
    let behind = joined text between between sides rest in
    let here : drop i items ≡ side ∷ rest = rw (add-one, drop-cons items i d) in
    ap (λ n. new ++ joined text n between sides rest) is
    ∙ ap (λ t. t ++ behind) (wrote ∙ ap (λ t. t ++ text side) wrote_front
    ∙ append_assoc old front (text side))
    ∙ append_assoc old (front ++ text side) behind
    ∙ sym (ap (λ b. old
    ++ (if b then front ++ text side ++ behind else joined text front between sides rest)) among)
    ∙ sym (ap (λ l. old ++ joined text front between sides l) here) ∙ so_far

-- and where it isn't.
pub side_left_out : (text : Side → List ℕ) (front between now : List ℕ) (sides : Sides)
    (items : List Side) (i : ℕ) (d : Side) (old new whole : List ℕ) → i < length items
    → old ++ joined text front between sides (drop i items) ≡ whole
    → is_among (get_or items i d) sides ≡ false → new ≡ old → now ≡ front
    → new ++ joined text now between sides (drop (i + 1) items) ≡ whole
side_left_out text front between now sides items i d old new whole within so_far among same is =
    let side = get_or items i d in
    let rest = drop (i + 1) items in
    let behind = joined text between between sides rest in
    let here : drop i items ≡ side ∷ rest = rw (add-one, drop-cons items i d) in
    ap (λ n. new ++ joined text n between sides rest) is
    ∙ ap (λ t. t ++ joined text front between sides rest) same
    ∙ sym (ap (λ b. old
    ++ (if b then front ++ text side ++ behind else joined text front between sides rest)) among)
    ∙ sym (ap (λ l. old ++ joined text front between sides l) here) ∙ so_far

-- the lines of one node more of those that are numbered from 0
pub lines_more : (lines : ℕ → List (List ℕ)) (n : ℕ) (old text new : List ℕ)
    → text ≡ old ++ text_of (flat_map lines (range_with_len 0 n)) → new ≡ text ++ text_of (lines n)
    → new ≡ old ++ text_of (flat_map lines (range_with_len 0 (n + 1)))
lines_more lines n old text new so_far wrote =
    let before = flat_map lines (range_with_len 0 n) in
    wrote ∙ ap (λ t. t ++ text_of (lines n)) so_far
    ∙ append_assoc old (text_of before) (text_of (lines n))
    ∙ ap (λ t. old ++ t) (sym (flat_map-append (λ line. line ++ 10 ∷ []) before (lines n))
    ∙ sym (ap text_of (next_line lines n)))

-- one part more of those that are numbered from 0
pub part_more : (f : ℕ → List ℕ) (n : ℕ) (old text new : List ℕ)
    → text ≡ old ++ flat_map f (range_with_len 0 n) → new ≡ text ++ f n
    → new ≡ old ++ flat_map f (range_with_len 0 (n + 1))
part_more f n old text new so_far wrote =
    wrote ∙ ap (λ t. t ++ f n) so_far ∙ append_assoc old (flat_map f (range_with_len 0 n)) (f n)
    ∙ ap (λ t. old ++ t) (sym (next_line f n))

map_is_flat : {A B : Type 0} (f : A → B) (xs : List A)
    → map f xs ≡ flat_map (λ x. f x ∷ []) xs
map_is_flat f [] = refl
map_is_flat f (x ∷ xs) = ap (λ l. f x ∷ l) (map_is_flat f xs)

-- one item more of those that are numbered from 0
pub item_more : {B : Type 0} (f : ℕ → B) (n : ℕ)
    → map f (range_with_len 0 (n + 1)) ≡ map f (range_with_len 0 n) ++ f n ∷ []
item_more f n =
    map_is_flat f (range_with_len 0 (n + 1)) ∙ next_line (λ i. f i ∷ []) n
    ∙ ap (λ l. l ++ f n ∷ []) (sym (map_is_flat f (range_with_len 0 n)))
