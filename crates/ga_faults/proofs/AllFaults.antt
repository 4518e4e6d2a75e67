-- The faults of a text.
use Rattle.std.proofs.Common.{rules, ◌≡◌, ◌≢◌, ◌⊎◌, ◌||◌, ◌∙◌, ◌+◌, ◌<◌, ◌≤◌, ◌++◌, ℕ, suc, Bool, true, false, List, [], ◌∷◌, Option, Some, None, length, map, get_or, refl, sym, ap, subst, take, arith}
use Rattle.std.specs.Prelude.{Contains, fold, slice_get, unwrap_or}
use Rattle.std.specs.Bool.{Decides, if◌then◌else◌}
use Rattle.std.specs.List.{AllPairs, AllZip, IsDistinct, list_any}
use Rattle.std.proofs.lemmas.List.{length-take, map_more, take-map}
use Rattle.std.proofs.lemmas.List.Sorted.{Contains-permutation, length_permutation}
use Rattle.std.proofs.lemmas.List.Sums.{fold-append}
use Rattle.std.proofs.lemmas.Map.Made.{AllPairs-from_IsDistinct}
use Rattle.ga_pack.specs.Model.Text.{lines_of}
use Rattle.ga_faults.specs.Faults.{AreFaults, AreFirstFaults, ArePartFaults, HasFirst, IsFirstFault, distinct, is_same, with_first, with_new}
use Rattle.ga_faults.specs.Sections.{part_in, parts_of, section_starts, sections_at}
use Rattle.ga_faults.specs.declared.fault.Fault.{Fault}
use Rattle.ga_faults.specs.declared.sections.Section.{Section}
use Rattle.ga_faults.proofs.Moved.{pairs_moved}
use Rattle.ga_faults.proofs.Once.{distinct_front, distinct_push, distinct_take}

-- ---- part by part

zip_push : {X Y : Type 0} (R : X → Y → Type 0) (xs : List X) (ys : List Y) (x : X) (y : Y)
    → AllZip R xs ys → R x y → AllZip R (xs ++ x ∷ []) (ys ++ y ∷ [])
zip_push R [] [] x y all last = (last, tt)
zip_push R [] (z ∷ zs) x y all last = absurd all
zip_push R (w ∷ ws) [] x y all last = absurd all
zip_push R (w ∷ ws) (z ∷ zs) x y all last = (all.0, zip_push R ws zs x y all.1 last)

-- no text has no fault
pub no_faults : (faults : List Fault) → faults ≡ [] → AreFirstFaults [] faults
no_faults faults none = ([], tt, none)

-- the first fault of one more part
pub faults_more : (part : Section → List ℕ) (sections : List Section) (index : ℕ)
    (other : Section) (faults new : List Fault) (text : List ℕ) (found : Option Fault)
    → index < length sections → AreFirstFaults (take index (map part sections)) faults
    → text ≡ part (get_or sections index other) → IsFirstFault text found
    → new ≡ with_new faults found → AreFirstFaults (take (index + 1) (map part sections)) new
faults_more part sections index other faults new text found inside so_far is first pushed =
    let texts = take index (map part sections) in
    let cut : take (index + 1) (map part sections) ≡ texts ++ text ∷ [] =
    take-map part (index + 1) sections ∙ map_more part sections index other inside
    ∙ ap (λ l. l ++ part (get_or sections index other) ∷ []) (sym (take-map part index sections))
    ∙ ap (λ t. texts ++ t ∷ []) (sym is) in
    subst (λ ts. AreFirstFaults ts new) (sym cut) (
      so_far.0 ++ found ∷ [],
      zip_push IsFirstFault texts so_far.0 text found so_far.1 first,
      pushed ∙ ap (λ fs. with_new fs found) so_far.2
          ∙ sym (fold-append with_new [] so_far.0 (found ∷ [])),
    )

-- the parts of the sections that the code has
pub the_parts : (text : List ℕ) (lines : List (List ℕ)) (starts : List ℕ) (sections : List Section)
    (head : ℕ) → lines ≡ lines_of text → starts ≡ section_starts text
    → head ≡ unwrap_or (slice_get starts 0) 0
    → sections ≡ take 144 (sections_at (section_starts text))
    → map (part_in lines head) sections ≡ parts_of text
the_parts text lines starts sections head all begin first some =
    ap (λ ls. map (part_in ls head) sections) all
    ∙ ap (λ n. map (part_in (lines_of text) n) sections)
    (first ∙ ap (λ ls. unwrap_or (slice_get ls 0) 0) begin)
    ∙ ap (map (part_in (lines_of text) (unwrap_or (slice_get (section_starts text) 0) 0))) some

-- those of the parts up to one, if there is none behind it or there are enough
pub part_faults : (text : List ℕ) (texts : List (List ℕ)) (index : ℕ) (faults : List Fault)
    → texts ≡ parts_of text → AreFirstFaults (take index texts) faults
    → ((length texts ≤ index) ⊎ (20 ≤ length faults)) → ArePartFaults text faults
part_faults text texts index faults are some enough =
    subst (λ (ps : List (List ℕ)). (count : ℕ) × AreFirstFaults (take count ps) faults
    × ((length ps ≤ count) ⊎ (20 ≤ length faults))) are (index, some, enough)

-- ---- laws

same_decides : (one other : Fault) → Decides (is_same one other) (one ≡ other)
same_decides one other = (search rules, search rules)

with_new_distinct : (faults : List Fault) (found : Option Fault) → IsDistinct is_same faults
    → IsDistinct is_same (with_new faults found)
with_new_distinct faults None once = once
with_new_distinct faults (Some fault) once =
    by_among (list_any (λ other. is_same other fault) faults) refl
  where
    by_among : (among : Bool) → list_any (λ other. is_same other fault) faults ≡ among
        → IsDistinct is_same (if among then faults else faults ++ fault ∷ [])
    by_among true is = once
    by_among false is = distinct_push is_same faults fault once is

all_distinct : (faults : List Fault) (found : List (Option Fault)) → IsDistinct is_same faults
    → IsDistinct is_same (fold with_new faults found)
all_distinct faults [] once = once
all_distinct faults (one ∷ found) once =
    all_distinct (with_new faults one) found (with_new_distinct faults one once)

with_first_distinct : (first : Fault) (faults : List Fault) → IsDistinct is_same faults
    → IsDistinct is_same (with_first first faults)
with_first_distinct first faults once =
    by_among (list_any (λ other. is_same other first) faults) refl
  where
    by_among : (among : Bool) → list_any (λ other. is_same other first) faults ≡ among
        → IsDistinct is_same (if among then faults else take 20 (first ∷ faults))
    by_among true is = once
    by_among false is =
        distinct_take is_same 20 (first ∷ faults)
        (distinct_front is_same same_decides first faults once is)

-- no fault is there twice
pub faults_once : (text : List ℕ) (first : Fault) (faults : List Fault)
    → AreFaults text (Some first) faults → AllPairs (λ one other. one ≢ other) faults
unfolding IsDistinct
faults_once text first faults are =
    let found = are.1.1.0 in
    let all = with_first first (take 20 are.0) in
    let once : IsDistinct is_same (with_first first (take 20 (distinct found))) =
    with_first_distinct first (take 20 (distinct found))
    (distinct_take is_same 20 (distinct found) (all_distinct [] found tt)) in
    pairs_moved all faults are.2.same
    (AllPairs-from_IsDistinct same_decides all (subst (IsDistinct is_same)
    (ap (λ l. with_first first (take 20 l)) (sym are.1.1.2)) once))

at_most : (n : ℕ) (faults : List Fault) → length (take n faults) ≤ n
at_most n faults = omega (arith, length-take n faults)

with_first_few : (first : Fault) (faults : List Fault) → length faults ≤ 20
    → length (with_first first faults) ≤ 20
with_first_few first faults few =
    by_among (list_any (λ other. is_same other first) faults)
  where
    by_among : (among : Bool)
        → length (if among then faults else take 20 (first ∷ faults)) ≤ 20
    by_among true = few
    by_among false = at_most 20 (first ∷ faults)

-- there are at most 20
pub faults_few : (text : List ℕ) (first : Fault) (faults : List Fault)
    → AreFaults text (Some first) faults → length faults ≤ 20
faults_few text first faults are =
    let all = with_first first (take 20 are.0) in
    subst (λ n. n ≤ 20) (sym (length_permutation all faults are.2.same))
    (with_first_few first (take 20 are.0) (at_most 20 are.0))

among : (first : Fault) (faults : List Fault)
    → list_any (λ other. is_same other first) faults ≡ true → Contains faults first
among first [] any = cc
among first (fault ∷ faults) any =
    by_first (is_same fault first) refl (among first faults) any
  where
    by_first : (same : Bool) → is_same fault first ≡ same
        → (list_any (λ other. is_same other first) faults ≡ true → Contains faults first)
        → (same || list_any (λ other. is_same other first) faults) ≡ true
        → Contains (fault ∷ faults) first
    by_first true is later any = (0, omega arith, (same_decides fault first).0 is)
    by_first false is later any =
        let found = later any in (suc found.0, omega (arith, found.1), found.2)

with_first_has : (first : Fault) (faults : List Fault) → Contains (with_first first faults) first
with_first_has first faults = by_among (list_any (λ other. is_same other first) faults) refl
  where
    by_among : (b : Bool) → list_any (λ other. is_same other first) faults ≡ b
        → Contains (if b then faults else take 20 (first ∷ faults)) first
    by_among true is = among first faults is
    by_among false is = (0, omega arith, refl)

has_first : (text : List ℕ) (first : Fault) (faults : List Fault) → IsFirstFault text (Some first)
    → Contains faults first → HasFirst text faults
has_first text first [] is has = absurd (omega (arith, has.1))
has_first text first (fault ∷ faults) is has = (first, is, has)

-- the first fault is there
pub faults_first : (text : List ℕ) (first : Fault) (faults : List Fault)
    → IsFirstFault text (Some first) → AreFaults text (Some first) faults → HasFirst text faults
faults_first text first faults is are =
    has_first text first faults is
    (Contains-permutation (with_first first (take 20 are.0)) faults first are.2.same
    (with_first_has first (take 20 are.0)))
