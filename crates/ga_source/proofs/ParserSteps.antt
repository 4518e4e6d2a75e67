-- Facts of the parser's code: what its maps hold, and items that are whole.
use Rattle.std.proofs.Common.{◌≡◌, ℕ, zero, suc, ◌-◌, ◌<◌, ◌||◌, Bool, true, false, List, [], ◌∷◌, ◌++◌, Option, Some, None, Result, Ok, Err, OnOk, IfErr, refl, sym, ap, ◌∙◌, subst, arith, map}
use Rattle.std.proofs.lemmas.List.{map-append}
use Rattle.std.specs.Prelude.{is_some, cond, nat_eq, if◌then◌else◌}
use Rattle.std.specs.List.{list_any}
use Rattle.std.specs.Map.{keys_of, lookup}
use Rattle.std.specs.Str.{bytes_eq}
use Rattle.indexmap.specs.IndexMap.{insert_entry}
use Rattle.ga_word.specs.declared.op.Op.{Op}
use Rattle.ga_pack.specs.Followers.{followers}
use Rattle.ga_pack.specs.Model.Token as token
use Rattle.ga_pack.specs.Model.Source.{Value, Number, Plain, Word, WordTo, Item, Part, Code, part_after}
use Rattle.ga_pack.specs.declared.error_kind.SourceErrorKind.{SourceErrorKind}
use Rattle.ga_pack.specs.declared.error_kind.SourceErrorKind.TheVariants.{BadToken, Memory}
use Rattle.ga_source.specs.declared.parser.Part as standing
use Rattle.ga_source.specs.declared.parser.Part.TheVariants as part
use Rattle.ga_source.specs.inner.Machine.{State, Inside, take_first, with_part, item_added}
use Rattle.ga_source.specs.inner.Parser.{IsAnswer, section_part}

-- an item was item_added, as the parser's machine adds it
pub answered_added : {A : Type 0} (c : Inside) (i : Item) (q : Part) (r : Result A SourceErrorKind)
    (s' : State) → part_after c.before.part i ≡ Some q → OnOk r (s' ≡ item_added c i q)
    → IfErr r (λ kind. kind ≡ Memory) → IsAnswer (with_part c i) r s'
answered_added c i q (Ok x) s' f ok err =
    ap (λ o. elim o [ None ↦ Err BadToken | Some p ↦ Ok (item_added c i p) ]) f ∙ ap Ok (sym ok)
answered_added c i q (Err x) s' f ok err = λ other. absurd (other err)

-- behind a bracketed word its followers are missing
pub word_after : (part : Part) (ops : List Op) → part ≡ Code 0
    → part_after part (Word ops) ≡ Some (Code (followers ops))
unfolding part_after
word_after part ops e = ap (λ x. part_after x (Word ops)) e

pub word_to_after : (part : Part) (ops : List Op) (o : Op) (v : Value) (k : Option ℕ)
    → part ≡ Code 0 → part_after part (WordTo ops o v k) ≡ Some (Code (followers ops))
unfolding part_after
word_to_after part ops o v k e = ap (λ x. part_after x (WordTo ops o v k)) e

-- one follower less is missing
pub plain_owed : (p p' : standing.Part) (owed : ℕ) (v : Value) → p ≡ part.Code owed
    → p' ≡ part.Code (owed - 1) → 0 < owed
    → part_after (section_part p) (Plain v) ≡ Some (section_part p')
unfolding part_after
plain_owed p p' zero v e f h = absurd (omega (arith, h))
plain_owed p p' (suc owed) v e f h =
    let g : owed ≡ suc owed - 1 = omega arith in
    ap (λ x. part_after (section_part x) (Plain v)) e ∙ ap (λ n. Some (Code n)) g
    ∙ ap (λ x. Some (section_part x)) (sym f)

-- and the data part goes on
pub plain_data : (p p' : standing.Part) (v : Value) → p ≡ part.Data → p' ≡ part.Data
    → part_after (section_part p) (Plain v) ≡ Some (section_part p')
unfolding part_after
plain_data p p' v e f =
    ap (λ x. part_after (section_part x) (Plain v)) e ∙ ap (λ x. Some (section_part x)) (sym f)

-- if a plain word is allowed in the code part, a follower is missing
pub owed_more : (p : standing.Part)
    → ((q : Part) × ((v : Value) → part_after (section_part p) (Plain v) ≡ Some q)) → (owed : ℕ)
    → p ≡ part.Code owed → 0 < owed
unfolding part_after
owed_more p h zero e =
    let f =
    subst (λ x. part_after (section_part x) (Plain (Number 0)) ≡ Some h.0) e (h.1 (Number 0)) in
    absurd (cc)
owed_more p h (suc n) e = omega arith

pub on_ok_to : {A : Type 0} (r : Result A SourceErrorKind) (s' x y : State) → x ≡ y
    → OnOk r (s' ≡ x) → OnOk r (s' ≡ y)
on_ok_to (Ok a) s' x y e h = h ∙ e
on_ok_to (Err a) s' x y e h = h

-- a test of mapped elements
pub list_any_map : {X Y : Type 0} (p : Y → Bool) (f : X → Y) (xs : List X)
    → list_any p (map f xs) ≡ list_any (λ x. p (f x)) xs
list_any_map p f [] = refl
list_any_map p f (x ∷ xs) = ap (λ r. p (f x) || r) (list_any_map p f xs)

module _ {S : Type 0} (bytes : S → List ℕ)
    (same : S → S → Bool) (is_same : (x y : S) → same x y ≡ bytes_eq (bytes x) (bytes y)) where
  pub same_any : (s : S) (keys : List S)
      → list_any (same s) keys ≡ list_any (bytes_eq (bytes s)) (map bytes keys)
  same_any s [] = refl
  same_any s (x ∷ xs) =
      ap (λ b. b || list_any (same s) xs) (is_same s x)
      ∙ ap (λ r. bytes_eq (bytes s) (bytes x) || r) (same_any s xs)

  -- a label that is new goes last
  pub labels_more : (name : List ℕ) (s : S) (keys new : List S) → bytes s ≡ name
      → list_any (bytes_eq name) (map bytes keys) ≡ false
      → new ≡ (if list_any (same s) keys then keys else keys ++ s ∷ [])
      → map bytes new ≡ map bytes keys ++ name ∷ []
  labels_more name s keys new e h n =
      let f : list_any (same s) keys ≡ false =
      same_any s keys ∙ ap (λ x. list_any (bytes_eq x) (map bytes keys)) e ∙ h in
      ap (map bytes) (n ∙ ap (λ b. if b then keys else keys ++ s ∷ []) f)
      ∙ map-append bytes keys (s ∷ []) ∙ ap (λ x. map bytes keys ++ x ∷ []) e

module _ {V : Type 0} (same : ℕ → ℕ → Bool) (is_same : (x y : ℕ) → same x y ≡ nat_eq x y) where
  -- a node that is new goes last
  pub section_last : (es : List (ℕ × V)) (n : ℕ) (v : V) → list_any (nat_eq n) (keys_of es) ≡ false
      → insert_entry same es n v ≡ es ++ (n, v) ∷ []
  section_last [] n v h = refl
  section_last (e ∷ es) n v h =
      ap (λ b. if b then (e.0, v) ∷ es else e ∷ insert_entry same es n v) (is_same n e.0)
      ∙ by (nat_eq n e.0) h (section_last es n v)
    where
      by : (b : Bool) → (b || list_any (nat_eq n) (keys_of es)) ≡ false
          → (list_any (nat_eq n) (keys_of es) ≡ false
          → insert_entry same es n v ≡ es ++ (n, v) ∷ [])
          → (if b then (e.0, v) ∷ es else e ∷ insert_entry same es n v) ≡ e ∷ (es ++ (n, v) ∷ [])
      by true h ih = absurd (cc)
      by false h ih = ap (λ r. e ∷ r) (ih h)

  pub found_any : (es : List (ℕ × V)) (n : ℕ)
      → is_some (lookup (same n) es) ≡ list_any (nat_eq n) (keys_of es)
  found_any [] n = refl
  found_any (e ∷ es) n = by (same n e.0) (nat_eq n e.0) (is_same n e.0) (found_any es n)
    where
      by : (a b : Bool) → a ≡ b → is_some (lookup (same n) es) ≡ list_any (nat_eq n) (keys_of es)
          → is_some (cond a (Some e.1) (lookup (same n) es))
          ≡ (b || list_any (nat_eq n) (keys_of es))
      by true true e ih = refl
      by false false e ih = ih
      by true false e ih = absurd (cc)
      by false true e ih = absurd (cc)

-- followers are missing
pub some_owed : {A : Type 0} (c : Inside) (t : token.Token) (r : Result A SourceErrorKind)
    (s' : State) (p : standing.Part) (owed : ℕ) → p ≡ part.Code owed → (owed ≡ 0 → ⊥)
    → ((n : ℕ) → IsAnswer (take_first (Code (suc n)) c t) r s')
    → IsAnswer (take_first (section_part p) c t) r s'
some_owed c t r s' p zero e n h = absurd (n refl)
some_owed c t r s' p (suc owed) e n h =
    subst (λ x. IsAnswer (take_first (section_part x) c t) r s') (sym e) (h owed)
