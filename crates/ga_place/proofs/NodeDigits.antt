-- The node that three digits name.
use Rattle.std.proofs.Common.{◌≡◌, ◌∙◌, ℕ, ◌+◌, ◌*◌, ◌<◌, Bool, true, false, List, [], ◌∷◌, length, get_or, refl, sym, ap, subst, arith}
use Rattle.std.specs.Prelude.{◌&&◌, Option, Some, None, if◌then◌else◌}
use Rattle.std.specs.Char.{digit_value, is_digit}
use Rattle.std.specs.Option.{SomeIff}
use Rattle.std.specs.Str.Parse.{digits_value}
use Rattle.std.proofs.lemmas.Bool.{false_from_ne_true, lt-ltb, ltb-true}
use Rattle.std.proofs.lemmas.Bool.Decides.{nat_tests}
use Rattle.ga_place.specs.Node.{IsNodeName, is_node_name, node_named}

-- a character is a digit, with this value
pub record IsDigit (char digit : ℕ) : Type 0 where
  pub below : digit_value char < 10
  pub value : digit ≡ digit_value char

one_digit : (char digit : ℕ) → IsDigit char digit → is_digit char 10 ≡ true
one_digit char digit is = lt-ltb (digit_value char) 10 is.below

-- if the last is no digit, it is no name
pub no_last_digit : (text : List ℕ) (c : ℕ) → length text ≡ 3 → c ≡ get_or text 2 0
    → ¬ (digit_value c < 10) → None ≡ node_named text
no_last_digit (a ∷ b ∷ d ∷ []) c three at wrong =
    let value = digits_value 10 (a ∷ b ∷ d ∷ []) in
    by (is_digit a 10) (is_digit b 10) (is_digit d 10) (is_node_name value) value
    (false_from_ne_true (is_digit d 10)
    (λ e. wrong (subst (λ x. digit_value x < 10) (sym at) (ltb-true (digit_value d) 10 e))))
  where
    by : (p q r t : Bool) (n : ℕ) → r ≡ false
        → ◌≡◌ {A = Option ℕ} None (if (p && (q && (r && true))) && t then Some n else None)
    by true true true t n e = absurd cc
    by _ _ _ t n e = refl
no_last_digit _ c three at wrong = absurd (omega (arith, three))

named_test : (name : ℕ) → IsNodeName name → is_node_name name ≡ true
named_test name is = let row = is.0 in let column = is.1 in grind (arith, nat_tests)

-- three digits name the node whose name they write, if one has it
pub digits_named : (text : List ℕ) (a b c x y z : ℕ) (r : Option ℕ) → length text ≡ 3
    → a ≡ get_or text 0 0 → b ≡ get_or text 1 0 → c ≡ get_or text 2 0 → IsDigit a x → IsDigit b y
    → IsDigit c z → SomeIff r (IsNodeName (x * 100 + y * 10 + z)) (x * 100 + y * 10 + z)
    → r ≡ node_named text
digits_named (a' ∷ b' ∷ c' ∷ []) a b c x y z r three ia ib ic da db dc is =
    let xa : x ≡ digit_value a' = da.value ∙ ap digit_value ia in
    let yb : y ≡ digit_value b' = db.value ∙ ap digit_value ib in
    let zc : z ≡ digit_value c' = dc.value ∙ ap digit_value ic in
    let value : digits_value 10 (a' ∷ b' ∷ c' ∷ []) ≡ x * 100 + y * 10 + z =
    omega (arith, xa, yb, zc) in
    let pa : is_digit a' 10 ≡ true = subst (λ d. is_digit d 10 ≡ true) ia (one_digit a x da) in
    let pb : is_digit b' 10 ≡ true = subst (λ d. is_digit d 10 ≡ true) ib (one_digit b y db) in
    let pc : is_digit c' 10 ≡ true = subst (λ d. is_digit d 10 ≡ true) ic (one_digit c z dc) in
    by (is_digit a' 10) (is_digit b' 10) (is_digit c' 10) (digits_value 10 (a' ∷ b' ∷ c' ∷ [])) r pa
    pb pc (subst (λ n. SomeIff r (IsNodeName n) n) (sym value) is)
  where
    test : (t : Bool) (n : ℕ) (r : Option ℕ) → is_node_name n ≡ t → SomeIff r (IsNodeName n) n
        → r ≡ (if t then Some n else None)
    test true n None e wrong = absurd (wrong (grind (arith, nat_tests), grind (arith, nat_tests)))
    test true n (Some v) e some = ap Some some.1
    test false n None e wrong = refl
    test false n (Some v) e some = let t = named_test n some.0 in absurd cc

    by : (p q s : Bool) (n : ℕ) (r : Option ℕ) → p ≡ true → q ≡ true → s ≡ true
        → SomeIff r (IsNodeName n) n
        → r ≡ (if (p && (q && (s && true))) && is_node_name n then Some n else None)
    by true true true n r pa pb pc is = test (is_node_name n) n r refl is
    by _ _ _ n r pa pb pc is = absurd cc
digits_named _ a b c x y z r three ia ib ic da db dc is = absurd (omega (arith, three))
