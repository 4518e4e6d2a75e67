-- Escaped texts have no signs of XML.
use Rattle.std.proofs.Common.{◌≡◌, ◌∙◌, ℕ, ◌+◌, ◌/◌, ◌≤◌, arith, ◌==◌, Bool, true, false, ◌&&◌, List, [], ◌∷◌, ap, ap₂, refl}
use Rattle.std.specs.Prelude.{◌||◌, not, nat_lt, if◌then◌else◌}
use Rattle.std.specs.Char.{is_control}
use Rattle.std.specs.List.{flat_map, list_all}
use Rattle.std.specs.Str.{chars}
use Rattle.std.proofs.lemmas.Bool.{ne_eqb}
use Rattle.std.proofs.lemmas.List.Folds.{list_all-append}
use lib.Utf8.{encode, next}
use Rattle.ga_messages.specs.Shown.{is_undrawn}
use Rattle.ga_report.specs.Escape.{drawn, escaped, escaped_char}
use Rattle.ga_report.specs.Laws.{EscapedTextsArePlain, is_plain}

-- a byte that begins or goes on with a character of several bytes
high : (n : ℕ) → 128 ≤ n → is_plain n ≡ true
high n above =
    ap₂ (λ x y. not x && y) (ne_eqb n 60 (λ e. omega (arith, e, above)))
    (ap₂ (λ x y. not x && not y) (ne_eqb n 62 (λ e. omega (arith, e, above)))
    (ne_eqb n 34 (λ e. omega (arith, e, above))))

-- one of two texts
either : (b : Bool) (x y : List ℕ) → (b ≡ true → list_all is_plain x ≡ true)
    → (b ≡ false → list_all is_plain y ≡ true)
    → list_all is_plain (if b then x else y) ≡ true
either true x y one other = one refl
either false x y one other = other refl

two : (a b : ℕ) → 128 ≤ a → 128 ≤ b → list_all is_plain (a ∷ b ∷ []) ≡ true
two a b p q = ap₂ (λ x y. x && (y && true)) (high a p) (high b q)

three : (a b c : ℕ) → 128 ≤ a → 128 ≤ b → 128 ≤ c → list_all is_plain (a ∷ b ∷ c ∷ []) ≡ true
three a b c p q r = ap₂ (λ x y. x && y) (high a p) (two b c q r)

four : (a b c d : ℕ) → 128 ≤ a → 128 ≤ b → 128 ≤ c → 128 ≤ d
    → list_all is_plain (a ∷ b ∷ c ∷ d ∷ []) ≡ true
four a b c d p q r s = ap₂ (λ x y. x && y) (high a p) (three b c d q r s)

-- a character that is none of the signs
encoded : (c : ℕ) → is_plain c ≡ true → list_all is_plain (encode c) ≡ true
unfolding encode
encoded c plain =
    let pair = (192 + c / 64) ∷ next c ∷ [] in
    let triple = (224 + c / 4096) ∷ next (c / 64) ∷ next c ∷ [] in
    let long = (240 + c / 262144) ∷ next (c / 4096) ∷ next (c / 64) ∷ next c ∷ [] in
    let longer = if nat_lt c 65536 then triple else long in
    let more = if nat_lt c 2048 then pair else longer in
    either (nat_lt c 128) (c ∷ []) more (λ below. ap (λ x. x && true) plain)
    (λ above. either (nat_lt c 2048) pair longer
    (λ below. two (192 + c / 64) (next c) (omega arith) (omega arith))
    (λ higher. either (nat_lt c 65536) triple long
    (λ below. three (224 + c / 4096) (next (c / 64)) (next c) (omega arith) (omega arith)
    (omega arith))
    (λ highest. four (240 + c / 262144) (next (c / 4096)) (next (c / 64)) (next c) (omega arith)
    (omega arith) (omega arith) (omega arith))))

-- and what is shown of it
shown : (c : ℕ) → is_plain c ≡ true → list_all is_plain (encode (drawn c)) ≡ true
shown c plain =
    by (c == 10) ((c == 0xFFFE) || (c == 0xFFFF)) ((is_control c && not (c == 9)) || is_undrawn c)
  where
    by : (line lacks undrawn : Bool)
        → list_all is_plain (encode (if line then 10 else if lacks then 0xFFFD
        else if undrawn then 32 else c)) ≡ true
    by true lacks undrawn = encoded 10 refl
    by false true undrawn = encoded 0xFFFD refl
    by false false true = encoded 32 refl
    by false false false = encoded c plain

one_char : (c : ℕ) → list_all is_plain (escaped_char c) ≡ true
one_char c =
    either (c == 38) _ _ (λ is. refl) (λ not_amp.
    either (c == 60) _ _ (λ is. refl) (λ not_less.
    either (c == 62) _ _ (λ is. refl) (λ not_more.
    either (c == 34) _ _ (λ is. refl) (λ not_quote.
    shown c (ap₂ (λ x y. not x && y) not_less
    (ap₂ (λ x y. not x && not y) not_more not_quote))))))

all_chars : (cs : List ℕ) → list_all is_plain (flat_map escaped_char cs) ≡ true
all_chars [] = refl
all_chars (c ∷ cs) =
    list_all-append is_plain (escaped_char c) (flat_map escaped_char cs)
    ∙ ap₂ (λ x y. x && y) (one_char c) (all_chars cs)

pub texts_are_plain : EscapedTextsArePlain
unfolding escaped
texts_are_plain text = all_chars (chars text)
