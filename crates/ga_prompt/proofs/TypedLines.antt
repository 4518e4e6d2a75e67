-- The lines that are typed, one at a time.
use Rattle.std.proofs.Common.{◌≡◌, ◌∙◌, ℕ, ◌<◌, Bool, true, false, List, [], ◌∷◌, ◌++◌, Option, Some, None, Ok, ap, append-nil, arith, length, refl, subst, sym, take, zero, suc, ◌-◌, ◌≤◌}
use Rattle.std.specs.Prelude.{◌==◌, map, if◌then◌else◌}
use Rattle.std.specs.Io.KnownBytes.{Consumes, IsAtEnd}
use Rattle.std.proofs.lemmas.List.Elements.{All-append, All-cons, All-head, All-nil, All-tail}
use Rattle.ga_prompt.specs.Typed.{Lines, onto_line, repeated, typed}
use Rattle.ga_prompt.specs.inner.Typed.{IsClean, IsNext, IsRead, has_byte}
use Rattle.std.proofs.lemmas.Bool.{eqb-true, false_from_ne_true, true≢false}

typed_by : (c : ℕ) (input : List ℕ) (ends : Bool) → (c == 10) ≡ ends
    → typed (c ∷ input) ≡ (if ends then [] ∷ typed input else onto_line c (typed input))
typed_by c input ends e = rw (e) refl

-- a line that is ended by LF
pub line_ended : (front rest : List ℕ) → IsClean front
    → typed (front ++ 10 ∷ rest) ≡ front ∷ typed rest
line_ended [] rest clean = typed_by 10 rest true refl
line_ended (c ∷ front) rest clean =
    typed_by c (front ++ 10 ∷ rest) false (All-head (λ c. (c == 10) ≡ false) c front clean)
    ∙ ap (onto_line c) (line_ended front rest
    (All-tail (λ c. (c == 10) ≡ false) c front clean))

-- and a last one that is not
pub line_last : (c : ℕ) (front : List ℕ) → IsClean (c ∷ front)
    → typed (c ∷ front) ≡ (c ∷ front) ∷ []
line_last c [] clean = typed_by c [] false (All-head (λ c. (c == 10) ≡ false) c [] clean)
line_last c (d ∷ front) clean =
    typed_by c (d ∷ front) false (All-head (λ c. (c == 10) ≡ false) c (d ∷ front) clean)
    ∙ ap (onto_line c) (line_last d front (All-tail (λ c. (c == 10) ≡ false) c (d ∷ front) clean))

-- what is kept of a line
keep_by : (front : List ℕ) (n : ℕ) → IsClean front → IsClean (take n front)
keep_by front zero clean = All-nil (λ c. (c == 10) ≡ false)
keep_by [] (suc n) clean = All-nil (λ c. (c == 10) ≡ false)
keep_by (c ∷ front) (suc n) clean =
    All-cons (λ c. (c == 10) ≡ false) c (take n front)
    (All-head (λ c. (c == 10) ≡ false) c front clean)
    (keep_by front n (All-tail (λ c. (c == 10) ≡ false) c front clean))

pub kept_clean : (kept front : List ℕ) → kept ≡ take 65537 front → IsClean front → IsClean kept
kept_clean kept front is clean = subst IsClean (sym is) (keep_by front 65537 clean)

take_short : (n : ℕ) (front more : List ℕ) → length (take n front) < n
    → take n (front ++ more) ≡ take n front ++ take (n - length front) more
take_short zero front more short = absurd (omega (arith, short))
take_short (suc n) [] more short =
    let same : suc n - 0 ≡ suc n = omega arith in ap (λ k. take k more) (sym same)
take_short (suc n) (c ∷ front) more short =
    let same : suc n - suc (length front) ≡ n - length front = omega arith in
    ap (λ (l : List ℕ). c ∷ l) (take_short n front more (omega (arith, short)))
    ∙ sym (ap (λ k. (c ∷ take n front) ++ take k more) same)

take_long : (n : ℕ) (front more : List ℕ) → n ≤ length (take n front)
    → take n (front ++ more) ≡ take n front
take_long zero front more long = refl
take_long (suc n) [] more long = absurd (omega (arith, long))
take_long (suc n) (c ∷ front) more long =
    ap (λ (l : List ℕ). c ∷ l) (take_long n front more (omega (arith, long)))

short_front : (n : ℕ) (front : List ℕ) → length (take n front) < n → length front < n
short_front zero front short = absurd (omega (arith, short))
short_front (suc n) [] short = omega arith
short_front (suc n) (c ∷ front) short =
    let less = short_front n front (omega (arith, short)) in omega (arith, less)

take_none : (n : ℕ) → take {A = ℕ} n [] ≡ []
take_none zero = refl
take_none (suc n) = refl

take_one : (n : ℕ) (byte : ℕ) → 0 < n → take n (byte ∷ []) ≡ byte ∷ []
take_one zero byte some = absurd (omega (arith, some))
take_one (suc n) byte some = ap (λ (l : List ℕ). byte ∷ l) (take_none n)

pub keeps_more : (kept front : List ℕ) (byte : ℕ) → kept ≡ take 65537 front
    → length kept ≤ 65536 → kept ++ byte ∷ [] ≡ take 65537 (front ++ byte ∷ [])
keeps_more kept front byte is short =
    let size : length kept ≡ length (take 65537 front) = ap length is in
    let less : length (take 65537 front) < 65537 = omega (arith, size, short) in
    let room : 0 < 65537 - length front = omega (arith, short_front 65537 front less) in
    ap (λ (l : List ℕ). l ++ byte ∷ []) is
    ∙ sym (ap (λ (l : List ℕ). take 65537 front ++ l)
    (take_one (65537 - length front) byte room))
    ∙ sym (take_short 65537 front (byte ∷ []) less)

pub keeps_full : (kept front : List ℕ) (byte : ℕ) → kept ≡ take 65537 front
    → 65536 < length kept → kept ≡ take 65537 (front ++ byte ∷ [])
keeps_full kept front byte is long =
    let size : length kept ≡ length (take 65537 front) = ap length is in
    is ∙ sym (take_long 65537 front (byte ∷ []) (omega (arith, size, long)))

-- a line is read, with its LF
pub read_ended : (old mid new : Option (List ℕ)) (kept front : List ℕ) → Consumes old mid front
    → Consumes mid new (10 ∷ []) → IsClean front → kept ≡ take 65537 front
    → IsRead kept old new (Ok true)
read_ended None mid new kept front before after clean is = tt
read_ended (Some input) None new kept front before after clean is = absurd before
read_ended (Some input) (Some left) None kept front before after clean is = absurd after
read_ended (Some input) (Some left) (Some rest) kept front before after clean is = (
  front,
  rest,
  refl,
  ap typed (before ∙ ap (λ (l : List ℕ). front ++ l) after) ∙ line_ended front rest clean,
  is,
)

-- and a last one, or none
read_last : (input kept front : List ℕ) → input ≡ front → IsClean front → kept ≡ take 65537 front
    → (is_there : Bool) → is_there ≡ has_byte front
    → IsRead kept (Some input) (Some []) (Ok is_there)
read_last input kept [] whole clean is true there = absurd (true≢false there)
read_last input kept (c ∷ front) whole clean is true there =
    (c ∷ front, [], refl, ap typed whole ∙ line_last c front clean, is)
read_last input kept [] whole clean is false there = (ap typed whole, is)
read_last input kept (c ∷ front) whole clean is false there =
    absurd (true≢false (sym there))

pub read_end : (old mid new : Option (List ℕ)) (kept front : List ℕ) (is_there : Bool)
    → Consumes old mid front → Consumes mid new [] → IsAtEnd new → IsClean front
    → kept ≡ take 65537 front → is_there ≡ has_byte front
    → IsRead kept old new (Ok is_there)
read_end None mid new kept front true before after end clean is there = tt
read_end None mid new kept front false before after end clean is there = tt
read_end (Some input) None new kept front is_there before after end clean is there = absurd before
read_end (Some input) (Some left) None kept front is_there before after end clean is there =
    absurd after
read_end (Some input) (Some left) (Some rest) kept front is_there before after end clean is there =
    subst (λ rest. IsRead kept (Some input) (Some rest) (Ok is_there)) (sym end)
    (read_last input kept front
    (before ∙ ap (λ (l : List ℕ). front ++ l) (after ∙ end) ∙ append-nil front) clean is is_there
    there)

-- one more byte of a line
pub more_clean : (front : List ℕ) (byte : ℕ) → IsClean front → (byte ≡ 10 → ⊥)
    → IsClean (front ++ byte ∷ [])
more_clean front byte clean other =
    All-append (λ c. (c == 10) ≡ false) front (byte ∷ []) clean
    (All-cons (λ c. (c == 10) ≡ false) byte []
    (false_from_ne_true _ (λ same. other (eqb-true byte 10 same)))
    (All-nil (λ c. (c == 10) ≡ false)))

pub has_more : (front : List ℕ) (byte : ℕ) → true ≡ has_byte (front ++ byte ∷ [])
has_more [] byte = refl
has_more (c ∷ front) byte = refl

-- the next line that is asked, by whether the one that was read is empty
asked_line : (line : List ℕ) (empty : Bool) → (length line == 0) ≡ empty → (last asked : List ℕ)
    → asked ≡ (if empty then last else line) → (lines : Lines)
    → repeated last (line ∷ lines) ≡ asked ∷ repeated asked lines
asked_line line empty e last asked is lines =
    let same : (if length line == 0 then last else line) ≡ asked =
    ap (λ b. if b then last else line) e ∙ sym is in
    ap (λ (l : List ℕ). l ∷ repeated l lines) same

pub next_by : (last asked kept : List ℕ) (old new : Option (List ℕ)) (empty is_there : Bool)
    → (length kept == 0) ≡ empty → asked ≡ (if empty then last else kept)
    → IsRead kept old new (Ok is_there) → IsNext last asked old new (Ok is_there)
next_by last asked kept None new empty true e is read = tt
next_by last asked kept None new empty false e is read = tt
next_by last asked kept (Some input) new empty true e is (front, rest, left, lines, cut) = (
  rest,
  left,
  ap (λ (ls : Lines). repeated last (map (take 65537) ls)) lines
      ∙ ap (λ (l : List ℕ). repeated last (l ∷ map (take 65537) (typed rest))) (sym cut)
      ∙ asked_line kept empty e last asked is (map (take 65537) (typed rest)),
)
next_by last asked kept (Some input) new empty false e is (lines, none) =
    ap (λ (ls : Lines). repeated last (map (take 65537) ls)) lines
