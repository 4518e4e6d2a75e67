-- One signal of many has an identifier.
use Rattle.std.proofs.Common.{◌≡◌, ◌∙◌, ◌<◌, ℕ, zero, suc, ◌+◌, Bool, true, false, List, [], ◌∷◌, ◌++◌, Option, Some, None, ap, ap₂, arith, refl, subst}
use Rattle.std.specs.Prelude.{◌||◌, if◌then◌else◌}
use Rattle.std.specs.List.{AllByRecursion, enumerate_from, flat_map, list_any, slice_get}
use Rattle.std.specs.Option.{option_or}
use Rattle.std.specs.Str.{bytes_eq}
use Rattle.std.proofs.lemmas.Bool.{or_left, or_right}
use Rattle.std.proofs.lemmas.Slice.Eq.{bytes_eq-Decides}
use Rattle.ga_wave.specs.declared.signal.Signal.{Signal}
use Rattle.ga_wave.specs.declared.signal.Signal.TheVariants as signal
use Rattle.ga_place.specs.declared.side.Side.TheVariants.{Right}
use Rattle.ga_wave.specs.Identifier.{identifier}
use Rattle.ga_wave.specs.Signal.{SIGNALS, position_of}
use Rattle.ga_wave.proofs.ReadingParts.{Gives, gives_both, gives_none, or_none}

-- ---- one of many

either : {T : Type 0} (one other : Bool) (given : Option T)
    → option_or (if other then given else None) (if one then given else None)
    ≡ (if (one || other) then given else None)
either true true None = refl
either true true (Some x) = refl
either true false given = refl
either false true given = or_none given
either false false given = refl

pub any_at : {X : Type 0} (test : X → Bool) (xs : List X) (place : ℕ) (x : X)
    → slice_get xs place ≡ Some x → test x ≡ true → list_any test xs ≡ true
any_at test [] place x at e = cc
any_at test (first ∷ xs) zero x at e =
    let same : first ≡ x = cc in or_left (test first) (list_any test xs) (ap test same ∙ e)
any_at test (first ∷ xs) (suc place) x at e =
    or_right (test first) (list_any test xs) (any_at test xs place x at e)

pub each : {X : Type 0} (P : X → Type 0) → ((x : X) → P x) → (xs : List X) → AllByRecursion P xs
each P all [] = tt
each P all (x ∷ xs) = (all x, each P all xs)

-- parts of which some give a value
pub some_gives : {X : Type 0} (identifier : List ℕ) (time now : ℕ) (text : X → List ℕ)
    (test : X → Bool) (given : Option (List ℕ)) (xs : List X)
    → AllByRecursion
    (λ x. Gives identifier time now (text x) (if test x then given else None)) xs
    → Gives identifier time now (flat_map text xs) (if list_any test xs then given else None)
some_gives identifier time now text test given [] all = gives_none identifier time now
some_gives identifier time now text test given (x ∷ xs) all =
    subst (Gives identifier time now (text x ++ flat_map text xs))
    (either (test x) (list_any test xs) given)
    (gives_both identifier time now (text x) (flat_map text xs) (if test x then given else None)
    (if list_any test xs then given else None) all.0
    (some_gives identifier time now text test given xs all.1))

-- ---- the signals of a node

pub same_text : (one : List ℕ) → bytes_eq one one ≡ true
same_text one = (bytes_eq-Decides one one).1 refl

pub place_of : (one : Signal) → slice_get SIGNALS (position_of one) ≡ Some one
place_of (signal.Port Right) = refl
place_of _ = refl

-- a node of this number has this name
abbrev pub IsNamed : ℕ → ℕ → ℕ × ℕ → Type 0
IsNamed number name node = node.0 ≡ number → node.1 ≡ name

later : (number name from : ℕ) (names : List ℕ) → number < from
    → AllByRecursion (IsNamed number name) (enumerate_from from names)
later number name from [] more = tt
later number name from (first ∷ names) more =
    (λ same. absurd (omega arith), later number name (from + 1) names (omega arith))

pub named : (number name from place : ℕ) (names : List ℕ) → from + place ≡ number
    → slice_get names place ≡ Some name
    → AllByRecursion (IsNamed number name) (enumerate_from from names)
named number name from place [] sum at = tt
named number name from zero (first ∷ names) sum at =
    (λ same. cc, later number name (from + 1) names (omega arith))
named number name from (suc place) (first ∷ names) sum at =
    (λ same. absurd (omega arith), named number name (from + 1) place names (omega arith) at)

pub numbered_at : (from place name : ℕ) (names : List ℕ) → slice_get names place ≡ Some name
    → slice_get (enumerate_from from names) place ≡ Some (from + place, name)
numbered_at from place name [] at = cc
numbered_at from zero name (first ∷ names) at =
    let same : first ≡ name = cc in
    let is : from ≡ from + 0 = omega arith in ap₂ (λ n one. Some (n, one)) is same
numbered_at from (suc place) name (first ∷ names) at =
    let is : from + 1 + place ≡ from + suc place = omega arith in
    numbered_at (from + 1) place name names at ∙ ap (λ n. Some (n, name)) is
