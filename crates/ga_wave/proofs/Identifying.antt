-- Identifiers differ from each other.
use Rattle.std.proofs.Common.{◌≡◌, ◌∙◌, ℕ, ◌+◌, ◌-◌, ◌*◌, ◌/◌, ◌%◌, ◌≤◌, Bool, true, false, List, [], ◌∷◌, ap, arith, get_or, refl, sym}
use Rattle.std.specs.Prelude.{nat_lt, if◌then◌else◌}
use Rattle.std.proofs.lemmas.Bool.{ltb-false}
use Rattle.ga_place.specs.declared.side.Side.TheVariants.{Right, Down, Left, Up}
use Rattle.ga_wave.specs.declared.signal.Signal.{Signal}
use Rattle.ga_wave.specs.declared.signal.Signal.TheVariants as signal
use Rattle.ga_wave.specs.Change.{signal_number}
use Rattle.ga_wave.specs.Identifier.{identifier}
use Rattle.ga_wave.specs.Laws.{IdentifiersDiffer}
use Rattle.ga_wave.specs.Signal.{SIGNALS, position_of}

-- an identifier, by whether it has one character
abbrev by_length : Bool → ℕ → List ℕ
by_length short number =
    if short then (33 + number) ∷ [] else (33 + (number / 94 - 1)) ∷ (33 + number % 94) ∷ []

-- numbers with the same identifier are the same
same_number : (one two : ℕ) → identifier one ≡ identifier two → one ≡ two
same_number one two = by (nat_lt one 94) refl (nat_lt two 94) refl
  where
    by : (short : Bool) → nat_lt one 94 ≡ short → (other : Bool) → nat_lt two 94 ≡ other
        → by_length short one ≡ by_length other two → one ≡ two
    by true e true f same = let first : 33 + one ≡ 33 + two = cc in omega arith
    by true e false f same = cc
    by false e true f same = cc
    by false e false f same =
        let first : 33 + (one / 94 - 1) ≡ 33 + (two / 94 - 1) = cc in
        let second : 33 + one % 94 ≡ 33 + two % 94 = cc in
        let high : 94 ≤ one = ltb-false one 94 e in
        let high' : 94 ≤ two = ltb-false two 94 f in
        omega arith

-- the signal at a place of the order
back : (one : Signal) → get_or SIGNALS (position_of one) signal.Did ≡ one
back signal.Did = refl
back signal.At = refl
back signal.Op = refl
back signal.Busy = refl
back signal.P = refl
back signal.T = refl
back signal.S = refl
back signal.R = refl
back signal.A = refl
back signal.B = refl
back signal.Io = refl
back (signal.Port Right) = refl
back (signal.Port Down) = refl
back (signal.Port Left) = refl
back (signal.Port Up) = refl

-- there are 15
below : (one : Signal) → position_of one ≤ 14
below signal.Did = omega arith
below signal.At = omega arith
below signal.Op = omega arith
below signal.Busy = omega arith
below signal.P = omega arith
below signal.T = omega arith
below signal.S = omega arith
below signal.R = omega arith
below signal.A = omega arith
below signal.B = omega arith
below signal.Io = omega arith
below (signal.Port Right) = omega arith
below (signal.Port Down) = omega arith
below (signal.Port Left) = omega arith
below (signal.Port Up) = omega arith

pub identifiers_differ : IdentifiersDiffer
identifiers_differ number other one two same =
    let all : number * 15 + position_of one ≡ other * 15 + position_of two =
    same_number (signal_number number one) (signal_number other two) same in
    let few = below one in
    let few' = below two in
    let place : position_of one ≡ position_of two = omega arith in (
      omega arith,
      sym (back one) ∙ ap (λ at. get_or SIGNALS at signal.Did) place ∙ back two,
    )
