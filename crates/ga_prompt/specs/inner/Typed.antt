-- What reading a line does to the bytes that are left.
use Rattle.std.specs.Prelude.{◌≡◌, ◌==◌, ℕ, Bool, true, false, List, [], ◌∷◌, Option, None, Some, Result, Ok, Err, IfSome, take}
use Rattle.std.specs.List.{All}
use Rattle.std.specs.Io.KnownBytes.{Consumes, IsAtEnd}
use Rattle.ga_input.specs.declared.fault.ServeError.{ServeError}
use Rattle.ga_prompt.specs.Typed.{asked_in, typed}

-- no LF is in a line
abbrev pub IsClean : List ℕ → Type 0
IsClean line = All (λ c. (c == 10) ≡ false) line

-- whether a line has a byte
abbrev pub has_byte : List ℕ → Bool
has_byte [] = false
has_byte (c ∷ line) = true

-- the next byte of what was left, or its end
abbrev pub IsByte : Option (List ℕ) → Option (List ℕ) → Option ℕ → Type 0
IsByte old new (Some byte) = Consumes old new (byte ∷ [])
IsByte old new None = Consumes old new [] × IsAtEnd new

-- the next line of what was left, of which at most 65,537 bytes are kept
abbrev pub IsLine : List ℕ → List ℕ → Option (List ℕ) → Type 0
IsLine line input new =
    (front : List ℕ) × (rest : List ℕ) × (new ≡ Some rest) × (typed input ≡ front ∷ typed rest)
    × (line ≡ take 65537 front)

abbrev pub IsRead : List ℕ → Option (List ℕ) → Option (List ℕ) → Result Bool ServeError → Type 0
IsRead line old new (Ok true) = IfSome old (λ input. IsLine line input new)
IsRead line old new (Ok false) = IfSome old (λ input. (typed input ≡ []) × (line ≡ []))
IsRead line old new (Err fault) = Unit {0}

-- the next of the lines that are asked
abbrev pub IsNext : List ℕ → List ℕ → Option (List ℕ) → Option (List ℕ) → Result Bool ServeError
    → Type 0
IsNext last asked old new (Ok true) = IfSome old (λ input. (rest : List ℕ) × (new ≡ Some rest)
    × (asked_in last input ≡ asked ∷ asked_in asked rest))
IsNext last asked old new (Ok false) = IfSome old (λ input. asked_in last input ≡ [])
IsNext last asked old new (Err fault) = Unit {0}
