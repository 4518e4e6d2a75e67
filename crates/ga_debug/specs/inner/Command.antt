-- What a function reads of words.
use Rattle.std.specs.Prelude.{◌≡◌, Option, Some, None, Result, Ok, Err}
use Rattle.ga_debug.specs.declared.error.DebugError.{DebugError}
use Rattle.ga_debug.specs.Command.{First, Words}

-- what a function read of words, of which these are left, is what they begin with
abbrev pub Reads : {A : Type 0} → First A → Result A DebugError → Words → Type 0
Reads first (Ok value) rest = first ≡ Ok (value, rest)
Reads first (Err fault) rest = first ≡ Err fault

-- what a function found at the front of words, of which these are left
abbrev pub IsFirst : {A : Type 0} → Option (A × Words) → Option A → Words → Type 0
IsFirst first (Some value) rest = first ≡ Some (value, rest)
IsFirst first None rest = first ≡ None
