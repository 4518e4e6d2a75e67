-- The identifiers of signals.
use Rattle.std.specs.Prelude.{ℕ, ◌+◌, ◌-◌, ◌/◌, ◌%◌, nat_lt, List, [], ◌∷◌, if◌then◌else◌}

-- One or two of the 94 printable characters from `!` to `~`: first those of one, then those of two.
abbrev pub identifier : ℕ → List ℕ
identifier number =
    if nat_lt number 94 then (33 + number) ∷ []
    else (33 + (number / 94 - 1)) ∷ (33 + number % 94) ∷ []
