-- The lines that are typed.
use Rattle.std.specs.Prelude.{◌==◌, ℕ, List, [], ◌∷◌, length, map, take, if◌then◌else◌}

abbrev pub Lines : Type 0
Lines = List (List ℕ)

-- a byte in front of the first line
abbrev pub onto_line : ℕ → Lines → Lines
onto_line c [] = (c ∷ []) ∷ []
onto_line c (line ∷ lines) = (c ∷ line) ∷ lines

-- The lines of bytes, each ended by LF. What is behind the last LF is a line too, if it isn't
-- empty.
abbrev pub typed : List ℕ → Lines
typed [] = []
typed (c ∷ input) = if c == 10 then [] ∷ typed input else onto_line c (typed input)

-- What is read of them: an empty line stands for the last one that isn't empty.
abbrev pub repeated : List ℕ → Lines → Lines
repeated last [] = []
repeated last (line ∷ lines) =
    let asked = if length line == 0 then last else line in asked ∷ repeated asked lines

-- of a line only its first 65,537 bytes are read: it is refused then
abbrev pub asked_in : List ℕ → List ℕ → Lines
asked_in last input = repeated last (map (take 65537) (typed input))
