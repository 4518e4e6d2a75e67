-- What is left of a text, from the place and the offset of its first byte on.
use Rattle.std.specs.Prelude.{◌⊎◌, ◌≡◌, ◌<◌, ◌==◌, ℕ, ◌+◌, Bool, true, false, All, List, [], ◌∷◌, ◌++◌, Option, Some, None, codes, count_by, length, if◌then◌else◌}
use Rattle.std.specs.Borrow.{Bor}
use Rattle.std.specs.List.{slice_split}
use Rattle.std.specs.Str.{bytes_eq}
use Rattle.ga_word.specs.Text.{is_blank}
use Rattle.ga_pack.specs.Model.Text.{Lexeme, Place, begins_character, lines_of}

-- a number of columns on
abbrev pub columns_on : Place → ℕ → Place
columns_on p count = record { line = p.line; column = p.column + count }

abbrev pub next_line : Place → Place
next_line p = record { line = p.line + 1; column = 1 }

-- the place behind a byte
abbrev pub step : Place → ℕ → Place
step p c = if c == 10 then next_line p else columns_on p (if begins_character c then 1 else 0)

-- the place behind bytes
abbrev pub walk : Place → List ℕ → Place
walk p [] = p
walk p (c ∷ cs) = walk (step p c) cs

abbrev pub is_mark : List ℕ → Bool
is_mark run = bytes_eq run (codes "\\")

-- the tokens of the runs of a line
abbrev pub run_lexemes : Place → ℕ → List (List ℕ) → List Lexeme
run_lexemes p start [] = []
run_lexemes p start ([] ∷ runs) = run_lexemes (columns_on p 1) (start + 1) runs
run_lexemes p start ((c ∷ cs) ∷ runs) =
    if is_mark (c ∷ cs) then []
    else record { place = p; start = start; text = c ∷ cs } ∷ run_lexemes
    (columns_on p (count_by begins_character (c ∷ cs) + 1)) (start + length (c ∷ cs) + 1) runs

-- the tokens of lines
abbrev pub left_lexemes : Place → ℕ → List (List ℕ) → List Lexeme
left_lexemes p start [] = []
left_lexemes p start (bytes ∷ lines) =
    run_lexemes p start (slice_split is_blank bytes)
    ++ left_lexemes (next_line p) (start + length bytes + 1) lines

-- the tokens of a text
abbrev pub lexemes_at : Place → ℕ → List ℕ → List Lexeme
lexemes_at p start text = left_lexemes p start (lines_of text)

-- the text behind a run: nothing, or a blank and more
abbrev pub BehindRun : List ℕ → Type 0
BehindRun behind =
    (behind ≡ []) ⊎ ((c : ℕ) × (rest : List ℕ) × (behind ≡ c ∷ rest) × (is_blank c ≡ true))

-- the first run of a text, behind blanks, and the text behind it
pub record Begins (text run behind : List ℕ) : Type 0 where
  pub front : List ℕ
  pub blanks : All (λ c. is_blank c ≡ true) front
  pub whole : text ≡ front ++ (run ++ behind)
  pub some : 0 < length run
  pub none : All (λ c. is_blank c ≡ false) run
  pub ends : BehindRun behind

-- the first line of a text, and the text behind the LF at its end
abbrev pub FirstLine : List ℕ → List ℕ → Option (Bor (List ℕ)) → Type 0
FirstLine text line None = (text ≡ line) × All (λ c. (c == 10) ≡ false) line
FirstLine text line (Some rest) = (text ≡ line ++ 10 ∷ rest.now) × All (λ c. (c == 10) ≡ false) line

-- the first token of a text that is in no comment, and the text behind it
pub record FirstRun (text run behind : List ℕ) : Type 0 where
  pub front : List ℕ
  pub whole : text ≡ front ++ (run ++ behind)
  pub some : 0 < length run
  pub first : (p : Place) (start : ℕ) → lexemes_at p start text
      ≡ record { place = walk p front; start = start + length front; text = run }
      ∷ lexemes_at (walk (walk p front) run) (start + length front + length run) behind
  pub ends : BehindRun behind
