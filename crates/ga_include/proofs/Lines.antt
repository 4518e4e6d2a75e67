-- The first part of a text that is cut, and the others.
use Rattle.std.proofs.Common.{◌≡◌, ◌∙◌, ℕ, ◌<◌, ◌==◌, Bool, true, false, List, [], ◌∷◌, ◌++◌, append_assoc, arith, length, refl, ap}
use Rattle.std.specs.List.{list_any, slice_split}
use Rattle.std.specs.Prelude.{◌||◌, codes}
use Rattle.std.specs.Str.{bytes_eq}
use Rattle.std.proofs.lemmas.List.Splits.{length-slice_split}
use Rattle.ga_pack.specs.Model.Text.{lines_of}
use Rattle.ga_include.specs.Including.{ended_lines, last_line}
use Rattle.ga_include.specs.Path.{folder_of, leads_up, parts_of}

pub some_parts : (p : ℕ → Bool) (text : List ℕ) → 0 < length (slice_split p text)
some_parts p text = let count = length-slice_split p text in omega (arith, count)

folder_more : (part : List ℕ) (parts : List (List ℕ)) → 0 < length parts
    → folder_of (part ∷ parts) ≡ part ++ 47 ∷ folder_of parts
folder_more part [] h = absurd (omega arith)
folder_more part (next ∷ parts) h = refl

ended_more : (line : List ℕ) (lines : List (List ℕ)) → 0 < length lines
    → ended_lines (line ∷ lines) ≡ line ∷ ended_lines lines
ended_more line [] h = absurd (omega arith)
ended_more line (next ∷ lines) h = refl

last_more : (line : List ℕ) (lines : List (List ℕ)) → 0 < length lines
    → last_line (line ∷ lines) ≡ last_line lines
last_more line [] h = absurd (omega arith)
last_more line (next ∷ lines) h = refl

-- a part more of a folder's name
pub folder_step : (path after rest part behind : List ℕ)
    → parts_of rest ≡ part ∷ parts_of behind → after ≡ (path ++ part) ++ 47 ∷ []
    → after ++ folder_of (parts_of behind) ≡ path ++ folder_of (parts_of rest)
folder_step path after rest part behind cut is =
    let more : folder_of (parts_of rest) ≡ part ++ 47 ∷ folder_of (parts_of behind) =
    ap folder_of cut ∙ folder_more part (parts_of behind) (some_parts (λ c. c == 47) behind) in
    rw (is, more) (simp append_assoc)

-- a line more of a text
pub ended_first : (rest line behind : List ℕ) → lines_of rest ≡ line ∷ lines_of behind
    → ended_lines (lines_of rest) ≡ line ∷ ended_lines (lines_of behind)
ended_first rest line behind cut =
    ap ended_lines cut ∙ ended_more line (lines_of behind) (some_parts (λ c. c == 10) behind)

pub last_first : (rest line behind : List ℕ) → lines_of rest ≡ line ∷ lines_of behind
    → last_line (lines_of rest) ≡ last_line (lines_of behind)
last_first rest line behind cut =
    ap last_line cut ∙ last_more line (lines_of behind) (some_parts (λ c. c == 10) behind)

-- ---- parts that lead up

abbrev is_up : List ℕ → Bool
is_up part = bytes_eq part (codes "..")

-- the first part does
pub part_up : (name part behind : List ℕ) → parts_of name ≡ part ∷ parts_of behind
    → bytes_eq part (codes "..") ≡ true → leads_up name ≡ true
part_up name part behind first e =
    ap (list_any is_up) first ∙ ap (λ b. b || list_any is_up (parts_of behind)) e

-- or doesn't
pub next_up : (name part behind : List ℕ) → parts_of name ≡ part ∷ parts_of behind
    → bytes_eq part (codes "..") ≡ false → leads_up name ≡ leads_up behind
next_up name part behind first e =
    ap (list_any is_up) first ∙ ap (λ b. b || list_any is_up (parts_of behind)) e

-- the only part
pub last_up : {name : List ℕ} → parts_of name ≡ name ∷ []
    → leads_up name ≡ bytes_eq name (codes "..")
last_up {name = name} one = ap (list_any is_up) one ∙ by (bytes_eq name (codes "..")) refl
  where
    by : (b : Bool) → bytes_eq name (codes "..") ≡ b
        → (bytes_eq name (codes "..") || false) ≡ bytes_eq name (codes "..")
    by true e = rw (e) refl
    by false e = rw (e) refl
