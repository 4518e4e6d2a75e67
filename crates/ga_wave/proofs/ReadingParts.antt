-- A text is read part by part.
use Rattle.std.proofs.Common.{◌≡◌, ◌∙◌, ℕ, Bool, true, false, List, [], ◌∷◌, ◌++◌, Option, Some, None, ap, append_assoc, codes, refl, sym, ◌<◌, ◌^◌, arith, length}
use Rattle.std.specs.Prelude.{nat_le, if◌then◌else◌, unwrap_or, not}
use Rattle.std.specs.List.{flat_map, list_all}
use Rattle.std.specs.Option.{option_and_then, option_or}
use Rattle.std.specs.Str.{bytes_eq}
use Rattle.std.specs.Char.{is_digit}
use Rattle.std.specs.Fmt.{decimal}
use Rattle.std.specs.Str.Parse.{AllDigits}
use Rattle.std.proofs.lemmas.Bool.{lt-ltb}
use Rattle.std.proofs.lemmas.Fmt.{decimal_is_IsNumeral}
use Rattle.ga_word.specs.Text.{is_empty}
use Rattle.ga_wave.specs.Reading.{LAST_DECLARATION, behind_declarations, change_in, is_word, last_value, lines_in, longer_change, time_in, timed, value_in}
use Rattle.ga_wave.proofs.Words.{digits_word, first_line, is_line, line_append, line_of_word, two_words}

-- ---- the declarations

-- A part that doesn't end the declarations.
pub record IsDeclaration (text : List ℕ) : Type 0 where
  pub skipped : (rest : List ℕ)
      → behind_declarations (lines_in (text ++ rest)) ≡ behind_declarations (lines_in rest)

pub no_declaration : IsDeclaration []
no_declaration = record { skipped = λ rest. refl }

pub declarations : (one other : List ℕ) → IsDeclaration one → IsDeclaration other
    → IsDeclaration (one ++ other)
declarations one other first second = record {
  skipped = λ rest.
      ap (λ text. behind_declarations (lines_in text)) (append_assoc one other rest)
      ∙ first.skipped (other ++ rest) ∙ second.skipped rest;
}

pub each_declaration : {X : Type 0} (text : X → List ℕ) → ((x : X) → IsDeclaration (text x))
    → (xs : List X) → IsDeclaration (flat_map text xs)
each_declaration text each [] = no_declaration
each_declaration text each (x ∷ xs) =
    declarations (text x) (flat_map text xs) (each x) (each_declaration text each xs)

pub declaration_line : (line : List ℕ) → is_line line ≡ true
    → bytes_eq line LAST_DECLARATION ≡ false → IsDeclaration (line ++ 10 ∷ [])
declaration_line line whole other = record {
  skipped = λ rest.
      ap behind_declarations (first_line line rest whole)
      ∙ ap (λ last. if last then lines_in rest else behind_declarations (lines_in rest)) other;
}

-- ---- times

all_digits : (digits : List ℕ) → AllDigits 10 digits
    → list_all (λ digit. is_digit digit 10) digits ≡ true
all_digits [] all = refl
all_digits (digit ∷ digits) all = rw (lt-ltb _ _ all.0) (all_digits digits all.1)

some_digits : (digits : List ℕ) → 0 < length digits → not (is_empty digits) ≡ true
some_digits [] some = absurd (omega arith)
some_digits (digit ∷ digits) some = refl

-- the line of a time is read as this time
pub time_read : (turn : ℕ) → turn < 2 ^ 64 → time_in (codes "#" ++ decimal turn) ≡ Some turn
time_read turn small =
    let (numeral, value) = decimal_is_IsNumeral turn small in
    rw (some_digits (decimal turn) numeral.0, all_digits (decimal turn) numeral.1, value)

pub time_whole : (turn : ℕ) → is_line (codes "#" ++ decimal turn) ≡ true
time_whole turn = line_of_word (codes "#" ++ decimal turn) (digits_word 10 turn)

-- ---- the value changes

-- nothing behind a value
pub or_none : {T : Type 0} (o : Option T) → option_or o None ≡ o
or_none None = refl
or_none (Some x) = refl

pub or_assoc : {T : Type 0} (one two three : Option T)
    → option_or (option_or one two) three ≡ option_or one (option_or two three)
or_assoc None two three = refl
or_assoc (Some x) two three = refl

-- no value, and no identifier
abbrev pub nothing : Option (List ℕ)
nothing = None

pub neither : (test : Bool) → (if test then nothing else nothing) ≡ nothing
neither true = refl
neither false = refl

-- the text of a value, up to its identifier
pub record IsValueText (text : List ℕ) : Type 0 where
  pub whole : is_line text ≡ true
  pub timeless : (rest : List ℕ) → time_in (text ++ rest) ≡ None
  pub changes : (identifier : List ℕ) → is_word identifier ≡ true
      → change_in (text ++ identifier) ≡ Some (identifier, text)

pub low : IsValueText (codes "0")
low = record {
  whole = refl;
  timeless = λ rest. refl;
  changes = λ identifier word. refl;
}

pub high : IsValueText (codes "1")
high = record {
  whole = refl;
  timeless = λ rest. refl;
  changes = λ identifier word. refl;
}

pub bits : (digits : List ℕ) → is_word digits ≡ true
    → IsValueText (codes "b" ++ digits ++ codes " ")
bits digits word = record {
  whole =
      line_append (codes "b" ++ digits) (codes " ") (line_of_word (codes "b" ++ digits) word) refl;
  timeless = λ rest. refl;
  changes = λ identifier is.
      ap longer_change (two_words (codes "b" ++ digits) identifier word is);
}

pub name : (text : List ℕ) → is_word text ≡ true → IsValueText (codes "s" ++ text ++ codes " ")
name text word = record {
  whole =
      line_append (codes "s" ++ text) (codes " ") (line_of_word (codes "s" ++ text) word) refl;
  timeless = λ rest. refl;
  changes = λ identifier is.
      ap longer_change (two_words (codes "s" ++ text) identifier word is);
}

-- what a line at a time gives, of those up to one
abbrev pub given_by : ℕ → ℕ → Option (List ℕ) → Option (List ℕ)
given_by time now given = if nat_le now time then given else None

pub given_none : (time now : ℕ) → given_by time now None ≡ None
given_none time now = neither (nat_le now time)

module _ (identifier : List ℕ) (time : ℕ) where
  -- what the lines of a text give the identifier up to the time, if the time in front of them is
  -- `now`
  abbrev pub value_of_text : ℕ → List ℕ → Option (List ℕ)
  value_of_text now text = last_value identifier time (timed now (lines_in text))

  -- A part at a time gives it this, or nothing.
  pub record Gives (now : ℕ) (text : List ℕ) (given : Option (List ℕ)) : Type 0 where
    pub read : (rest : List ℕ)
        → value_of_text now (text ++ rest) ≡ option_or (value_of_text now rest) given

  pub gives_none : (now : ℕ) → Gives now [] None
  gives_none now = record { read = λ rest. sym (or_none (value_of_text now rest)) }

  pub gives_both : (now : ℕ) (one other : List ℕ) (first second : Option (List ℕ))
      → Gives now one first → Gives now other second
      → Gives now (one ++ other) (option_or second first)
  gives_both now one other first second g h = record {
    read = λ rest.
        ap (value_of_text now) (append_assoc one other rest)
        ∙ g.read (other ++ rest) ∙ ap (λ found. option_or found first) (h.read rest)
        ∙ or_assoc (value_of_text now rest) second first;
  }

  -- an empty part gives nothing
  pub empty_gives : (now : ℕ) (given : Option (List ℕ)) → Gives now [] given → given ≡ None
  empty_gives now given g =
      ap (λ found. option_or found given) (sym (given_none time now)) ∙ sym (g.read [])
      ∙ given_none time now

  pub line_gives : (now : ℕ) (line : List ℕ) → is_line line ≡ true → time_in line ≡ None
      → Gives now (line ++ 10 ∷ []) (given_by time now (value_in identifier line))
  line_gives now line whole timeless = record {
    read = λ rest.
        ap (λ lines. last_value identifier time (timed now lines)) (first_line line rest whole)
        ∙ ap (λ at. last_value identifier time
        ((unwrap_or at now, line) ∷ timed (unwrap_or at now) (lines_in rest))) timeless;
  }

  -- a line of a time gives nothing, and sets the time of what is behind it
  pub time_passes : (now next : ℕ) (line rest : List ℕ) → is_line line ≡ true
      → time_in line ≡ Some next → value_in identifier line ≡ None
      → value_of_text now ((line ++ 10 ∷ []) ++ rest) ≡ value_of_text next rest
  time_passes now next line rest whole is none =
      ap (λ lines. last_value identifier time (timed now lines)) (first_line line rest whole)
      ∙ ap (λ at. last_value identifier time
      ((unwrap_or at now, line) ∷ timed (unwrap_or at now) (lines_in rest))) is
      ∙ ap (λ given. option_or (value_of_text next rest) (given_by time next given)) none
      ∙ ap (λ given. option_or (value_of_text next rest) given) (given_none time next)
      ∙ or_none (value_of_text next rest)

  -- a change of a value
  pub change_gives : (now : ℕ) (text other : List ℕ) → IsValueText text → is_word other ≡ true
      → Gives now (text ++ other ++ codes "\n")
      (given_by time now (if bytes_eq other identifier then Some text else None))
  change_gives now text other value word = record {
    read = λ rest.
        (line_gives now (text ++ other)
        (line_append text other value.whole (line_of_word other word)) (value.timeless other)).read
        rest
        ∙ ap (λ change. option_or (value_of_text now rest) (given_by time now (option_and_then
        (λ (c : List ℕ × List ℕ). if bytes_eq c.0 identifier then Some c.1 else None) change)))
        (value.changes other word);
  }
