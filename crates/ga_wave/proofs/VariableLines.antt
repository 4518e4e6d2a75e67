-- The variables of a text are read part by part.
use Rattle.std.proofs.Common.{◌≡◌, ◌∙◌, ℕ, Bool, true, false, List, [], ◌∷◌, ◌++◌, Option, Some, None, ap, append_assoc, codes, refl, subst, sym}
use Rattle.std.specs.Prelude.{◌||◌, if◌then◌else◌}
use Rattle.std.specs.List.{AllByRecursion, flat_map, list_any}
use Rattle.std.specs.Option.{option_or}
use Rattle.std.specs.Str.{bytes_eq}
use Rattle.std.proofs.lemmas.List.Splits.{slice_split_at}
use Rattle.ga_word.specs.Text.{is_blank}
use Rattle.ga_wave.specs.declared.signal.Signal.{Signal}
use Rattle.ga_wave.specs.declared.signal.Signal.TheVariants as signal
use Rattle.ga_wave.specs.Change.{signal_number}
use Rattle.ga_wave.specs.Header as header
use Rattle.ga_wave.specs.Header.{declared_type, signal_name}
use Rattle.ga_wave.specs.Identifier.{identifier}
use Rattle.ga_wave.specs.Reading.{LAST_DECLARATION, is_word, lines_in}
use Rattle.ga_wave.specs.Variables.{first_declared, identifier_in, same_scope, scopes_behind, variable_in, words_in}
use Rattle.ga_wave.proofs.HeaderLines.{identifier_word, line_of, name_word}
use Rattle.ga_wave.proofs.ReadingParts.{or_assoc}
use Rattle.ga_wave.proofs.Words.{first_line, is_line, none}

-- ---- the words of lines

-- a word in front of a blank
pub next_word : (word rest : List ℕ) → is_word word ≡ true
    → words_in (word ++ 32 ∷ rest) ≡ word ∷ words_in rest
next_word word rest whole = slice_split_at is_blank word 32 rest (none is_blank word whole) refl

-- the words in front of the identifier of a variable
front_words : (one : Signal) (rest : List ℕ)
    → (kind : List ℕ) × (size : List ℕ)
    × (words_in (codes "$var " ++ (declared_type one ++ rest))
    ≡ codes "$var" ∷ kind ∷ size ∷ words_in rest)
front_words signal.Did rest = (codes "string", codes "1", refl)
front_words signal.At rest = (codes "string", codes "1", refl)
front_words signal.Op rest = (codes "string", codes "1", refl)
front_words signal.Busy rest = (codes "wire", codes "1", refl)
front_words signal.P rest = (codes "reg", codes "10", refl)
front_words signal.T rest = (codes "reg", codes "18", refl)
front_words signal.S rest = (codes "reg", codes "18", refl)
front_words signal.R rest = (codes "reg", codes "18", refl)
front_words signal.A rest = (codes "reg", codes "18", refl)
front_words signal.B rest = (codes "reg", codes "9", refl)
front_words signal.Io rest = (codes "reg", codes "18", refl)
front_words (signal.Port side) rest = (codes "wire", codes "18", refl)

-- what is behind its name begins with a blank
behind_name : (one : Signal)
    → (back : List ℕ) × (header.bits (codes " ") one ++ codes " $end" ≡ 32 ∷ back)
behind_name signal.Did = (codes "$end", refl)
behind_name signal.At = (codes "$end", refl)
behind_name signal.Op = (codes "$end", refl)
behind_name signal.Busy = (codes "$end", refl)
behind_name signal.P = (codes "[9:0] $end", refl)
behind_name signal.T = (codes "[17:0] $end", refl)
behind_name signal.S = (codes "[17:0] $end", refl)
behind_name signal.R = (codes "[17:0] $end", refl)
behind_name signal.A = (codes "[17:0] $end", refl)
behind_name signal.B = (codes "[8:0] $end", refl)
behind_name signal.Io = (codes "[17:0] $end", refl)
behind_name (signal.Port side) = (codes "[17:0] $end", refl)

-- the line of a variable declares it, and leaves the scopes as they are
pub record IsVariable (words : List (List ℕ)) (name identifier : List ℕ) : Type 0 where
  pub variable : variable_in words ≡ Some (name, identifier)
  pub scopes : (outer : List (List ℕ)) → scopes_behind outer words ≡ outer

pub variable_line : (node number : ℕ) (one : Signal)
    → IsVariable (words_in (line_of node number one)) (signal_name node one)
    (identifier (signal_number number one))
variable_line node number one =
    let id = identifier (signal_number number one) in
    let name = signal_name node one in
    let end = header.bits (codes " ") one ++ codes " $end" in
    let (kind, size, front) = front_words one (id ++ (codes " " ++ (name ++ end))) in
    let (back, is) = behind_name one in
    let whole : words_in (line_of node number one)
    ≡ codes "$var" ∷ kind ∷ size ∷ id ∷ name ∷ words_in back =
    front ∙ ap (λ words. codes "$var" ∷ kind ∷ size ∷ words)
    (next_word id (name ++ end) (identifier_word (signal_number number one))
    ∙ ap (λ text. id ∷ words_in (name ++ text)) is
    ∙ ap (λ words. id ∷ words) (next_word name back (name_word node one))) in
    subst (λ words. IsVariable words name id) (sym whole)
    (record { variable = refl; scopes = λ outer. refl })

-- ---- part by part

first_given : {T : Type 0} (one other : Bool) (given : Option T)
    → option_or (if one then given else None) (if other then given else None)
    ≡ (if (one || other) then given else None)
first_given true true None = refl
first_given true true (Some x) = refl
first_given true false None = refl
first_given true false (Some x) = refl
first_given false other given = refl

module _ (scope : List (List ℕ)) (name : List ℕ) where
  -- what a text declares for the name in the scope, behind these open scopes
  abbrev pub declared_by : List (List ℕ) → List ℕ → Option (List ℕ)
  declared_by outer text = first_declared scope name outer (lines_in text)

  -- A part declares this for it, or nothing. Behind it the next scopes are open.
  pub record Declares (outer next : List (List ℕ)) (text : List ℕ)
      (found : Option (List ℕ)) : Type 0 where
    pub read : (rest : List ℕ)
        → declared_by outer (text ++ rest) ≡ option_or found (declared_by next rest)

  pub declares_none : (outer : List (List ℕ)) → Declares outer outer [] None
  declares_none outer = record { read = λ rest. refl }

  pub declares_both : (outer middle next : List (List ℕ)) (one other : List ℕ)
      (first second : Option (List ℕ))
      → Declares outer middle one first → Declares middle next other second
      → Declares outer next (one ++ other) (option_or first second)
  declares_both outer middle next one other first second p q = record {
    read = λ rest.
        ap (declared_by outer) (append_assoc one other rest) ∙ p.read (other ++ rest)
        ∙ ap (option_or first) (q.read rest) ∙ sym (or_assoc first second (declared_by next rest));
  }

  pub line_declares : (outer next : List (List ℕ)) (line : List ℕ) → is_line line ≡ true
      → bytes_eq line LAST_DECLARATION ≡ false → scopes_behind outer (words_in line) ≡ next
      → Declares outer next (line ++ 10 ∷ [])
      (if same_scope outer scope then identifier_in name (words_in line) else None)
  line_declares outer next line whole other behind = record {
    read = λ rest.
        let found = if same_scope outer scope then identifier_in name (words_in line) else None in
        ap (first_declared scope name outer) (first_line line rest whole)
        ∙ ap (λ last. if last then None else option_or found
        (first_declared scope name (scopes_behind outer (words_in line)) (lines_in rest))) other
        ∙ ap (λ scopes. option_or found (first_declared scope name scopes (lines_in rest))) behind;
  }

  -- parts of which some declare it
  pub some_declares : {X : Type 0} (outer : List (List ℕ)) (text : X → List ℕ) (test : X → Bool)
      (given : Option (List ℕ)) (xs : List X)
      → AllByRecursion (λ x. Declares outer outer (text x) (if test x then given else None)) xs
      → Declares outer outer (flat_map text xs) (if list_any test xs then given else None)
  some_declares outer text test given [] all = declares_none outer
  some_declares outer text test given (x ∷ xs) all =
      subst (Declares outer outer (text x ++ flat_map text xs))
      (first_given (test x) (list_any test xs) given)
      (declares_both outer outer outer (text x) (flat_map text xs) (if test x then given else None)
      (if list_any test xs then given else None) all.0
      (some_declares outer text test given xs all.1))
