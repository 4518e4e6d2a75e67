-- Each token of a text is a text: a blank is one byte.
use Rattle.std.proofs.Common.{◌≡◌, ◌∙◌, ◌<◌, ◌&&◌, ◌==◌, ◌++◌, ℕ, zero, suc, Bool, true, false, cond, List, [], ◌∷◌, length, map, get_or, refl, sym, ap, subst, arith, append-nil, if◌then◌else◌}
use Rattle.std.specs.Prelude.{IsUtf8, codes, filter, slice_range}
use Rattle.std.specs.List.{AllByRecursion, onto_first, slice_split}
use Rattle.std.specs.Str.{bytes_eq}
use Rattle.std.proofs.Math.Utf8.{encode, encodes, scalar, scalars}
use Rattle.std.proofs.lemmas.Bool.{and_parts}
use Rattle.std.proofs.lemmas.Bool.Decides.{nat_tests}
use Rattle.std.proofs.lemmas.List.{get_or-map, length-map}
use Rattle.std.proofs.lemmas.List.Splits.{length-slice_split}
use Rattle.std.proofs.lemmas.Str.{IsUtf8-append, IsUtf8-nil, encode_ascii, inside_one}
use Rattle.ga_word.specs.Text.{is_blank}
use Rattle.ga_pack.specs.Model.Text.{Lexeme, Run, before_comment, lexemes, lexemes_from, line_lexemes, lines_of, runs_from, texts_of}
use Rattle.ga_source.specs.declared.token.Token.{Token}

-- ---- the parts of a text that is cut at ASCII characters

-- bytes in front of the first of some parts
abbrev onto_parts : List ℕ → List (List ℕ) → List (List ℕ)
onto_parts bytes [] = bytes ∷ []
onto_parts bytes (part ∷ parts) = (bytes ++ part) ∷ parts

onto_more : (byte : ℕ) (bytes : List ℕ) (parts : List (List ℕ))
    → onto_first byte (onto_parts bytes parts) ≡ onto_parts (byte ∷ bytes) parts
onto_more byte bytes [] = refl
onto_more byte bytes (part ∷ parts) = refl

onto_none : (parts : List (List ℕ)) → 0 < length parts → parts ≡ onto_parts [] parts
onto_none [] some = absurd (omega arith)
onto_none (part ∷ parts) some = refl

-- no cut is at these bytes
uncut : (cut : ℕ → Bool) (bytes rest : List ℕ)
    → ((k : ℕ) → k < length bytes → cut (get_or bytes k 0) ≡ false)
    → slice_split cut (bytes ++ rest) ≡ onto_parts bytes (slice_split cut rest)
uncut cut [] rest none =
    onto_none (slice_split cut rest) (omega (arith, length-slice_split cut rest))
uncut cut (byte ∷ bytes) rest none =
    let first : cut byte ≡ false = none 0 (omega arith) in
    let others = uncut cut bytes rest (λ k inside. none (suc k) (omega arith)) in
    ap (λ b. cond b ([] ∷ slice_split cut (bytes ++ rest))
    (onto_first byte (slice_split cut (bytes ++ rest)))) first
    ∙ ap (onto_first byte) others ∙ onto_more byte bytes (slice_split cut rest)

onto_whole : (bytes : List ℕ) (parts : List (List ℕ)) → IsUtf8 bytes
    → AllByRecursion IsUtf8 parts → AllByRecursion IsUtf8 (onto_parts bytes parts)
onto_whole bytes [] whole all = (whole, tt)
onto_whole bytes (part ∷ parts) whole all = (IsUtf8-append bytes part whole all.0, all.1)

char_whole : (c : ℕ) → scalar c ≡ true → IsUtf8 (encode c)
char_whole c is = (c ∷ [], (ap (λ t. t && true) is, append-nil (encode c)))

-- a character at which no cut is has no byte at which one is
inside_uncut : (cut : ℕ → Bool) → ((b : ℕ) → cut b ≡ true → b < 128) → (c : ℕ)
    → cut c ≡ false → (k : ℕ) → k < length (encode c)
    → (b : Bool) → cut (get_or (encode c) k 0) ≡ b → b ≡ false
inside_uncut cut small c none k inside false is = refl
inside_uncut cut small c none k inside true is =
    let low = small (get_or (encode c) k 0) is in
    let same : c ≡ get_or (encode c) k 0 =
    inside_one c [] (encode c) k (sym (append-nil (encode c))) inside low in
    sym is ∙ ap cut (sym same) ∙ none

parts_by : (cut : ℕ → Bool) → ((b : ℕ) → cut b ≡ true → b < 128) → (c : ℕ) (rest : List ℕ)
    → scalar c ≡ true → AllByRecursion IsUtf8 (slice_split cut rest)
    → (b : Bool) → cut c ≡ b → AllByRecursion IsUtf8 (slice_split cut (encode c ++ rest))
parts_by cut small c rest is all true cuts =
    let one : encode c ≡ c ∷ [] = encode_ascii c (small c cuts) in
    let split : slice_split cut (encode c ++ rest) ≡ [] ∷ slice_split cut rest =
    ap (λ bytes. slice_split cut (bytes ++ rest)) one
    ∙ ap (λ t. cond t ([] ∷ slice_split cut rest) (onto_first c (slice_split cut rest))) cuts in
    subst (AllByRecursion IsUtf8) (sym split) (IsUtf8-nil, all)
parts_by cut small c rest is all false cuts =
    let split = uncut cut (encode c) rest
    (λ k inside. inside_uncut cut small c cuts k inside (cut (get_or (encode c) k 0)) refl) in
    subst (AllByRecursion IsUtf8) (sym split)
    (onto_whole (encode c) (slice_split cut rest) (char_whole c is) all)

chars_whole : (cut : ℕ → Bool) → ((b : ℕ) → cut b ≡ true → b < 128) → (cs : List ℕ)
    → scalars cs ≡ true → AllByRecursion IsUtf8 (slice_split cut (encodes cs))
chars_whole cut small [] are = (IsUtf8-nil, tt)
chars_whole cut small (c ∷ cs) are =
    let parts = and_parts (scalar c) (scalars cs) are in
    parts_by cut small c (encodes cs) parts.0 (chars_whole cut small cs parts.1) (cut c) refl

parts_whole : (cut : ℕ → Bool) → ((b : ℕ) → cut b ≡ true → b < 128) → (bytes : List ℕ)
    → IsUtf8 bytes → AllByRecursion IsUtf8 (slice_split cut bytes)
parts_whole cut small bytes whole =
    subst (λ t. AllByRecursion IsUtf8 (slice_split cut t)) whole.1.1
    (chars_whole cut small whole.0 whole.1.0)

line_end_low : (b : ℕ) → (b == 10) ≡ true → b < 128
line_end_low b is = grind (arith, nat_tests)

blank_low : (b : ℕ) → is_blank b ≡ true → b < 128
blank_low b is = grind (arith, nat_tests)

-- ---- the tokens of a text

abbrev AreRuns : List Run → Type 0
AreRuns runs = AllByRecursion (λ run. IsUtf8 run.text) runs

runs_whole : (texts : List (List ℕ)) (offset : ℕ) → AllByRecursion IsUtf8 texts
    → AreRuns (runs_from offset texts)
runs_whole [] offset all = tt
runs_whole (text ∷ texts) offset all = (all.0, runs_whole texts _ all.1)

-- either of two lists
either_whole : (one other : List Run) → AreRuns one → AreRuns other → (b : Bool)
    → AreRuns (if b then one else other)
either_whole one other all rest true = all
either_whole one other all rest false = rest

kept_whole : (keep : Run → Bool) (runs : List Run) → AreRuns runs → AreRuns (filter keep runs)
kept_whole keep [] all = tt
kept_whole keep (run ∷ runs) all =
    let rest = kept_whole keep runs all.1 in
    either_whole (run ∷ filter keep runs) (filter keep runs) (all.0, rest) rest (keep run)

uncommented_whole : (runs : List Run) → AreRuns runs → AreRuns (before_comment runs)
uncommented_whole [] all = tt
uncommented_whole (run ∷ runs) all =
    either_whole [] (run ∷ before_comment runs) tt (all.0, uncommented_whole runs all.1)
    (bytes_eq run.text (codes "\\"))

abbrev AreWhole : List Lexeme → Type 0
AreWhole found = AllByRecursion (λ lexeme. IsUtf8 lexeme.text) found

lexemes_whole : (at : Run → Lexeme) → ((run : Run) → (at run).text ≡ run.text)
    → (runs : List Run) → AreRuns runs → AreWhole (map at runs)
lexemes_whole at same [] all = tt
lexemes_whole at same (run ∷ runs) all =
    (subst IsUtf8 (sym (same run)) all.0, lexemes_whole at same runs all.1)

joined_whole : (one other : List Lexeme) → AreWhole one → AreWhole other → AreWhole (one ++ other)
joined_whole [] other all rest = rest
joined_whole (lexeme ∷ one) other all rest = (all.0, joined_whole one other all.1 rest)

line_whole : (line offset : ℕ) (bytes : List ℕ) → IsUtf8 bytes
    → AreWhole (line_lexemes line offset bytes)
line_whole line offset bytes whole =
    lexemes_whole _ (λ run. refl) _
    (uncommented_whole _ (kept_whole _ _
    (runs_whole (slice_split is_blank bytes) 0 (parts_whole is_blank blank_low bytes whole))))

lines_whole : (lines : List (List ℕ)) (line offset : ℕ) → AllByRecursion IsUtf8 lines
    → AreWhole (lexemes_from line offset lines)
lines_whole [] line offset all = tt
lines_whole (bytes ∷ lines) line offset all =
    joined_whole (line_lexemes line offset bytes) _ (line_whole line offset bytes all.0)
    (lines_whole lines _ _ all.1)

tokens_whole : (text : List ℕ) → IsUtf8 text → AreWhole (lexemes text)
unfolding lexemes
tokens_whole text whole =
    lines_whole (lines_of text) 1 0 (parts_whole (λ byte. byte == 10) line_end_low text whole)

-- ---- one of them

text_at : (found : List Lexeme) (index : ℕ) (none : List ℕ) → AreWhole found
    → index < length (map (λ lexeme. lexeme.text) found)
    → IsUtf8 (get_or (map (λ lexeme. lexeme.text) found) index none)
text_at [] index none all inside = absurd (omega arith)
text_at (lexeme ∷ found) zero none all inside = all.0
text_at (lexeme ∷ found) (suc index) none all inside =
    text_at found index none all.1 (omega arith)

abbrev slice_of : List ℕ → Token → List ℕ
slice_of text token = slice_range text token.start token.end

-- what a token is written as is a text
pub token_whole : (text : List ℕ) (tokens : List Token) (index : ℕ) (other : Token)
    → IsUtf8 text → index < length tokens
    → map (λ t. slice_range text t.start t.end) tokens ≡ texts_of text
    → IsUtf8 (slice_of text (get_or tokens index other))
unfolding texts_of
token_whole text tokens index other whole inside slices =
    let texts = map (λ lexeme. lexeme.text) (lexemes text) in
    let within : index < length texts =
    omega (arith, ap length slices, length-map tokens (slice_of text)) in
    let is : get_or texts index (slice_of text other) ≡ slice_of text (get_or tokens index other) =
    ap (λ ts. get_or ts index (slice_of text other)) (sym slices)
    ∙ get_or-map (slice_of text) tokens index other (slice_of text other) inside in
    subst IsUtf8 is (text_at (lexemes text) index _ (tokens_whole text whole) within)
