-- The names that a token of a text may be meant as.
use Rattle.std.specs.Prelude.{ℕ, ◌-◌, ◌||◌, Bool, false, List, [], ◌∷◌, ◌++◌, codes, length, map, slice_get, take, unwrap_or, Option, Some, None, if◌then◌else◌}
use Rattle.std.specs.List.{position}
use Rattle.std.specs.Option.{option_and_then}
use Rattle.std.specs.Str.{bytes_eq, str_eq_ignore_ascii_case}
use Rattle.ga_word.specs.Op.{name_of, opcodes}
use Rattle.ga_pack.specs.Model.Layout.{names_in}
use Rattle.ga_pack.specs.Model.Source.{Item}
use Rattle.ga_pack.specs.Model.Text.{Place, lexemes, texts_of}
use Rattle.ga_expand.specs.Constants.{is_among, words_of_definitions}
use Rattle.ga_expand.specs.Texts.{is_at}
use Rattle.ga_expand.specs.declared.error.ExpandErrorKind.{ExpandErrorKind}
use Rattle.ga_expand.specs.declared.error.ExpandErrorKind.TheVariants as expand_kind
use Rattle.ga_hints.specs.Bodies.{first_open}

-- the text of the first token of a text that is at a place
abbrev pub word_at : List ℕ → Place → Option (List ℕ)
word_at text place =
    option_and_then (slice_get (texts_of text)) (position (is_at place) (lexemes text))

-- the tokens of a text in front of the first one that is at a place
abbrev pub words_before : List ℕ → Place → List (List ℕ)
words_before text place =
    take (unwrap_or (position (is_at place) (lexemes text)) 0) (texts_of text)

-- the words besides opcodes that may begin an item or a section: those of the language, the
-- directions, and the ports and the other numbers that have a name
abbrev pub item_words : List (List ℕ)
item_words =
    codes "node" ∷ codes "align" ∷ codes "data" ∷ codes "use" ∷ codes "to" ∷ codes "north"
    ∷ codes "east" ∷ codes "south" ∷ codes "west" ∷ codes "right" ∷ codes "down" ∷ codes "left"
    ∷ codes "up" ∷ codes "io" ∷ codes "rdlu" ∷ codes "warm" ∷ []

-- What is directly behind each token that is a word. The first of these tokens is behind one or
-- not.
unfoldable pub names_from : List ℕ → Bool → List (List ℕ) → List (List ℕ)
names_from word behind [] = []
names_from word behind (token ∷ tokens) =
    (if behind then token ∷ [] else []) ++ names_from word (bytes_eq token word) tokens

-- the words of the language
abbrev pub language_words : List (List ℕ)
language_words = map name_of opcodes ++ item_words

-- the constants and the bodies of a text with these tokens
abbrev pub constants_in : List (List ℕ) → List (List ℕ)
constants_in tokens = names_from (codes "const") false tokens

abbrev pub bodies_in : List (List ℕ) → List (List ℕ)
bodies_in tokens = names_from (codes "body") false tokens

-- ---- the names that may be meant at a fault of a text with these tokens

-- a token of the expansion that means nothing
unfoldable pub names_for_source : List (List ℕ) → List (List ℕ)
names_for_source tokens = language_words ++ constants_in tokens ++ bodies_in tokens

-- a word with which a definition begins
abbrev pub begins_definition : List ℕ → Bool
begins_definition word = bytes_eq word (codes "const") || bytes_eq word (codes "body")

-- an opcode that stands only in brackets, but for the case of its letters
abbrev pub is_bracketed : List ℕ → Bool
is_bracketed word =
    str_eq_ignore_ascii_case word (codes "@p") || str_eq_ignore_ascii_case word (codes "!p")

-- Whether a word isn't meant as another one, although it means nothing where it stands: it is a
-- word of definitions, an opcode that stands only in brackets, or the name of a constant or a body
-- of a text with these tokens.
abbrev pub is_known : List (List ℕ) → List ℕ → Bool
is_known all word =
    is_among words_of_definitions word || is_bracketed word || is_among (bodies_in all) word
    || is_among (constants_in all) word

-- what a text may begin with: a definition, the line of another file, or a section
abbrev pub first_words : List (List ℕ)
first_words = codes "const" ∷ codes "body" ∷ codes "include" ∷ codes "node" ∷ []

-- behind a token the name of a constant or a body is defined
abbrev pub defines : Option (List ℕ) → Bool
defines (Some token) = begins_definition token
defines None = false

-- behind a token the name of a body is used
abbrev pub is_use : Option (List ℕ) → Bool
is_use (Some token) = bytes_eq token (codes "use")
is_use None = false

abbrev pub last_of : List (List ℕ) → Option (List ℕ)
last_of tokens = slice_get tokens (length tokens - 1)

-- the constants that are defined in these tokens: the last token names none, since its value is
-- missing
abbrev pub defined_constants : List (List ℕ) → List (List ℕ)
defined_constants tokens = constants_in (take (length tokens - 1) tokens)

-- the bodies in front of the first one without an `end`, of which those behind it may be a part
abbrev pub bodies_before_open : List (List ℕ) → List (List ℕ)
bodies_before_open tokens =
    let names = bodies_in tokens in take (unwrap_or (first_open tokens) (length names)) names

-- A word that is no value, or no defined body, behind these tokens. A name that is defined there,
-- or the name of a body there, isn't meant as another one.
abbrev pub names_for_expand : ExpandErrorKind → List (List ℕ) → List ℕ → List (List ℕ)
names_for_expand expand_kind.BadToken before word =
    if defines (last_of before) then [] else defined_constants before
names_for_expand expand_kind.UnknownBody before word =
    if is_among (bodies_in before) word then [] else bodies_before_open before
names_for_expand kind before word = []

-- A label that isn't defined, by the items of its node; or the address of one, which no constant
-- is.
abbrev pub names_for_label : Bool → List Item → List (List ℕ) → List (List ℕ)
names_for_label is_address items tokens =
    names_in items ++ (if is_address then [] else constants_in tokens)
