-- Names that may be meant and hints, each worked out by hand.
use Rattle.std.proofs.Common.{◌≡◌, ◌-◌, ℕ, false, List, [], ◌∷◌, Option, Some, None, length, refl, take}
use Rattle.std.specs.Prelude.{codes}
use Rattle.std.specs.Fmt.{digits}
use Rattle.ga_pack.specs.Model.Text.{lexemes, texts_of}
use Rattle.ga_expand.specs.Expression.{behind_sign, inside, left_of, parted, right_of}
use Rattle.ga_expand.specs.Literal.{literal_of}
use Rattle.ga_expand.specs.Operand.{is_operand}
use Rattle.ga_hints.specs.Hints.{Body, Definition, Expression, Hint, Label, bad_token_hint, is_label, label_in}
use Rattle.ga_hints.specs.Names.{bodies_in, constants_in, names_from, word_at}
use Rattle.ga_hints.specs.Nearest.{nearest_of}
use Rattle.ga_hints.specs.Size.{size_text}

-- the names of a text
constants :
    constants_in (texts_of (codes "const SIZE 5\nbody SEND PORT\nend\nconst LAST 7\nnode 1"))
    ≡ codes "SIZE" ∷ codes "LAST" ∷ []
unfolding names_from texts_of lexemes
constants = refl

bodies : bodies_in (texts_of (codes "const SIZE 5\nbody SEND PORT\nend\nconst LAST 7\nnode 1"))
    ≡ codes "SEND" ∷ []
unfolding names_from texts_of lexemes
bodies = refl

-- the token at a place, which a token begins at
at_place : word_at (codes "node 1\n  5 SIZW") (record { line = 2; column = 5 })
    ≡ Some (codes "SIZW")
unfolding texts_of lexemes
at_place = refl

inside_token : word_at (codes "node 1\n  5 SIZW") (record { line = 2; column = 6 }) ≡ None
unfolding texts_of lexemes
inside_token = refl

-- `&` isn't part of the name
label_of_address : label_in (codes "&loop") ≡ codes "loop"
label_of_address = refl

-- a word that is a name isn't meant as another one
not_another : nearest_of (codes "drop") (codes "dro" ∷ codes "drop" ∷ []) ≡ None
not_another = refl

-- a name of two letters is near only by case
short_name : nearest_of (codes "for") (codes "or" ∷ codes "if" ∷ []) ≡ None
short_name = refl

-- a word that differs from a name in the case of its letters alone is meant as that name, although
-- another one comes before it
recased : nearest_of (codes "Size") (codes "SIZ" ∷ codes "SIZE" ∷ codes "size" ∷ [])
    ≡ Some (codes "SIZE")
recased = refl

-- what may help with the last word of a text that is one part
hint_for_last : List ℕ → List ℕ → Option Hint
hint_for_last text word =
    let tokens = texts_of text in
    bad_token_hint tokens (take (length tokens - 1) tokens) tokens word

-- a word that means nothing is the name of a body, or else that of a label, or else an expression
body_word : hint_for_last (codes "body ab 5 end\nnode 1\n ab: ab") (codes "ab")
    ≡ Some (Body (codes "ab"))
unfolding hint_for_last names_from texts_of lexemes
body_word = refl

-- behind `use` the name of a body is used already, even if `use` is the name of a label
used_word : hint_for_last (codes "body ab 5 end\nnode 1 call use ab") (codes "ab") ≡ None
unfolding hint_for_last names_from texts_of lexemes
used_word = refl

label_word : hint_for_last (codes "node 1\n foo: 5\n foo") (codes "foo")
    ≡ Some (Label (codes "foo"))
unfolding hint_for_last names_from texts_of lexemes
label_word = refl

sum_word : hint_for_last (codes "const SIZE 5\nnode 1\n SIZE+1") (codes "SIZE+1")
    ≡ Some Expression
unfolding hint_for_last names_from texts_of lexemes is_operand literal_of parted
    inside behind_sign left_of right_of
sum_word = refl

negative_word : hint_for_last (codes "const SIZE 5\nnode 1\n -SIZE") (codes "-SIZE")
    ≡ Some Expression
unfolding hint_for_last names_from texts_of lexemes is_operand literal_of parted
    inside behind_sign left_of right_of
negative_word = refl

definition_word : hint_for_last (codes "node 1 dup\nconst") (codes "const") ≡ Some Definition
unfolding hint_for_last names_from texts_of lexemes literal_of parted inside behind_sign
definition_word = refl

-- an opcode that stands only in brackets is none of those that are near
bracketed_word : hint_for_last (codes "node 1 @P") (codes "@P") ≡ None
unfolding hint_for_last names_from texts_of lexemes literal_of parted inside behind_sign
bracketed_word = refl

-- what can't be the name of a label
no_name : is_label (texts_of (codes "node 1\n my-loop ; my-loop: .")) (codes "my-loop") ≡ false
unfolding texts_of lexemes
no_name = refl

opcode : is_label (texts_of (codes "node 1 data dup dup:")) (codes "dup") ≡ false
unfolding texts_of lexemes
opcode = refl

-- how a size is written
written : size_text (record { code = 37; «data» = 34 })
    ≡ codes "it needs 71 words: 37 code, 34 data; 7 over"
unfolding digits
written = refl
