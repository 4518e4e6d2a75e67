-- Which tokens are expressions.
use Rattle.std.specs.Prelude.{◌&&◌, ◌||◌, ℕ, zero, suc, Bool, true, false, not, List, Option, Some, None, Result, Ok}
use Rattle.std.specs.Option.{is_some}
use Rattle.ga_expand.specs.Constants.{as_number, is_among}
use Rattle.ga_expand.specs.Expression.{behind_sign, inside, left_of, parted, right_of}
use Rattle.ga_expand.specs.Literal.{literal_of}
use Rattle.ga_expand.specs.declared.error.ExpandErrorKind.{ExpandErrorKind}
use Rattle.ga_expand.specs.declared.expression.Parting.{Parting}

-- a form of a number that the plain language lacks, in range or not
abbrev pub has_form : Result (Option ℕ) ExpandErrorKind → Bool
has_form (Ok None) = false
has_form number = true

abbrev pub is_literal : List ℕ → Bool
is_literal text = has_form (literal_of text)

-- Whether a text has an operator between two operands, is in parentheses, or has a sign in front of
-- it. `-5` is a number.
abbrev pub has_parts : List ℕ → Bool
has_parts text =
    is_some (parted text) || is_some (inside text)
    || (is_some (behind_sign text) && not (is_literal text))

-- a text without parts is a number, or one of some names
abbrev pub is_plain : List (List ℕ) → List ℕ → Bool
is_plain names text = is_literal text || is_some (as_number text) || is_among names text

-- the same of a text by those of its parts
abbrev pub are_parts : List (List ℕ) → List ℕ → (List ℕ → Bool) → Option Parting
    → Option (List ℕ) → Option (List ℕ) → Bool
are_parts names text holds (Some parting) within signed =
    holds (left_of text parting) && holds (right_of text parting)
are_parts names text holds None (Some within) signed = holds within
are_parts names text holds None None (Some operand) = holds operand
are_parts names text holds None None None = is_plain names text

-- whether a text is a number or one of some names, or is made of them in at most this many levels
abbrev pub is_operand_within : ℕ → List (List ℕ) → List ℕ → Bool
is_operand_within zero names text = false
is_operand_within (suc levels) names text =
    are_parts names text (is_operand_within levels names) (parted text) (inside text)
    (behind_sign text)

unfoldable pub is_operand : List (List ℕ) → List ℕ → Bool
is_operand names text = is_operand_within 64 names text

-- Whether a token is an expression of numbers and of some names. Its value, if it has one, isn't
-- asked for.
abbrev pub is_expression : List (List ℕ) → List ℕ → Bool
is_expression names token = has_parts token && is_operand names token
