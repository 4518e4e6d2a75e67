-- Which tokens are expressions of numbers and of the name SIZE, each worked out by hand.
use Rattle.std.proofs.Common.{◌≡◌, ℕ, Bool, true, false, List, [], ◌∷◌, refl}
use Rattle.std.specs.Prelude.{codes}
use Rattle.ga_expand.specs.Expression.{behind_sign, inside, left_of, parted, right_of}
use Rattle.ga_expand.specs.Literal.{literal_of}
use Rattle.ga_expand.specs.Operand.{is_expression, is_operand}

abbrev is_one : List ℕ → Bool
is_one token = is_expression (codes "SIZE" ∷ []) token

sum : is_one (codes "SIZE+1") ≡ true
unfolding is_operand parted inside behind_sign left_of right_of literal_of
sum = refl

product : is_one (codes "2*(SIZE)") ≡ true
unfolding is_operand parted inside behind_sign left_of right_of literal_of
product = refl

union : is_one (codes "SIZE|1") ≡ true
unfolding is_operand parted inside behind_sign left_of right_of literal_of
union = refl

shift : is_one (codes "1<<3") ≡ true
unfolding is_operand parted inside behind_sign left_of right_of literal_of
shift = refl

within : is_one (codes "(5)") ≡ true
unfolding is_operand parted inside behind_sign left_of right_of literal_of
within = refl

-- `my` and `label` are no names here
difference : is_one (codes "my-label") ≡ false
unfolding is_operand parted inside behind_sign left_of right_of literal_of
difference = refl

-- an operator has an operand on each side
operators : is_one (codes "<<<<<<<") ≡ false
unfolding is_operand parted inside behind_sign left_of right_of literal_of
operators = refl

-- a number or a name alone is none
name : is_one (codes "SIZE") ≡ false
unfolding parted inside behind_sign literal_of
name = refl

unknown : is_one (codes "foo") ≡ false
unfolding parted inside behind_sign literal_of
unknown = refl

negative : is_one (codes "-5") ≡ false
unfolding parted inside behind_sign literal_of
negative = refl
