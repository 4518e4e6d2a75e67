-- The definitions of the fullest stacks at worked values.
use Rattle.std.proofs.Common.{◌≡◌, ℕ, [], refl}
use Rattle.std.specs.Prelude.{codes, Option, Some, None}
use Rattle.std.specs.Fmt.{digits}
use Rattle.ga_word.specs.Hex.{hex_digits}
use Rattle.ga_trace.specs.declared.depth.StackDepth.{StackDepth}
use Rattle.ga_trace.specs.declared.depth.StackDepths.{StackDepths}
use Rattle.ga_profile.specs.Share.{cell}
use Rattle.ga_profile.specs.Stacks.{fullness, fullness_if, headed, stack_row, stack_row_if}

-- a stack that held at most some words
abbrev with_most : ℕ → Option ℕ → StackDepth
with_most most passed = record { words = 0; most = most; passed = passed }

abbrev both : ℕ → ℕ → StackDepths
both data_words return_words = record {
  data_stack = with_most data_words None;
  return_stack = with_most return_words None;
}

-- half of the data stack is more than 4 of 9
half_of_data : fullness (both 5 4) ≡ 45
half_of_data = refl

-- 8 of 9 are more than 8 of 10
eight_of_each : fullness (both 8 8) ≡ 80
eight_of_each = refl

-- full stacks are equally full
full_data : fullness (both 10 0) ≡ 90
full_data = refl

full_return : fullness (both 0 9) ≡ 90
full_return = refl

not_begun : fullness_if None (both 5 4) ≡ 0
not_begun = refl

both_empty : stack_row_if [] 0 709 (both 0 0) ≡ []
both_empty = refl

a_row : stack_row [] 709 (both 4 1) ≡ codes "709        4        1\n"
unfolding stack_row cell digits
a_row = refl

no_room : stack_row [] 9 (record {
  data_stack = with_most 12 (Some 0x01A);
  return_stack = with_most 10 (Some 0x203);
}) ≡ codes "009       12       10  data, passed at 01A  return, passed at 203\n"
unfolding stack_row cell digits hex_digits
no_room = refl

no_rows : headed [] ≡ []
no_rows = refl
