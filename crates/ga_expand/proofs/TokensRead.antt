-- The tokens of a text are read one by one.
use Rattle.std.proofs.Common.{◌≡◌, ◌∙◌, List, [], ◌∷◌, sym, ap, Ok, Err, Result}
use Rattle.ga_expand.specs.Bodies.{Unfolding, go_on, read, unfolded_from, whole}
use Rattle.ga_expand.specs.Error.{Fault}
use Rattle.ga_expand.specs.Expanding.{Piece}

module _ (all : Result (List Piece) Fault) (before : Unfolding) (piece : Piece)
    (left others : List Piece) (cut : left ≡ piece ∷ others)
    (so_far : unfolded_from before left ≡ all) where
  read_here : go_on (read before piece) (λ next. unfolded_from next others) ≡ all
  unfolding unfolded_from
  read_here = ap (unfolded_from before) (sym cut) ∙ so_far

  pub one_read : (after : Unfolding) → read before piece ≡ Ok after
      → unfolded_from after others ≡ all
  one_read after e =
      ap (λ (r : Result Unfolding Fault). go_on r (λ next. unfolded_from next others)) (sym e)
      ∙ read_here

  pub one_failed : (fault : Fault) → read before piece ≡ Err fault → all ≡ Err fault
  one_failed fault e =
      sym read_here
      ∙ ap (λ (r : Result Unfolding Fault). go_on r (λ next. unfolded_from next others)) e

pub all_read : (all : Result (List Piece) Fault) (now : Unfolding) (left : List Piece)
    → left ≡ [] → unfolded_from now left ≡ all → all ≡ whole now
unfolding unfolded_from
all_read all now left none so_far = sym so_far ∙ ap (unfolded_from now) none
