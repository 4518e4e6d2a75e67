use Rattle.std.proofs.Common.{◌≡◌, ◌∙◌, ℕ, List, Some, ap, codes, sym, true}
use Rattle.std.proofs.lemmas.Bool.{true≢false}
use Rattle.clap.specs.Words.{Row, first_of, found_of, rows_of}
use Rattle.clap.proofs.WalkLemmas.{first_value-rows}
use Rattle.ga_input.specs.declared.loading.Loading.{Loading}
use Rattle.ga_input.specs.declared.loading.Loading.TheVariants.{Any, Place, Route}
use Rattle.ga_command_line.specs.Flag.{is_set}
use Rattle.ga_command_line.specs.Loading.{IsLoadingAt}
use Rattle.ga_command_line.proofs.loading.loading_in.Goals as goal

pub returns-in-true-None-clause-loading : goal.returns-in-true-None-clause-loading
returns-in-true-None-clause-loading c = (
  sym c.in-true-None.ensures,
  sym (c.in-true-None.ensures' ∙ first_value-rows (found_of c.args.found.now) (codes "ROUTE")),
)

pub returns-in-false-None-clause-loading : goal.returns-in-false-None-clause-loading
returns-in-false-None-clause-loading c = (
  sym c.in-false-None.ensures,
  sym (c.in-false-None.ensures' ∙ first_value-rows (found_of c.args.found.now) (codes "ROUTE")),
)

pub returns-in_ok-from_str-in-false-Some-clause-loading :
    goal.returns-in_ok-from_str-in-false-Some-clause-loading
returns-in_ok-from_str-in-false-Some-clause-loading c = (
  sym c.in-false-Some.ensures,
  sym (c.in-false-Some.ensures' ∙ first_value-rows (found_of c.args.found.now) (codes "ROUTE"))
      ∙ ap Some (sym c.in_ok-from_str-in-false-Some.ensures.ok),
)

-- with both no loading is asked for
not_both : (rows : List Row) (loading : Loading) (route : List ℕ)
    → true ≡ is_set (codes "PLACE") rows → Some route ≡ first_of (codes "ROUTE") rows
    → IsLoadingAt rows loading → ⊥
not_both rows Any route place named at = true≢false (place ∙ at.0)
not_both rows Place route place named at = let both = named ∙ at.1 in cc
not_both rows (Route names) route place named at = true≢false (place ∙ at.0)

pub returns-in-true-Some-clause-right : goal.returns-in-true-Some-clause-right
returns-in-true-Some-clause-right c = λ loading at.
    absurd (not_both (rows_of (found_of c.args.found.now)) loading c.in-true-Some.field-0-1.now
    c.in-true-Some.ensures (c.in-true-Some.ensures' ∙ first_value-rows
    (found_of c.args.found.now) (codes "ROUTE")) at)
