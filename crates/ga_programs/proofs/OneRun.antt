-- Two outputs of the job `run` for one input.
use Rattle.std.proofs.Common.{◌≡◌, ◌∙◌, ℕ, List, Option, Some, None, Result, Ok, Err, ap, sym}
use Rattle.std.specs.Option.{option_map_or}
use Rattle.std.specs.Prelude.{MatchOption}
use Rattle.ga_chip.specs.Chip.{Chip}
use Rattle.ga_debug.specs.Beginning.{booted_tree}
use Rattle.ga_group.specs.Plan.{Groups, plan_fault}
use Rattle.ga_group.specs.declared.error.PlanError.{PlanError}
use Rattle.ga_path.specs.Stream.{Images, unreached}
use Rattle.ga_path.specs.Tree.{TreeView}
use Rattle.ga_programs.specs.Run.{AreTextsOrEqual, HasRuns, IsRunFrom, IsRunOf, IsRunOutput, dealt, node_reports, plan_by}
use Rattle.ga_input.specs.Tree.{tree_in}
use Rattle.ga_path.specs.declared.error.BootError.TheVariants.{Unreached}
use Rattle.ga_input.specs.declared.fault.ServeError.{ServeError}
use Rattle.ga_input.specs.declared.fault.ServeError.TheVariants.{Boot, Plan}
use Rattle.ga_input.proofs.OneInput.{alike}

abbrev Answer : Type 0
Answer = Result (List ℕ) ServeError

-- a plan can't be accepted and refused
not_refused : (o : Option PlanError) (groups : Groups) (fault : ServeError) → o ≡ None
    → option_map_or (λ found. Err (Plan found)) o (Ok groups) ≡ Err fault → ⊥
not_refused None groups fault accepted e = absurd cc
not_refused (Some found) groups fault accepted e = absurd cc

-- and is refused by one fault
abbrev refusal : ServeError → Answer
refusal fault = Err fault

same_refusal : (groups : Groups) (one other : ServeError) → plan_by groups ≡ Err one
    → plan_by groups ≡ Err other → refusal one ≡ refusal other
same_refusal groups one other p q = let same : one ≡ other = cc (sym p ∙ q) in ap refusal same

module _ (workers turns : ℕ) where
  -- a relation of answers that holds for equal ones and for those to one chip holds for all to one
  -- input
  module _ (Alike : Answer → Answer → Type 0)
      (equal : (one other : Answer) → one ≡ other → Alike one other)
      (from : (chip : Chip) (nodes : List ℕ) (one other : Answer) → IsRunFrom chip nodes workers
      turns one → IsRunFrom chip nodes workers turns other → Alike one other) where
    abbrev RunIn : Option ℕ → Images → TreeView → Answer → Type 0
    RunIn o images tree answer =
        MatchOption o (IsRunFrom (booted_tree images tree) tree.nodes workers turns answer)
        (λ node. Err (Boot (Unreached node)) ≡ answer)

    alike_in : (o : Option ℕ) (images : Images) (tree : TreeView) (one other : Answer)
        → RunIn o images tree one → RunIn o images tree other → Alike one other
    alike_in None images tree one other p q =
        from (booted_tree images tree) tree.nodes one other p q
    alike_in (Some node) images tree one other p q = equal one other (sym p ∙ q)

    alike_of : (t : Result TreeView ServeError) (images : Images) (one other : Answer)
        → IsRunOf images workers turns t one → IsRunOf images workers turns t other
        → Alike one other
    alike_of (Ok tree) images one other p q =
        alike_in (unreached images tree.nodes) images tree one other p q
    alike_of (Err fault) images one other p q = equal one other (sym p ∙ q)

  texts_equal : (one other : Answer) → one ≡ other → AreTextsOrEqual one other
  texts_equal (Ok one) (Ok other) e = tt
  texts_equal (Ok one) (Err other) e = e
  texts_equal (Err one) (Ok other) e = e
  texts_equal (Err one) (Err other) e = e

  texts_from : (chip : Chip) (nodes : List ℕ) (one other : Answer)
      → IsRunFrom chip nodes workers turns one → IsRunFrom chip nodes workers turns other
      → AreTextsOrEqual one other
  texts_from chip nodes (Ok one) (Ok other) p q = tt
  texts_from chip nodes (Ok one) (Err other) p q =
      absurd (not_refused (plan_fault (dealt workers nodes)) (dealt workers nodes) other p.0 q)
  texts_from chip nodes (Err one) (Ok other) p q =
      absurd (not_refused (plan_fault (dealt workers nodes)) (dealt workers nodes) one q.0 p)
  texts_from chip nodes (Err one) (Err other) p q = same_refusal (dealt workers nodes) one other p q

  equal_from : workers ≡ 1 → (chip : Chip) (nodes : List ℕ) (one other : Answer)
      → IsRunFrom chip nodes workers turns one → IsRunFrom chip nodes workers turns other
      → one ≡ other
  equal_from single chip nodes (Ok one) (Ok other) p q =
      ap Ok (p.1.text_is ∙ ap (λ next. node_reports next nodes)
      (p.1.alone single ∙ sym (q.1.alone single)) ∙ sym q.1.text_is)
  equal_from single chip nodes (Ok one) (Err other) p q =
      absurd (not_refused (plan_fault (dealt workers nodes)) (dealt workers nodes) other p.0 q)
  equal_from single chip nodes (Err one) (Ok other) p q =
      absurd (not_refused (plan_fault (dealt workers nodes)) (dealt workers nodes) one q.0 p)
  equal_from single chip nodes (Err one) (Err other) p q =
      same_refusal (dealt workers nodes) one other p q

pub run_outputs : (routes input : List ℕ) (workers turns : ℕ)
    → HasRuns workers (IsRunOutput routes workers turns input)
run_outputs routes input workers turns = record {
  texts =
      alike (λ images. IsRunOf images workers turns (tree_in routes)) AreTextsOrEqual
      (texts_equal workers turns)
      (alike_of workers turns AreTextsOrEqual (texts_equal workers turns) (texts_from workers turns)
      (tree_in routes)) input;
  alone = λ single.
      alike (λ images. IsRunOf images workers turns (tree_in routes))
      (λ one other. one ≡ other) (λ one other e. e)
      (alike_of workers turns (λ one other. one ≡ other) (λ one other e. e)
      (equal_from workers turns single) (tree_in routes)) input;
}
