-- The last step of a node, when steps are added.
use Rattle.std.proofs.Common.{◌≡◌, ◌∙◌, ℕ, ◌==◌, Bool, true, false, List, [], ◌∷◌, ◌++◌, ap, refl, sym}
use Rattle.std.specs.Prelude.{Option, Some, if◌then◌else◌}
use Rattle.ga_observe.specs.declared.step.Step.{Step}
use Rattle.ga_trace.specs.Last.{last_by}

-- steps behind others
pub last_by-append : (node : ℕ) (found : Option Step) (steps more : List Step)
    → last_by node found (steps ++ more) ≡ last_by node (last_by node found steps) more
last_by-append node found [] more = refl
last_by-append node found (step ∷ steps) more =
    last_by-append node (if step.node == node then Some step else found) steps more

-- one more step, of the node
pub one_last : (own node : ℕ) (found last : Option Step) (steps : List Step) (step : Step)
    → own ≡ node → last ≡ last_by node found steps → (step.node == own) ≡ true
    → Some step ≡ last_by node found (steps ++ step ∷ [])
one_last own node found last steps step same before is =
    let here : (step.node == node) ≡ true = sym (ap (λ n. step.node == n) same) ∙ is in
    sym (ap (λ (b : Bool). if b then Some step else last_by node found steps) here)
    ∙ sym (last_by-append node found steps (step ∷ []))

-- and of another one
pub other_last : (own node : ℕ) (found last : Option Step) (steps : List Step) (step : Step)
    → own ≡ node → last ≡ last_by node found steps → (step.node == own) ≡ false
    → last ≡ last_by node found (steps ++ step ∷ [])
other_last own node found last steps step same before is =
    let there : (step.node == node) ≡ false = sym (ap (λ n. step.node == n) same) ∙ is in
    before ∙ sym (ap (λ (b : Bool). if b then Some step else last_by node found steps) there)
    ∙ sym (last_by-append node found steps (step ∷ []))
