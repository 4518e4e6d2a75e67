-- What a plan without a fault is: no node occurs in it twice, and so it has 144 nodes at most.
use Rattle.std.proofs.Common.{◌≡◌, ◌∙◌, ℕ, ◌==◌, ◌+◌, ◌≤◌, Bool, true, false, ◌||◌, List, [], ◌∷◌, ◌++◌, length, Option, Some, None, option_map, refl, sym, ap, arith, append_assoc, append-nil, length-append, lit≤, Vec}
use Rattle.std.specs.Prelude.{if◌then◌else◌}
use Rattle.std.specs.List.{AllByRecursion, IsDistinct, concat, list_any}
use Rattle.std.specs.Option.{option_or}
use Rattle.std.proofs.lemmas.Bool.{eqb-true, true≢false}
use Rattle.std.proofs.lemmas.Cmp.{nat_eq_equiv}
use Rattle.std.proofs.lemmas.List.{length-map}
use Rattle.std.proofs.lemmas.List.Folds.{list_any-append}
use Rattle.ga_place.specs.Node.{IsNodeName, is_among}
use Rattle.ga_place.proofs.Names.{apart, few_names}
use Rattle.ga_group.specs.Plan.{Groups, first_repeated, group_fault, groups_fault, groups_in, plan_fault}
use Rattle.ga_group.specs.declared.error.PlanError.{PlanError}
use Rattle.ga_group.specs.declared.error.PlanError.TheVariants.{Repeated}

-- ---- names of which none stands twice

-- the first of the names occurs nowhere before, and the others don't repeat it
pub record IsNew (before : List ℕ) (name : ℕ) (names : List ℕ) : Type 0 where
  pub here : is_among name before ≡ false
  pub behind : first_repeated (before ++ name ∷ []) names ≡ None

pub is_new : (before : List ℕ) (name : ℕ) (names : List ℕ)
    → first_repeated before (name ∷ names) ≡ None → IsNew before name names
is_new before name names e = by (is_among name before) refl e
  where
    by : (b : Bool) → is_among name before ≡ b
        → (if b then Some name else first_repeated (before ++ name ∷ []) names) ≡ None
        → IsNew before name names
    by true among e = absurd cc
    by false among e = record { here = among; behind = e }

among_more : (q : ℕ) (before more : List ℕ) → is_among q before ≡ true
    → is_among q (before ++ more) ≡ true
among_more q before more e =
    list_any-append (λ other. other == q) before more ∙ ap (λ b. b || is_among q more) e

among_last : (q : ℕ) (before : List ℕ) → is_among q (before ++ q ∷ []) ≡ true
among_last q before =
    list_any-append (λ other. other == q) before (q ∷ [])
    ∙ by (list_any (λ other. other == q) before)
  where
    by : (b : Bool) → (b || ((q == q) || false)) ≡ true
    by true = refl
    by false = ap (λ b. b || false) (nat_eq_equiv.refl q)

-- what comes before is nowhere among the names
pub nowhere : (q : ℕ) (before names : List ℕ) → first_repeated before names ≡ None
    → is_among q before ≡ true → is_among q names ≡ false
nowhere q before [] e among = refl
nowhere q before (name ∷ names) e among =
    let new = is_new before name names e in
    by (name == q) refl (nowhere q (before ++ name ∷ []) names new.behind
    (among_more q before (name ∷ []) among)) new.here
  where
    by : (b : Bool) → (name == q) ≡ b → is_among q names ≡ false → is_among name before ≡ false
        → (b || is_among q names) ≡ false
    by true same rest here =
        absurd
        (true≢false (sym among ∙ ap (λ n. is_among n before) (sym (eqb-true name q same)) ∙ here))
    by false same rest here = rest

pub not_behind : (before : List ℕ) (name : ℕ) (names : List ℕ)
    → first_repeated before (name ∷ names) ≡ None → is_among name names ≡ false
not_behind before name names e =
    nowhere name (before ++ name ∷ []) names (is_new before name names e).behind
    (among_last name before)

distinct : (before names : List ℕ) → first_repeated before names ≡ None → IsDistinct ◌==◌ names
unfolding IsDistinct
distinct before [] e = tt
distinct before (name ∷ names) e = (
  apart name names (not_behind before name names e),
  distinct (before ++ name ∷ []) names (is_new before name names e).behind,
)

-- ---- names one after another

repeated_if : (b : Bool) (name : ℕ) (first second : Option ℕ) → option_or (if b then Some name
    else first) second ≡ (if b then Some name else option_or first second)
repeated_if true name first second = refl
repeated_if false name first second = refl

pub repeated-append : (before names more : List ℕ) → first_repeated before (names ++ more)
    ≡ option_or (first_repeated before names) (first_repeated (before ++ names) more)
repeated-append before [] more = ap (λ l. first_repeated l more) (sym (append-nil before))
repeated-append before (name ∷ names) more =
    ap (λ f. if is_among name before then Some name
    else f) (repeated-append (before ++ name ∷ []) names more
    ∙ ap (λ l. option_or (first_repeated (before ++ name ∷ []) names) (first_repeated l more))
    (append_assoc before (name ∷ []) names))
    ∙ sym (repeated_if (is_among name before) name (first_repeated (before ++ name ∷ []) names)
    (first_repeated (before ++ name ∷ names) more))

-- ---- groups without a fault

no_fault : (first second : Option PlanError) → option_or first second ≡ None
    → (first ≡ None) × (second ≡ None)
no_fault None second e = (refl, e)
no_fault (Some fault) second e = absurd cc

none_told : (o : Option ℕ) → option_map Repeated o ≡ None → o ≡ None
none_told None e = refl
none_told (Some name) e = absurd cc

new_group : (worker : ℕ) (before group : List ℕ) → group_fault worker before group ≡ None
    → first_repeated before group ≡ None
new_group worker before [] e = refl
new_group worker before (name ∷ names) e = none_told (first_repeated before (name ∷ names)) e

new_groups : (worker : ℕ) (before : List ℕ) (groups : Groups)
    → groups_fault worker before groups ≡ None → first_repeated before (concat groups) ≡ None
new_groups worker before [] e = refl
new_groups worker before (group ∷ groups) e =
    let both = no_fault (group_fault worker before group)
    (groups_fault (worker + 1) (before ++ group) groups) e in
    repeated-append before group (concat groups)
    ∙ ap (λ f. option_or f (first_repeated (before ++ group) (concat groups)))
    (new_group worker before group both.0)
    ∙ new_groups (worker + 1) (before ++ group) groups both.1

-- no node occurs twice in a plan
pub once : (plan : Groups) → plan_fault plan ≡ None → first_repeated [] (concat plan) ≡ None
once [] e = refl
once (group ∷ groups) e = new_groups 0 [] (group ∷ groups) e

pub few : (plan : Groups) → plan_fault plan ≡ None → AllByRecursion IsNodeName (concat plan)
    → length (concat plan) ≤ 144
few plan e named = few_names (concat plan) (distinct [] (concat plan) (once plan e)) named

-- ---- how many groups there are, and how many nodes in each

some_nodes : (worker : ℕ) (before group : List ℕ) → group_fault worker before group ≡ None
    → 1 ≤ length group
some_nodes worker before [] e = absurd cc
some_nodes worker before (name ∷ names) e = omega arith

workers_from : (worker : ℕ) (before : List ℕ) (groups : Groups)
    → groups_fault worker before groups ≡ None → length groups ≤ length (concat groups)
workers_from worker before [] e = lit≤ tt
workers_from worker before (group ∷ groups) e =
    let both = no_fault (group_fault worker before group)
    (groups_fault (worker + 1) (before ++ group) groups) e in
    let some = some_nodes worker before group both.0 in
    let rest = workers_from (worker + 1) (before ++ group) groups both.1 in
    omega (arith, some, rest, length-append group (concat groups))

pub workers : (plan : Groups) → plan_fault plan ≡ None → length plan ≤ length (concat plan)
workers [] e = lit≤ tt
workers (group ∷ groups) e = workers_from 0 [] (group ∷ groups) e

-- the largest number of workers of a plan
pub workers_few : {A : Type 0} (groups : List (Vec ℕ A)) → plan_fault (groups_in groups) ≡ None
    → length (concat (groups_in groups)) ≤ 144 → length groups ≤ 144
workers_few {A = A} groups faultless most =
    let many = workers (groups_in groups) faultless in
    omega (arith, most, many, length-map groups (λ (group : Vec ℕ A). group.items))
