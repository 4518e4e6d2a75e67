-- The nodes of a worker, by an index in the nodes of a route.
use Rattle.std.proofs.Common.{◌≡◌, ◌∙◌, ℕ, ◌==◌, ◌+◌, ◌%◌, ◌<◌, suc, Bool, true, false, List, [], ◌∷◌, ◌++◌, length, map, drop, slice_index_or, Vec, Option, Some, None, Ok, Err, append-nil, append_assoc, refl, sym, ap, ap₂, arith, ◌≤◌}
use Rattle.std.specs.Option.{option_map_or}
use Rattle.std.specs.Prelude.{if◌then◌else◌}
use Rattle.std.proofs.Math.Seq.{drop-cons}
use Rattle.std.proofs.lemmas.Bool.{eq-eqb, ne_eqb}
use Rattle.std.specs.List.{range_with_len}
use Rattle.std.proofs.lemmas.List.{drop_all, map-append}
use Rattle.ga_chip.specs.Chip.{Chip}
use Rattle.ga_chip.specs.Run.{ran, tries_of}
use Rattle.ga_chip.proofs.Turns.{places_next}
use Rattle.ga_group.specs.Plan.{Groups, groups_of}
use Rattle.ga_group.specs.declared.error.PlanError.{PlanError}
use Rattle.ga_group.specs.Workers.{rounds_of}
use Rattle.ga_input.specs.declared.fault.ServeError.TheVariants.{Plan}
use Rattle.ga_programs.specs.Run.{dealt, nodes_for}

-- the nodes of a worker among those that are left, by the next
next_node : (workers worker at node : ℕ) (nodes : List ℕ) (b : Bool) → at < length nodes
    → node ≡ slice_index_or nodes at node → (at % workers == worker) ≡ b
    → nodes_for workers worker at (drop at nodes) ≡ (if b then node ∷ nodes_for workers worker
    (at + 1) (drop (at + 1) nodes) else nodes_for workers worker (at + 1) (drop (at + 1) nodes))
next_node workers worker at node nodes b below is test =
    let next : suc at ≡ at + 1 = omega arith in
    let rest = nodes_for workers worker (at + 1) (drop (at + 1) nodes) in
    ap (nodes_for workers worker at)
    (drop-cons nodes at node below ∙ ap₂ (λ y n. y ∷ drop n nodes) (sym is) next)
    ∙ ap (λ c. if c then node ∷ rest else rest) test

pub taken : (workers worker at node : ℕ) (nodes group more all : List ℕ) → at < length nodes
    → node ≡ slice_index_or nodes at node → at % workers ≡ worker → more ≡ group ++ node ∷ []
    → group ++ nodes_for workers worker at (drop at nodes) ≡ all
    → more ++ nodes_for workers worker (at + 1) (drop (at + 1) nodes) ≡ all
taken workers worker at node nodes group more all below is test pushed so_far =
    let rest = nodes_for workers worker (at + 1) (drop (at + 1) nodes) in
    ap (λ l. l ++ rest) pushed ∙ append_assoc group (node ∷ []) rest ∙ ap (λ l. group ++ l)
    (sym (next_node workers worker at node nodes true below is (eq-eqb (at % workers) worker test)))
    ∙ so_far

pub left_out : (workers worker at node : ℕ) (nodes group all : List ℕ) → at < length nodes
    → node ≡ slice_index_or nodes at node → (at % workers ≡ worker → ⊥)
    → group ++ nodes_for workers worker at (drop at nodes) ≡ all
    → group ++ nodes_for workers worker (at + 1) (drop (at + 1) nodes) ≡ all
left_out workers worker at node nodes group all below is test so_far =
    ap (λ l. group ++ l) (sym (next_node workers worker at node nodes false below is
    (ne_eqb (at % workers) worker test))) ∙ so_far

-- all nodes were looked at
pub dealt_all : (workers worker at : ℕ) (nodes group all : List ℕ) → length nodes ≤ at
    → group ++ nodes_for workers worker at (drop at nodes) ≡ all → group ≡ all
dealt_all workers worker at nodes group all past so_far =
    sym (append-nil group)
    ∙ ap (λ l. group ++ nodes_for workers worker at l) (sym (drop_all at nodes past)) ∙ so_far

-- the groups so far, and that of the next worker
pub group_more : {A B C : Type 0} (workers worker : ℕ) (nodes : List ℕ) (groups : Vec (Vec ℕ A) B)
    (more : Vec (Vec ℕ A) C) (group : Vec ℕ A)
    → groups_of groups ≡ map (λ w. nodes_for workers w 0 nodes) (range_with_len 0 worker)
    → group.items ≡ nodes_for workers worker 0 nodes → more.items ≡ groups.items ++ group ∷ []
    → groups_of more ≡ map (λ w. nodes_for workers w 0 nodes) (range_with_len 0 (worker + 1))
group_more {A = A} workers worker nodes groups more group so_far is pushed =
    ap (map (λ (g : Vec ℕ A). g.items)) pushed
    ∙ map-append (λ (g : Vec ℕ A). g.items) groups.items (group ∷ [])
    ∙ ap₂ (λ l g. l ++ g ∷ []) so_far is ∙ places_next (λ w. nodes_for workers w 0 nodes) worker

-- a single worker gets all nodes
all_dealt : (at : ℕ) (nodes : List ℕ) → nodes_for 1 0 at nodes ≡ nodes
all_dealt at [] = refl
all_dealt at (name ∷ nodes) =
    let rest = all_dealt (at + 1) nodes in
    let none : at % 1 ≡ 0 = omega arith in
    ap (λ b. if b then name ∷ nodes_for 1 0 (at + 1) nodes else nodes_for 1 0 (at + 1) nodes)
    (eq-eqb (at % 1) 0 none) ∙ ap (λ l. name ∷ l) rest

-- so the run of a single worker is known
pub alone : (chip next : Chip) (plan : Groups) (nodes : List ℕ) (workers turns : ℕ)
    → plan ≡ dealt workers nodes
    → ((group : List ℕ) → plan ≡ group ∷ [] → next ≡ ran chip (tries_of (rounds_of group turns)))
    → workers ≡ 1 → next ≡ ran chip (tries_of (rounds_of nodes turns))
alone chip next plan nodes workers turns is single one =
    single nodes (is ∙ ap (λ n. dealt n nodes) one ∙ ap (λ group. group ∷ []) (all_dealt 0 nodes))

-- a plan that is made has these groups, with which nothing is wrong
pub accepted : (o : Option PlanError) (groups plan : Groups)
    → option_map_or (λ found. Err (Plan found)) o (Ok groups) ≡ Ok plan
    → (o ≡ None) × (groups ≡ plan)
accepted None groups plan e = (refl, cc)
accepted (Some fault) groups plan e = absurd cc
