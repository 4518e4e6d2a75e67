-- The groups of nodes that are a plan of workers, and the faults of others.
use Rattle.std.specs.Prelude.{ℕ, ◌+◌, List, [], ◌∷◌, ◌++◌, map, Vec, vec_items, Option, Some, None, option_map, Result, Ok, Err, if◌then◌else◌}
use Rattle.std.specs.Option.{option_or}
use Rattle.ga_place.specs.Node.{is_among}
use Rattle.ga_group.specs.declared.error.PlanError.{PlanError}
use Rattle.ga_group.specs.declared.error.PlanError.TheVariants.{NoWorker, Empty, Repeated}

-- the nodes of each worker, by their names
abbrev pub Groups : Type 0
Groups = List (List ℕ)

abbrev pub groups_in : {A : Type 0} → List (Vec ℕ A) → Groups
groups_in groups = map vec_items groups

abbrev pub groups_of : {A B : Type 0} → Vec (Vec ℕ A) B → Groups
groups_of groups = groups_in (vec_items groups)

-- the first name that is among others, or among the names before it
abbrev pub first_repeated : List ℕ → List ℕ → Option ℕ
first_repeated before [] = None
first_repeated before (name ∷ names) =
    if is_among name before then Some name else first_repeated (before ++ name ∷ []) names

-- the fault of the group of a worker behind others
abbrev pub group_fault : ℕ → List ℕ → List ℕ → Option PlanError
group_fault worker before [] = Some (Empty worker)
group_fault worker before names = option_map Repeated (first_repeated before names)

-- the fault of the groups of the workers from one on, behind the groups of the others
abbrev pub groups_fault : ℕ → List ℕ → Groups → Option PlanError
groups_fault worker before [] = None
groups_fault worker before (group ∷ groups) =
    option_or (group_fault worker before group) (groups_fault (worker + 1) (before ++ group) groups)

-- the fault of groups as a plan
abbrev pub plan_fault : Groups → Option PlanError
plan_fault [] = Some NoWorker
plan_fault groups = groups_fault 0 [] groups

-- A plan of these groups, or their first fault, with the values that come back.
abbrev pub planned : {V : Type 0} → Option PlanError → Groups → V → Result Groups (PlanError × V)
planned None names groups = Ok names
planned (Some fault) names groups = Err (fault, groups)
