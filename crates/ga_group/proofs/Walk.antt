-- Loops over groups and over the nodes of a group, by an index.
use Rattle.std.proofs.Common.{◌≡◌, ◌∙◌, ℕ, ◌==◌, ◌+◌, ◌<◌, suc, Bool, ◌||◌, List, [], ◌∷◌, ◌++◌, length, take, drop, slice_index_or, Vec, Option, option_map, refl, sym, ap, ap₂, arith, ◌≤◌, length-append, append-nil, append_assoc, subst}
use Rattle.std.specs.List.{AllByRecursion, concat}
use Rattle.std.specs.Option.{option_or}
use Rattle.std.proofs.Math.Seq.{drop-cons}
use Rattle.std.proofs.lemmas.List.{map-append, take-append-drop, take_more}
use Rattle.std.proofs.lemmas.List.Folds.{concat-append, list_any-append}
use Rattle.ga_place.specs.Node.{IsNodeName, is_among}
use Rattle.ga_group.specs.Plan.{first_repeated, group_fault, groups_fault, groups_in}
use Rattle.ga_group.specs.declared.error.PlanError.{PlanError}
use Rattle.ga_group.specs.declared.error.PlanError.TheVariants.{Repeated}

-- an item before those behind it
left : {X : Type 0} (xs : List X) (at : ℕ) (x : X) → at < length xs → x ≡ slice_index_or xs at x
    → drop at xs ≡ x ∷ drop (at + 1) xs
left xs at x below is =
    let next : suc at ≡ at + 1 = omega arith in
    drop-cons xs at x below ∙ ap₂ (λ y n. y ∷ drop n xs) (sym is) next

done : {X : Type 0} (xs : List X) (at : ℕ) (x : X) → at < length xs → x ≡ slice_index_or xs at x
    → take (at + 1) xs ≡ take at xs ++ x ∷ []
done xs at x below is = take_more xs at x below ∙ ap (λ y. take at xs ++ y ∷ []) (sym is)

all_more : (names more : List ℕ) → AllByRecursion IsNodeName names → AllByRecursion IsNodeName more
    → AllByRecursion IsNodeName (names ++ more)
all_more [] more named here = here
all_more (name ∷ names) more named here = (named.0, all_more names more named.1 here)

module _ {A : Type 0} where
  pub groups_left : (groups : List (Vec ℕ A)) (at : ℕ) (group : Vec ℕ A) → at < length groups
      → group ≡ slice_index_or groups at group
      → groups_in (drop at groups) ≡ group.items ∷ groups_in (drop (at + 1) groups)
  groups_left groups at group below is = ap groups_in (left groups at group below is)

  pub groups_done : (groups : List (Vec ℕ A)) (at : ℕ) (group : Vec ℕ A) → at < length groups
      → group ≡ slice_index_or groups at group → concat (groups_in (take (at + 1) groups))
      ≡ concat (groups_in (take at groups)) ++ group.items
  groups_done groups at group below is =
      ap (λ l. concat (groups_in l)) (done groups at group below is)
      ∙ ap concat (map-append _ (take at groups) (group ∷ []))
      ∙ concat-append (groups_in (take at groups)) (group.items ∷ [])
      ∙ ap (λ l. concat (groups_in (take at groups)) ++ l) (append-nil group.items)

  -- how many nodes there are in them
  pub count_next : (groups : List (Vec ℕ A)) (at : ℕ) (group : Vec ℕ A) → at < length groups
      → group ≡ slice_index_or groups at group → length (concat (groups_in (take (at + 1) groups)))
      ≡ length (concat (groups_in (take at groups))) + length group.items
  count_next groups at group below is =
      ap length (groups_done groups at group below is)
      ∙ length-append (concat (groups_in (take at groups))) group.items

  -- the first groups, and those behind them
  pub groups_cut : (groups : List (Vec ℕ A)) (at : ℕ) → concat (groups_in groups)
      ≡ concat (groups_in (take at groups)) ++ concat (groups_in (drop at groups))
  groups_cut groups at =
      ap (λ l. concat (groups_in l)) (sym (take-append-drop at groups))
      ∙ ap concat (map-append _ (take at groups) (drop at groups))
      ∙ concat-append (groups_in (take at groups)) (groups_in (drop at groups))

  pub front_within : (groups : List (Vec ℕ A)) (at : ℕ)
      → length (concat (groups_in (take at groups))) ≤ length (concat (groups_in groups))
  front_within groups at =
      let both = ap length (groups_cut groups at)
      ∙ length-append (concat (groups_in (take at groups))) (concat (groups_in (drop at groups))) in
      omega (arith, both)

  -- whether a node is in the groups that are left
  pub among_next : (groups : List (Vec ℕ A)) (at : ℕ) (group : Vec ℕ A) (front : List ℕ) (node : ℕ)
      (b : Bool) → at < length groups → group ≡ slice_index_or groups at group
      → is_among node group.items ≡ b → is_among node (concat (groups_in (drop at groups)) ++ front)
      ≡ (b || is_among node (concat (groups_in (drop (at + 1) groups)) ++ front))
  among_next groups at group front node b below is among =
      let rest = concat (groups_in (drop (at + 1) groups)) in
      ap (λ l. is_among node (concat l ++ front)) (groups_left groups at group below is)
      ∙ ap (is_among node) (append_assoc group.items rest front)
      ∙ list_any-append (λ other. other == node) group.items (rest ++ front)
      ∙ ap (λ c. c || is_among node (rest ++ front)) among

  -- the fault of the groups that are left, by that of the next
  pub fault_next : (groups : List (Vec ℕ A)) (at : ℕ) (group : Vec ℕ A) (fault : Option PlanError)
      → at < length groups → group ≡ slice_index_or groups at group
      → group_fault at (concat (groups_in (take at groups))) group.items ≡ fault
      → groups_fault at (concat (groups_in (take at groups))) (groups_in (drop at groups))
      ≡ option_or fault (groups_fault (at + 1) (concat (groups_in (take (at + 1) groups)))
      (groups_in (drop (at + 1) groups)))
  fault_next groups at group fault below is told =
      ap (groups_fault at (concat (groups_in (take at groups))))
      (groups_left groups at group below is)
      ∙ ap₂ (λ f l. option_or f (groups_fault (at + 1) l (groups_in (drop (at + 1) groups)))) told
      (sym (groups_done groups at group below is))

  pub more_named : (groups : List (Vec ℕ A)) (at : ℕ) (group : Vec ℕ A) → at < length groups
      → group ≡ slice_index_or groups at group
      → AllByRecursion IsNodeName (concat (groups_in (take at groups)))
      → AllByRecursion IsNodeName group.items
      → AllByRecursion IsNodeName (concat (groups_in (take (at + 1) groups)))
  more_named groups at group below is named here =
      subst (AllByRecursion IsNodeName) (sym (groups_done groups at group below is))
      (all_more (concat (groups_in (take at groups))) group.items named here)

pub some_group : (worker : ℕ) (before names : List ℕ) → 0 < length names
    → group_fault worker before names ≡ option_map Repeated (first_repeated before names)
some_group worker before [] some = absurd (omega (arith, some))
some_group worker before (name ∷ names) some = refl
