-- A step of the walk along nodes that looks for a fault, by the index of a node.
use Rattle.std.proofs.Common.{◌≡◌, ◌∙◌, ℕ, ◌==◌, ◌+◌, ◌-◌, ◌<◌, suc, Bool, true, false, ◌||◌, List, [], ◌∷◌, length, reverse, take, drop, Some, None, is_none, get_or, refl, sym, ap, arith}
use Rattle.std.specs.Prelude.{if◌then◌else◌}
use Rattle.std.specs.List.{list_any}
use Rattle.std.specs.Option.{option_or}
use Rattle.std.proofs.lemmas.List.{length-reverse, length-take-le, reverse-append, take_more}
use Rattle.std.proofs.lemmas.List.Folds.{list_any-append}
use Rattle.std.proofs.Math.Bool.{or-false, or_comm}
use Rattle.std.proofs.Math.Seq.{drop-cons}
use Rattle.ga_place.specs.Side.{side_to}
use Rattle.ga_place.specs.Node.{is_among}
use Rattle.ga_path.specs.Route.{hop_fault, hops_fault}
use Rattle.ga_path.specs.declared.error.RouteError.TheVariants.{Repeated}

any_reverse : (p : ℕ → Bool) (xs : List ℕ) → list_any p (reverse xs) ≡ list_any p xs
any_reverse p [] = refl
any_reverse p (x ∷ xs) =
    ap (list_any p) (reverse-append (x ∷ []) xs)
    ∙ list_any-append p (reverse xs) (x ∷ [])
    ∙ or_comm (list_any p (reverse xs)) (p x || false)
    ∙ ap (λ b. b || list_any p (reverse xs)) (or-false (p x))
    ∙ ap (λ b. p x || b) (any_reverse p xs)

-- the nodes up to one behind an index, turned round
turned : (nodes : List ℕ) (at d : ℕ) → at < length nodes
    → reverse (take (at + 1) nodes) ≡ get_or nodes at d ∷ reverse (take at nodes)
turned nodes at d below =
    ap reverse (take_more nodes at d below)
    ∙ reverse-append (take at nodes) (get_or nodes at d ∷ [])

-- a node, the one before it, and those before both, reversed
pub record IsAt (nodes : List ℕ) (at last here : ℕ) : Type 0 where
  pub behind_first : 0 < at
  pub within : at < length nodes
  pub last_is : last ≡ get_or nodes (at - 1) last
  pub here_is : here ≡ get_or nodes at here

front : (nodes : List ℕ) (at last here : ℕ) → IsAt nodes at last here
    → reverse (take at nodes) ≡ last ∷ reverse (take (at - 1) nodes)
front nodes at last here is =
    ap (λ n. reverse (take n nodes)) (omega (arith, is.behind_first))
    ∙ turned nodes (at - 1) last (omega (arith, is.behind_first, is.within))
    ∙ ap (λ n. n ∷ reverse (take (at - 1) nodes)) (sym is.last_is)

rest : (nodes : List ℕ) (at last here : ℕ) → IsAt nodes at last here
    → drop at nodes ≡ here ∷ drop (at + 1) nodes
rest nodes at last here is =
    let next : suc at ≡ at + 1 = omega arith in
    drop-cons nodes at here is.within
    ∙ ap (λ n. n ∷ drop (suc at) nodes) (sym is.here_is)
    ∙ ap (λ n. here ∷ drop n nodes) next

hop_is : (last : ℕ) (before : List ℕ) (here : ℕ) (b : Bool) → is_none (side_to last here) ≡ false
    → is_among here (last ∷ before) ≡ b → hop_fault (last ∷ before) here
    ≡ (if b then Some (Repeated (length (last ∷ before))) else None)
hop_is last before here b near among = rw near (rw among refl)

-- if the node is a neighbour of the one before it, the fault is that it is among the others, or one
-- behind it
walk : (nodes : List ℕ) (at last here : ℕ) (b : Bool) → IsAt nodes at last here
    → is_none (side_to last here) ≡ false → list_any (λ other. other == here) (take at nodes) ≡ b
    → hops_fault (reverse (take at nodes)) (drop at nodes) ≡ option_or (if b then Some (Repeated at)
    else None) (hops_fault (reverse (take (at + 1) nodes)) (drop (at + 1) nodes))
walk nodes at last here b is near among =
    let before : List ℕ = reverse (take (at - 1) nodes) in
    let front_is : reverse (take at nodes) ≡ last ∷ before = front nodes at last here is in
    let long : length (last ∷ before) ≡ at = ap length (sym front_is)
    ∙ length-reverse (take at nodes) ∙ length-take-le at nodes (omega (arith, is.within)) in
    let among_is : is_among here (last ∷ before) ≡ b = ap (is_among here) (sym front_is)
    ∙ any_reverse (λ other. other == here) (take at nodes) ∙ among in
    let next : here ∷ last ∷ before ≡ reverse (take (at + 1) nodes) =
    ap (λ l. here ∷ l) (sym front_is) ∙ ap (λ n. n ∷ reverse (take at nodes)) is.here_is
    ∙ sym (turned nodes at here is.within) in
    ap (λ l. hops_fault l (drop at nodes)) front_is
    ∙ ap (hops_fault (last ∷ before)) (rest nodes at last here is)
    ∙ ap (λ f. option_or f (hops_fault (here ∷ last ∷ before) (drop (at + 1) nodes)))
    (hop_is last before here b near among_is)
    ∙ ap (λ n. option_or (if b then Some (Repeated n)
    else None) (hops_fault (here ∷ last ∷ before) (drop (at + 1) nodes))) long
    ∙ ap (λ l.
    option_or (if b then Some (Repeated at) else None) (hops_fault l (drop (at + 1) nodes))) next

pub again : (nodes : List ℕ) (at last here : ℕ) → IsAt nodes at last here
    → is_none (side_to last here) ≡ false → list_any (λ other. other == here) (take at nodes) ≡ true
    → hops_fault (reverse (take at nodes)) (drop at nodes) ≡ Some (Repeated at)
again nodes at last here is near among = walk nodes at last here true is near among

pub goes_on : (nodes : List ℕ) (at last here : ℕ) → IsAt nodes at last here
    → is_none (side_to last here) ≡ false
    → list_any (λ other. other == here) (take at nodes) ≡ false
    → hops_fault (reverse (take at nodes)) (drop at nodes)
    ≡ hops_fault (reverse (take (at + 1) nodes)) (drop (at + 1) nodes)
goes_on nodes at last here is near among = walk nodes at last here false is near among
