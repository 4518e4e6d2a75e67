-- Clocks by moves: how they grow, and that a node's clock counts the node's own steps.
use Rattle.std.proofs.Common.{◌≡◌, ℕ, ◌+◌, ◌≤◌, ◌==◌, Bool, true, false, List, [], ◌∷◌, ◌⊎◌, inl, inr, length, refl, sym, ap, ◌∙◌, subst, length-append, arith}
use Rattle.std.specs.Prelude.{if◌then◌else◌, max}
use Rattle.std.proofs.Math.Nat.{le-max_left, le-max_right, le_trans}
use Rattle.std.proofs.lemmas.Bool.{cases_eq, eq-eqb, ne_eqb}
use Rattle.ga_chip.specs.Run.{Move, moves_of}
use Rattle.ga_chip.proofs.Runs.{moves_of-append}
use Rattle.ga_race.specs.Clocks.{Clocks, cause_of, clock_of, clocks_by, clocks_on}
use Rattle.ga_race.proofs.Prefixes.{its_own, not_its}

-- a tick takes no clock back
tick_grows : (b : Bool) (j : ℕ) → j ≤ (if b then j + 1 else j)
tick_grows true j = omega arith
tick_grows false j = omega arith

-- a move comes behind its node's steps
pub clock_own : (m : Move) (cs : Clocks) (x : ℕ) → cs.nodes m.node x ≤ clock_of m cs x
clock_own m cs x =
    le_trans {m = max (cs.nodes m.node x) (cause_of m.asked cs x)} (le-max_left _ _)
    (tick_grows (x == m.node) _)

-- and behind what it waited for
pub clock_cause : (m : Move) (cs : Clocks) (x : ℕ) → cause_of m.asked cs x ≤ clock_of m cs x
clock_cause m cs x =
    le_trans {m = max (cs.nodes m.node x) (cause_of m.asked cs x)} (le-max_right _ _)
    (tick_grows (x == m.node) _)

-- and is one step more of its node
pub clock_more : (m : Move) (cs : Clocks) (x : ℕ) → x ≡ m.node
    → cs.nodes m.node x + 1 ≤ clock_of m cs x
clock_more m cs x e =
    let left : cs.nodes m.node x ≤ max (cs.nodes m.node x) (cause_of m.asked cs x) =
    le-max_left _ _ in
    let tick : clock_of m cs x ≡ max (cs.nodes m.node x) (cause_of m.asked cs x) + 1 =
    ap (λ b. if b then max (cs.nodes m.node x) (cause_of m.asked cs x) + 1
    else max (cs.nodes m.node x) (cause_of m.asked cs x)) (eq-eqb x m.node e) in
    more _ _ _ left tick
  where
    more : (a b c : ℕ) → a ≤ b → c ≡ b + 1 → a + 1 ≤ c
    more a b c h g = omega arith

-- the clock of the move's node behind the move
pub node_here : (m : Move) (cs : Clocks) → (clocks_by m cs).nodes m.node ≡ clock_of m cs
node_here m cs =
    ap (λ b. if b then clock_of m cs else cs.nodes m.node) (eq-eqb m.node m.node refl)

-- and of another node
pub node_else : (m : Move) (cs : Clocks) (x : ℕ) → (x ≡ m.node → ⊥)
    → (clocks_by m cs).nodes x ≡ cs.nodes x
node_else m cs x apart = ap (λ b. if b then clock_of m cs else cs.nodes x) (ne_eqb x m.node apart)

-- no clock of a node goes back
pub node_grows : (m : Move) (cs : Clocks) (x y : ℕ) → cs.nodes x y ≤ (clocks_by m cs).nodes x y
node_grows m cs x y = by (cases_eq x m.node)
  where
    same : (n : ℕ) → n ≤ n
    same n = omega arith

    by : (x ≡ m.node) ⊎ (x ≡ m.node → ⊥) → cs.nodes x y ≤ (clocks_by m cs).nodes x y
    by (inl e) =
        subst (λ n. cs.nodes n y ≤ (clocks_by m cs).nodes n y) (sym e)
        (subst (λ c. cs.nodes m.node y ≤ c y) (sym (node_here m cs)) (clock_own m cs y))
    by (inr apart) =
        subst (λ c. cs.nodes x y ≤ c y) (sym (node_else m cs x apart)) (same (cs.nodes x y))

-- no clock goes back along a run
pub grows_all : (cs : Clocks) (ms : List Move) (x y : ℕ)
    → cs.nodes x y ≤ (clocks_on cs ms).nodes x y
grows_all cs [] x y = omega arith
grows_all cs (m ∷ ms) x y =
    le_trans (node_grows m cs x y) (grows_all (clocks_by m cs) ms x y)

-- a move of a node is one step more on the node's clock
own_more : (m : Move) (cs : Clocks) (x : ℕ)
    → cs.nodes x x + length (moves_of x (m ∷ [])) ≤ (clocks_by m cs).nodes x x
own_more m cs x = by (cases_eq x m.node)
  where
    one : (old new long : ℕ) → long ≡ 1 → old + 1 ≤ new → old + long ≤ new
    one old new long e h = omega arith

    none : (old new long : ℕ) → long ≡ 0 → old ≤ new → old + long ≤ new
    none old new long e h = omega arith

    by : (x ≡ m.node) ⊎ (x ≡ m.node → ⊥)
        → cs.nodes x x + length (moves_of x (m ∷ [])) ≤ (clocks_by m cs).nodes x x
    by (inl e) =
        one _ _ _ (ap (λ ms. length ms) (its_own x m e))
        (subst (λ n. cs.nodes n x + 1 ≤ (clocks_by m cs).nodes n x) (sym e)
        (subst (λ c. cs.nodes m.node x + 1 ≤ c x) (sym (node_here m cs)) (clock_more m cs x e)))
    by (inr apart) =
        none _ _ _ (ap (λ ms. length ms) (not_its x m apart)) (node_grows m cs x x)

-- so a node's clock counts the node's own steps
pub own_steps : (cs : Clocks) (ms : List Move) (x : ℕ)
    → cs.nodes x x + length (moves_of x ms) ≤ (clocks_on cs ms).nodes x x
own_steps cs [] x = omega arith
own_steps cs (m ∷ ms) x =
    let first = own_more m cs x in
    let rest = own_steps (clocks_by m cs) ms x in
    let long : length (moves_of x (m ∷ ms)) ≡ length (moves_of x (m ∷ []))
    + length (moves_of x ms) =
    ap (λ l. length l) (moves_of-append x (m ∷ []) ms)
    ∙ length-append (moves_of x (m ∷ [])) (moves_of x ms) in
    omega arith
