-- A text that names a node and others behind a comma.
use Rattle.std.proofs.Common.{◌≡◌, ◌∙◌, ℕ, ◌-◌, ◌≤◌, List, [], ◌∷◌, ◌++◌, length, take, drop, Option, Some, None, option_map, get_or, refl, sym, ap, arith, le_refl}
use Rattle.std.proofs.lemmas.List.{append_assoc, take_all}
use Rattle.ga_place.specs.Node.{node_named}
use Rattle.ga_path.specs.Names.{nodes_in}

joined : (front : List ℕ) (n : ℕ) (nodes : Option (List ℕ))
    → option_map (λ more. front ++ more) (option_map (λ ns. n ∷ ns) nodes)
    ≡ option_map (λ more. (front ++ n ∷ []) ++ more) nodes
joined front n None = refl
joined front n (Some nodes) = ap Some (sym (append_assoc front (n ∷ []) nodes))

pub named : (rest front : List ℕ) (n : ℕ) → 4 ≤ length rest → get_or rest 3 0 ≡ 44
    → node_named (get_or rest 0 0 ∷ get_or rest 1 0 ∷ get_or rest 2 0 ∷ []) ≡ Some n
    → option_map (λ more. front ++ more) (nodes_in rest) ≡ option_map
    (λ more. (front ++ n ∷ []) ++ more) (nodes_in (take (length rest - 4) (drop 4 rest)))
named (a ∷ b ∷ c ∷ d ∷ more) front n long comma node =
    let count : length (a ∷ b ∷ c ∷ d ∷ more) - 4 ≡ length more = omega arith in
    rw (comma, node) (joined front n (nodes_in more)
    ∙ ap (λ l. option_map (λ more. (front ++ n ∷ []) ++ more) (nodes_in l))
    (sym (ap (λ k. take k more) count ∙ take_all (length more) more (le_refl (length more)))))
named _ front n long comma node = absurd (omega (arith, long))
