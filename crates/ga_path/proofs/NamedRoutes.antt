-- Texts that name the nodes of routes, one after the other.
use Rattle.std.proofs.Common.{◌≡◌, ◌∙◌, ℕ, ◌+◌, ◌<◌, ◌≤◌, List, [], ◌∷◌, ◌++◌, length, drop, get_or, Option, Some, None, option_map, refl, sym, ap}
use Rattle.std.proofs.lemmas.List.{append-nil, append_assoc, drop_all, drop_more}
use Rattle.std.specs.Option.{option_and_then}
use Rattle.ga_path.specs.Names.{all_nodes_in, nodes_in}

-- the text that comes next is the first of those that are left
left : (texts : List (List ℕ)) (n m : ℕ) (text : List ℕ) → (n < length texts)
    × (text ≡ get_or texts n text) → m ≡ n + 1 → drop n texts ≡ text ∷ drop m texts
left texts n m text turn more =
    drop_more texts n text turn.0 ∙ ap (λ first. first ∷ drop (n + 1) texts) (sym turn.1)
    ∙ ap (λ k. text ∷ drop k texts) (sym more)

joined : (front : List (List ℕ)) (nodes : List ℕ) (others : Option (List (List ℕ)))
    → option_map (λ more. front ++ more) (option_map (λ ns. nodes ∷ ns) others)
    ≡ option_map (λ more. (front ++ nodes ∷ []) ++ more) others
joined front nodes None = refl
joined front nodes (Some others) = ap Some (sym (append_assoc front (nodes ∷ []) others))

-- what is made of the first text and the others
with_first : (front : List (List ℕ)) (texts : List (List ℕ)) (n m : ℕ) (text : List ℕ)
    (nodes : Option (List ℕ)) → (n < length texts) × (text ≡ get_or texts n text) → m ≡ n + 1
    → nodes_in text ≡ nodes → option_map (λ more. front ++ more) (all_nodes_in (drop n texts))
    ≡ option_map (λ more. front ++ more)
    (option_and_then (λ ns. option_map (λ others. ns ∷ others) (all_nodes_in (drop m texts))) nodes)
with_first front texts n m text nodes turn more is =
    ap (λ l. option_map (λ more. front ++ more) (all_nodes_in l)) (left texts n m text turn more)
    ∙ ap (λ o. option_map (λ more. front ++ more)
    (option_and_then (λ ns. option_map (λ others. ns ∷ others) (all_nodes_in (drop m texts))) o)) is

pub adds : (front : List (List ℕ)) (texts : List (List ℕ)) (n m : ℕ) (text nodes : List ℕ)
    → (n < length texts) × (text ≡ get_or texts n text) → m ≡ n + 1 → nodes_in text ≡ Some nodes
    → option_map (λ more. front ++ more) (all_nodes_in (drop n texts))
    ≡ option_map (λ more. (front ++ nodes ∷ []) ++ more) (all_nodes_in (drop m texts))
adds front texts n m text nodes turn more is =
    with_first front texts n m text (Some nodes) turn more is
    ∙ joined front nodes (all_nodes_in (drop m texts))

pub stops : (front : List (List ℕ)) (texts : List (List ℕ)) (n : ℕ) (text : List ℕ)
    → (n < length texts) × (text ≡ get_or texts n text) → nodes_in text ≡ None
    → option_map (λ more. front ++ more) (all_nodes_in (drop n texts)) ≡ None
stops front texts n text turn is = with_first front texts n (n + 1) text None turn refl is

pub ends : (front : List (List ℕ)) (texts : List (List ℕ)) (n : ℕ) → length texts ≤ n
    → option_map (λ more. front ++ more) (all_nodes_in (drop n texts)) ≡ Some front
ends front texts n all =
    ap (λ l. option_map (λ more. front ++ more) (all_nodes_in l)) (drop_all n texts all)
    ∙ ap Some (append-nil front)
