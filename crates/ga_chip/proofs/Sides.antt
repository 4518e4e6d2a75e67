-- The sides that the tries of a node name.
use Rattle.std.proofs.Common.{◌≡◌, ◌≢◌, ℕ, ◌==◌, Bool, true, false, List, [], ◌∷◌, ◌++◌, map, refl, ap, ◌∙◌}
use Rattle.std.specs.Prelude.{if◌then◌else◌}
use Rattle.std.proofs.lemmas.Bool.{eqb-true}
use Rattle.std.proofs.lemmas.Cmp.{nat_eq_equiv}
use Rattle.std.proofs.lemmas.List.{append-nil, map-append}
use Rattle.std.proofs.lemmas.List.Elements.{filter-append}
use Rattle.ga_place.specs.declared.side.Side.{Side}
use Rattle.ga_chip.specs.declared.outcome.Try.{Try}
use Rattle.ga_chip.specs.Run.{sides_tried}

pub tried_more : (name : ℕ) (tries more : List Try)
    → sides_tried name (tries ++ more) ≡ sides_tried name tries ++ sides_tried name more
tried_more name tries more =
    ap (map (λ one. one.side)) (filter-append (λ one. one.node == name) tries more)
    ∙ map-append (λ one. one.side) _ _

-- one try more: of the node, and of another
abbrev one_if : Bool → Side → List Side
one_if true side = side ∷ []
one_if false side = []

tried_if : (b : Bool) (one : Try)
    → map (λ it. it.side) (if b then one ∷ [] else []) ≡ one_if b one.side
tried_if true one = refl
tried_if false one = refl

pub tried_here : (tries : List Try) (one : Try)
    → sides_tried one.node (tries ++ one ∷ []) ≡ sides_tried one.node tries ++ one.side ∷ []
tried_here tries one =
    tried_more one.node tries (one ∷ [])
    ∙ ap (λ sides. sides_tried one.node tries ++ sides) (tried_if (one.node == one.node) one
    ∙ ap (λ b. one_if b one.side) (nat_eq_equiv.refl one.node))

pub tried_else : (name : ℕ) (tries : List Try) (one : Try) → one.node ≢ name
    → sides_tried name (tries ++ one ∷ []) ≡ sides_tried name tries
tried_else name tries one apart =
    tried_more name tries (one ∷ [])
    ∙ ap (λ sides. sides_tried name tries ++ sides) (tried_if (one.node == name) one
    ∙ by (one.node == name) refl)
    ∙ append-nil (sides_tried name tries)
  where
    by : (b : Bool) → (one.node == name) ≡ b → one_if (one.node == name) one.side ≡ []
    by true same = absurd (apart (eqb-true one.node name same))
    by false other = ap (λ b. one_if b one.side) other
