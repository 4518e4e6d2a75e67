use Rattle.std.proofs.Common.{◌≡◌, ◌∙◌, ℕ, Bool, true, false, ◌++◌, [], ◌∷◌, Vec, Global, List, ap, append-nil, arith, get_or, sym}
use Rattle.std.specs.List.{flat_map, range_with_len}
use Rattle.ga_place.specs.Cell.{name_at}
use Rattle.ga_waits.proofs.Writing.{part_more}
use Rattle.ga_views.specs.RaceText.{spinning_if, spinning_nodes}
use Rattle.ga_views.proofs.race_text.spinning.Goals.{then-spins-index+in_ok-push, else-spins-index}
use Rattle.ga_views.proofs.race_text.spinning.Goals as goal

node_there : (spins : List Bool) (index : ℕ) → get_or spins index false ≡ true
    → spinning_if spins index ≡ name_at index ∷ []
node_there spins index is = grind (arith, is)

node_else : (spins : List Bool) (index : ℕ) → get_or spins index false ≡ false
    → spinning_if spins index ≡ []
node_else spins index is = grind (arith, is)

pub loop-index-preserved : goal.loop-index-preserved
loop-index-preserved c =
    let spins = c.args.spins.now in
    let index = c.loop-index.index in
    let old = c.loop-index.nodes.items in
    part_more (spinning_if spins) index [] old c.if-spins-index.nodes.items c.loop-index.invariant
    (elim c.if-spins-index.branch [
      | then-spins-index+in_ok-push w ↦
          ap (λ (nodes : Vec ℕ Global). nodes.items) w.nodes-is ∙ w.in_ok-push.ensures.items
          ∙ ap (λ name. old ++ name ∷ []) w.at.ensures
          ∙ ap (λ one. old ++ one) (sym (node_there spins index w.if-spins-index.true))
      | else-spins-index w ↦
          ap (λ (nodes : Vec ℕ Global). nodes.items) w.nodes-is ∙ sym (append-nil old)
          ∙ ap (λ one. old ++ one) (sym (node_else spins index w.if-spins-index.false))
    ])

pub returns : goal.returns
unfolding spinning_nodes
returns c =
    let all : c.loop-index.index ≡ 144 = omega arith in
    c.loop-index.invariant
    ∙ ap (λ count. flat_map (spinning_if c.args.spins.now) (range_with_len 0 count)) all
