-- Parts, nodes and groups of nodes in one order, cut in two.
use Rattle.std.proofs.Common.{◌≡◌, ◌∙◌, ℕ, ◌≤◌, List, ◌++◌, length, take, drop, Vec, [], sym, ap, subst, arith, length-drop}
use Rattle.std.specs.List.{concat}
use Rattle.std.proofs.lemmas.List.{drop-map, drop_at, length-take, take-map, take_at}
use Rattle.ga_chip.specs.Part.{Part}
use Rattle.ga_port.specs.Seat.{CellsId, SeatView, only, without}
use Rattle.ga_group.specs.Plan.{first_repeated, groups_in}
use Rattle.ga_group.specs.inner.Work.{AreGrouped, AreLent, IsReady, names_of}
use Rattle.ga_group.proofs.Shared.{IsCut}
use Rattle.ga_group.proofs.Walk.{front_within, groups_cut}

module _ {A : Type 0} (groups : List (Vec ℕ A)) (nodes : List ℕ) (parts : List Part)
    (grouped : AreGrouped groups nodes parts) where
  nodes_count : length (concat (groups_in groups)) ≡ length nodes
  nodes_count = ap length grouped.nodes_is

  -- the groups before have few nodes too
  pub front_few : (at : ℕ) (left : List (Vec ℕ A)) → left ≡ take at groups
      → length (concat (groups_in left)) ≤ 144
  front_few at left is =
      let within = front_within groups at in
      let same = nodes_count in
      let few = grouped.few in
      let front = ap (λ l. length (concat (groups_in l))) is in
      omega (arith, within, same, few, front)

  module _ (at count : ℕ) (is : count ≡ length (concat (groups_in (take at groups)))) where
    nodes_cut : nodes ≡ concat (groups_in (take at groups)) ++ concat (groups_in (drop at groups))
    nodes_cut = sym grouped.nodes_is ∙ groups_cut groups at

    pub count_within : count ≤ length nodes
    count_within =
        let within = front_within groups at in let same = nodes_count in
        omega (arith, within, same, is)

    pub front_grouped : AreGrouped (take at groups) (take count nodes) (take count parts)
    front_grouped = record {
      nodes_is = sym (ap (take count) nodes_cut ∙ take_at (concat (groups_in (take at groups)))
          (concat (groups_in (drop at groups))) count (sym is));
      parts_is = sym (take-map (λ (p : Part). p.state.node) count parts)
          ∙ ap (take count) grouped.parts_is;
      few = let few = grouped.few in omega (arith, few, length-take count nodes);
    }

    pub back_grouped : AreGrouped (drop at groups) (drop count nodes) (drop count parts)
    back_grouped = record {
      nodes_is = sym (ap (drop count) nodes_cut ∙ drop_at (concat (groups_in (take at groups)))
          (concat (groups_in (drop at groups))) count (sym is));
      parts_is = sym (drop-map (λ (p : Part). p.state.node) count parts)
          ∙ ap (drop count) grouped.parts_is;
      few = let few = grouped.few in omega (arith, few, length-drop count nodes);
    }

-- the same in other words
pub grouped_as : {A : Type 0} {groups others : List (Vec ℕ A)} {nodes names : List ℕ}
    {parts rest : List Part} → groups ≡ others → nodes ≡ names → parts ≡ rest
    → AreGrouped others names rest → AreGrouped groups nodes parts
grouped_as same named whole grouped = record {
  nodes_is = ap (λ l. concat (groups_in l)) same ∙ grouped.nodes_is ∙ sym named;
  parts_is = ap names_of whole ∙ grouped.parts_is ∙ sym named;
  few = subst (λ l. length l ≤ 144) (sym named) grouped.few;
}

-- what a share of a seat by the nodes of the right half gives
pub cut_of : {table : CellsId} {before seat : SeatView} {parts left right : List Part}
    {nodes names : List ℕ} (other : SeatView) (count : ℕ) → IsReady table before parts
    → parts ≡ left ++ right → right ≡ drop count parts → names_of parts ≡ nodes
    → names ≡ drop count nodes → seat.table ≡ before.table → seat.nodes ≡ without names before.nodes
    → other.nodes ≡ only names before.nodes → IsCut before seat other left right
cut_of {before = before} {parts = parts} {right = right} {names = names} other count ready whole
    right_is parts_is names_is own left_has right_has =
    let named : names ≡ names_of right = names_is ∙ ap (drop count) (sym parts_is)
    ∙ drop-map (λ (p : Part). p.state.node) count parts ∙ ap names_of (sym right_is) in
    record {
      table = own;
      left_is = left_has ∙ ap (λ l. without l before.nodes) named;
      right_is = right_has ∙ ap (λ l. only l before.nodes) named;
      lent = subst (λ l. AreLent l before.nodes) whole ready.lent;
      once = ap (λ l. first_repeated [] (names_of l)) (sym whole) ∙ ready.once;
    }
