-- A seat that is shared between two halves of the workers, and what it is once both have worked.
use Rattle.std.proofs.Common.{◌≡◌, ◌∙◌, ℕ, ◌+◌, ◌<◌, ◌≤◌, zero, suc, Bool, true, false, not, ◌||◌, ◌==◌, ◌⊎◌, inl, inr, List, [], ◌∷◌, ◌++◌, length, slice_get, get_or, Option, Some, None, refl, sym, ap, subst, arith, add-zero, zero-add, lit≤}
use Rattle.std.specs.Prelude.{if◌then◌else◌}
use Rattle.std.specs.Option.{option_or, option_or}
use Rattle.std.proofs.lemmas.Bool.{cases_lt, true≢false}
use Rattle.std.proofs.lemmas.Grind.{common_steps}
use Rattle.std.proofs.lemmas.List.{map-append}
use Rattle.std.proofs.lemmas.Option.{none-some}
use Rattle.ga_place.specs.Cell.{index_of, name_at}
use Rattle.ga_place.specs.Node.{is_among}
use Rattle.ga_place.proofs.Cells.{name_back}
use Rattle.ga_place.specs.declared.side.Side.{Side}
use Rattle.ga_chip.specs.Part.{Part}
use Rattle.ga_port.specs.declared.seat.Holding.{Holding}
use Rattle.ga_port.specs.Seat.{CellsId, SeatView, kept, kept_where, merged, only, without}
use Rattle.ga_port.proofs.Nodes.{merged_left, merged_of, merged_right}
use Rattle.ga_group.specs.Plan.{first_repeated}
use Rattle.ga_group.specs.inner.Work.{AreLent, HasWorked, HaveGained, IsLent, IsReady, names_of}
use Rattle.ga_group.proofs.Plans.{is_new, nowhere, repeated-append}
use Rattle.ga_group.proofs.Gains.{among_at, among_either, name_there, neither, or_first, same_or_not}

-- ---- names in two halves

or_from : (a b c : Bool) → (a ≡ true → b ≡ true) → (a || c) ≡ true → (b || c) ≡ true
or_from true b c more e = ap (λ x. x || c) (more refl)
or_from false true c more e = refl
or_from false false c more e = e

not_more : (a b : Bool) → (a ≡ true → b ≡ true) → b ≡ false → a ≡ false
not_more true b more none = sym (more refl) ∙ none
not_more false b more none = refl

-- behind fewer names too none of the others occurs twice
fewer : (before less names : List ℕ)
    → ((name : ℕ) → is_among name less ≡ true → is_among name before ≡ true)
    → first_repeated before names ≡ None → first_repeated less names ≡ None
fewer before less [] within e = refl
fewer before less (name ∷ names) within e =
    let new = is_new before name names e in
    ap (λ b. if b then Some name else first_repeated (less ++ name ∷ []) names)
    (not_more (is_among name less) (is_among name before) (within name) new.here)
    ∙ fewer (before ++ name ∷ []) (less ++ name ∷ []) names
    (λ other among. among_either other before (name ∷ [])
    ∙ or_from (is_among other less) (is_among other before)
    (is_among other (name ∷ [])) (within other) (sym (among_either other less (name ∷ [])) ∙ among))
    new.behind

both_none : (first second : Option ℕ) → option_or first second ≡ None
    → (first ≡ None) × (second ≡ None)
both_none None second e = (refl, e)
both_none (Some x) second e = absurd (none-some x (sym e))

pub record AreHalves (left right : List ℕ) : Type 0 where
  pub left_once : first_repeated [] left ≡ None
  pub right_once : first_repeated [] right ≡ None
  pub apart : (name : ℕ) → is_among name right ≡ true → is_among name left ≡ false

pub apart_of : (left right : List ℕ) → first_repeated [] (left ++ right) ≡ None
    → AreHalves left right
apart_of left right once =
    let both = both_none (first_repeated [] left) (first_repeated left right)
    (sym (repeated-append [] left right) ∙ once) in
    record {
      left_once = both.0;
      right_once = fewer left [] right (λ name among. absurd (true≢false (sym among))) both.1;
      apart = λ name among. by both.1 name (is_among name left) refl among;
    }
  where
    by : first_repeated left right ≡ None → (name : ℕ) (b : Bool) → is_among name left ≡ b
        → is_among name right ≡ true → b ≡ false
    by new name true here among = absurd (true≢false (sym among ∙ nowhere name left right new here))
    by new name false here among = refl

-- ---- parts in two halves

get_front : (xs ys : List Part) (index : ℕ) (x : Part) → slice_get xs index ≡ Some x
    → slice_get (xs ++ ys) index ≡ Some x
get_front [] ys index x e = absurd (none-some x e)
get_front (one ∷ xs) ys zero x e = e
get_front (one ∷ xs) ys (suc index) x e = get_front xs ys index x e

get_back : (xs ys : List Part) (index : ℕ) (x : Part) → slice_get ys index ≡ Some x
    → slice_get (xs ++ ys) (length xs + index) ≡ Some x
get_back [] ys index x e = ap (slice_get ys) (zero-add index) ∙ e
get_back (one ∷ xs) ys index x e =
    let next : suc (length xs) + index ≡ suc (length xs + index) = omega arith in
    ap (slice_get (one ∷ (xs ++ ys))) next ∙ get_back xs ys index x e

get_either : (xs ys : List Part) (index : ℕ) (x : Part) → slice_get (xs ++ ys) index ≡ Some x
    → (slice_get xs index ≡ Some x) ⊎ ((at : ℕ) × (slice_get ys at ≡ Some x))
get_either [] ys index x e = inr (index, e)
get_either (one ∷ xs) ys zero x e = inl e
get_either (one ∷ xs) ys (suc index) x e = get_either xs ys index x e

-- the part with a name
HasPart : List Part → ℕ → Type 0
HasPart parts name =
    (index : ℕ) × (part : Part) × (slice_get parts index ≡ Some part) × (part.state.node ≡ name)

part_behind : (one : Part) (parts : List Part) (name : ℕ) → HasPart parts name
    → HasPart (one ∷ parts) name
unfolding HasPart
part_behind one parts name (index, part, there, is) = (suc index, part, there, is)

part_either : (one : Part) (parts : List Part) (name : ℕ)
    → (one.state.node ≡ name) ⊎ ((one.state.node == name) ≡ false)
    → (is_among name (names_of parts) ≡ true → HasPart parts name)
    → is_among name (names_of (one ∷ parts)) ≡ true → HasPart (one ∷ parts) name
unfolding HasPart
part_either one parts name (inl same) rest e = (zero, one, refl, same)
part_either one parts name (inr apart) rest e =
    part_behind one parts name
    (rest (sym (ap (λ b. b || is_among name (names_of parts)) apart) ∙ e))

among_part : (parts : List Part) (name : ℕ) → is_among name (names_of parts) ≡ true
    → HasPart parts name
among_part [] name e = absurd (true≢false (sym e))
among_part (part ∷ parts) name e =
    part_either part parts name (same_or_not part.state.node name) (among_part parts name) e

-- ---- what a shared seat has

-- these names are names of nodes
abbrev pub AreBelow : List ℕ → Type 0
AreBelow names = (name : ℕ) → is_among name names ≡ true → index_of name < 144

pub below_of : (parts : List Part) (nodes : List (Option Holding)) → AreLent parts nodes
    → AreBelow (names_of parts)
unfolding HasPart
below_of parts nodes lent name among =
    let there = among_part parts name among in
    subst (λ n. index_of n < 144) there.3 (lent.at there.0 there.1 there.2).below

none_if : (b : Bool) → ◌≡◌ {A = Option Holding} (if b then None else None) None
none_if true = refl
none_if false = refl

where_is : (test : ℕ → Bool) (from : ℕ) (nodes : List (Option Holding)) (index : ℕ)
    → get_or (kept_where test from nodes) index None
    ≡ (if test (name_at (from + index)) then get_or nodes index None else None)
where_is test from [] index = sym (none_if (test (name_at (from + index))))
where_is test from (x ∷ rest) zero =
    ap (λ n. if test (name_at n) then x else None) (sym (add-zero from))
where_is test from (x ∷ rest) (suc index) =
    let next : suc from + index ≡ from + suc index = omega arith in
    where_is test (suc from) rest index
    ∙ ap (λ n. if test (name_at n) then get_or rest index None else None) next

past_all : (name : ℕ) → 144 ≤ index_of name → index_of name ≡ 144
past_all name past = grind (arith, common_steps)

-- a name is among names of nodes if the node at its place is
module _ (names : List ℕ) (below : AreBelow names) where
  never : (name : ℕ) → 144 ≤ index_of name → (b : Bool) → is_among name names ≡ b → b ≡ false
  never name past true e = let near = below name e in absurd (omega (arith, near, past))
  never name past false e = refl

  among_seen : (name : ℕ) → is_among (name_at (index_of name)) names ≡ is_among name names
  among_seen name = by (cases_lt (index_of name) 144)
    where
      by : (index_of name < 144) ⊎ (144 ≤ index_of name)
          → is_among (name_at (index_of name)) names ≡ is_among name names
      by (inl near) = ap (λ n. is_among n names) (name_back name near)
      by (inr past) =
          never (name_at (index_of name)) (subst (λ i. 144 ≤ index_of (name_at i))
          (sym (past_all name past)) (lit≤ tt)) (is_among (name_at (index_of name)) names) refl
          ∙ sym (never name past (is_among name names) refl)

  seen : (test : Bool → Bool) (nodes : List (Option Holding)) (name : ℕ)
      → kept (kept_where (λ n. test (is_among n names)) 0 nodes) name
      ≡ (if test (is_among name names) then kept nodes name else None)
  unfolding kept
  seen test nodes name =
      where_is (λ n. test (is_among n names)) 0 nodes (index_of name)
      ∙ ap (λ i. if test (is_among (name_at i) names) then get_or nodes (index_of name) None
      else None) (zero-add (index_of name))
      ∙ ap (λ b. if test b then get_or nodes (index_of name) None else None) (among_seen name)

  pub without_is : (nodes : List (Option Holding)) (name : ℕ) → kept (without names nodes) name
      ≡ (if not (is_among name names) then kept nodes name else None)
  unfolding without
  without_is nodes name = seen not nodes name

  pub only_is : (nodes : List (Option Holding)) (name : ℕ)
      → kept (only names nodes) name ≡ (if is_among name names then kept nodes name else None)
  unfolding only
  only_is nodes name = seen (λ b. b) nodes name

either_none : (x : Option Holding) → option_or x None ≡ x
either_none (Some one) = refl
either_none None = refl

-- ---- a seat that is shared between the parts of two halves

pub record IsCut (before seat other : SeatView) (left right : List Part) : Type 0 where
  pub table : seat.table ≡ before.table
  pub left_is : seat.nodes ≡ without (names_of right) before.nodes
  pub right_is : other.nodes ≡ only (names_of right) before.nodes
  pub lent : AreLent (left ++ right) before.nodes
  pub once : first_repeated [] (names_of (left ++ right)) ≡ None

names_append : (left right : List Part) → names_of (left ++ right) ≡ names_of left ++ names_of right
names_append left right = map-append (λ (p : Part). p.state.node) left right

module _ {before seat other : SeatView} {left right : List Part}
    (cut : IsCut before seat other left right) where
  apart_cut : AreHalves (names_of left) (names_of right)
  apart_cut =
      apart_of (names_of left) (names_of right)
      (ap (first_repeated []) (sym (names_append left right)) ∙ cut.once)

  right_lent : AreLent right before.nodes
  right_lent =
      record {
        at = λ index part e. cut.lent.at (length left + index) part
            (get_back left right index part e);
      }

  kept_left : (name : ℕ) → kept seat.nodes name
      ≡ (if not (is_among name (names_of right)) then kept before.nodes name else None)
  kept_left name =
      ap (λ n. kept n name) cut.left_is
      ∙ without_is (names_of right) (below_of right before.nodes right_lent) before.nodes name

  kept_right : (name : ℕ) → kept other.nodes name
      ≡ (if is_among name (names_of right) then kept before.nodes name else None)
  kept_right name =
      ap (λ n. kept n name) cut.right_is
      ∙ only_is (names_of right) (below_of right before.nodes right_lent) before.nodes name

  -- of a name of the right half the first seat has nothing, and the second what was there
  left_of_right : (name : ℕ) → is_among name (names_of right) ≡ true → kept seat.nodes name ≡ None
  left_of_right name e = kept_left name ∙ ap (λ b. if not b then kept before.nodes name else None) e

  right_of_right : (name : ℕ) → is_among name (names_of right) ≡ true
      → kept other.nodes name ≡ kept before.nodes name
  right_of_right name e = kept_right name ∙ ap (λ b. if b then kept before.nodes name else None) e

  -- and of another name the other way round
  left_of_left : (name : ℕ) → is_among name (names_of right) ≡ false
      → kept seat.nodes name ≡ kept before.nodes name
  left_of_left name e = kept_left name ∙ ap (λ b. if not b then kept before.nodes name else None) e

  right_of_left : (name : ℕ) → is_among name (names_of right) ≡ false → kept other.nodes name ≡ None
  right_of_left name e = kept_right name ∙ ap (λ b. if b then kept before.nodes name else None) e

  not_right : (name : ℕ) → is_among name (names_of left) ≡ true
      → is_among name (names_of right) ≡ false
  not_right name here = by (is_among name (names_of right)) refl
    where
      by : (b : Bool) → is_among name (names_of right) ≡ b → b ≡ false
      by true e = absurd (true≢false (sym here ∙ apart_cut.apart name e))
      by false e = refl

  lent_left : (index : ℕ) (part : Part) → slice_get left index ≡ Some part
      → IsLent part before.nodes → IsLent part seat.nodes
  lent_left index part e its = record {
    one = its.one;
    has = left_of_left part.state.node (not_right part.state.node
        (among_at (names_of left) index part.state.node (name_there left index part e))) ∙ its.has;
    may = tt;
    same = its.same;
    below = its.below;
  }

  lent_right : (index : ℕ) (part : Part) → slice_get right index ≡ Some part
      → IsLent part before.nodes → IsLent part other.nodes
  lent_right index part e its = record {
    one = its.one;
    has = right_of_right part.state.node
        (among_at (names_of right) index part.state.node (name_there right index part e)) ∙ its.has;
    may = tt;
    same = its.same;
    below = its.below;
  }

  pub left_ready : {table : CellsId} → before.table ≡ table → IsReady table seat left
  left_ready own = record {
    own = cut.table ∙ own;
    lent = record {
      at = λ index part e. lent_left index part e
          (cut.lent.at index part (get_front left right index part e));
    };
    once = apart_cut.left_once;
  }

  pub right_ready : {table : CellsId} → other.table ≡ table → IsReady table other right
  right_ready own = record {
    own = own;
    lent = record { at = λ index part e. lent_right index part e (right_lent.at index part e) };
    once = apart_cut.right_once;
  }

  -- ---- once both halves have worked
  module _ {first second : SeatView} {left_new right_new : List Part} {sides : List Side}
      (front : HasWorked seat first left left_new sides)
      (back : HasWorked other second right right_new sides) where
    -- what is there of a name of the right half, of one of the left, and of neither
    of_right : (name : ℕ) → is_among name (names_of right) ≡ true
        → kept (merged first.nodes second.nodes) name ≡ kept second.nodes name
    of_right name e =
        merged_right first.nodes second.nodes name
        (front.gained.others name (apart_cut.apart name e) ∙ left_of_right name e)

    of_left : (name : ℕ) → is_among name (names_of right) ≡ false
        → kept (merged first.nodes second.nodes) name ≡ kept first.nodes name
    of_left name e =
        merged_of first.nodes second.nodes name
        ∙ ap (option_or (kept first.nodes name)) (back.gained.others name e ∙ right_of_left name e)
        ∙ either_none (kept first.nodes name)

    tried : (name : ℕ) (one : Holding) (b : Bool) → is_among name (names_of right) ≡ b
        → (is_among name (names_of left) || is_among name (names_of right)) ≡ true
        → kept before.nodes name ≡ Some one
        → (part : Part) × (kept (merged first.nodes second.nodes) name
        ≡ Some (record { part = part; sides = one.sides ++ sides }))
    tried name one true e some has =
        let told = back.gained.tried name one e (right_of_right name e ∙ has) in
        (told.0, of_right name e ∙ told.1)
    tried name one false e some has =
        let told = front.gained.tried name one (or_first (is_among name (names_of left))
        (is_among name (names_of right)) e some) (left_of_left name e ∙ has) in
        (told.0, of_left name e ∙ told.1)

    gained_both : HaveGained before.nodes (merged first.nodes second.nodes)
        (names_of left ++ names_of right) sides
    gained_both = record {
      tried = λ name one among has. tried name one (is_among name (names_of right)) refl
          (sym (among_either name (names_of left) (names_of right)) ∙ among) has;
      others = λ name none.
          let both = neither (is_among name (names_of left)) (is_among name (names_of right))
          (sym (among_either name (names_of left) (names_of right)) ∙ none) in
          of_left name both.1 ∙ front.gained.others name both.0 ∙ left_of_left name both.1;
    }

    among_new : (parts old : List Part) (index : ℕ) (part : Part) → names_of parts ≡ names_of old
        → slice_get parts index ≡ Some part → is_among part.state.node (names_of old) ≡ true
    among_new parts old index part same e =
        ap (is_among part.state.node) (sym same)
        ∙ among_at (names_of parts) index part.state.node (name_there parts index part e)

    lent_both : (index : ℕ) (part : Part)
        → (slice_get left_new index ≡ Some part) ⊎ ((at : ℕ) × (slice_get right_new at ≡ Some part))
        → IsLent part (merged first.nodes second.nodes)
    lent_both index part (inl e) =
        let its = front.lent.at index part e in
        record {
          one = its.one;
          has = merged_left first.nodes second.nodes part.state.node its.one its.has;
          may = tt;
          same = its.same;
          below = its.below;
        }
    lent_both index part (inr (at, e)) =
        let its = back.lent.at at part e in
        record {
          one = its.one;
          has = of_right part.state.node (among_new right_new right at part back.names e) ∙ its.has;
          may = tt;
          same = its.same;
          below = its.below;
        }

    pub rejoined : {after : SeatView} → after.table ≡ first.table
        → after.nodes ≡ merged first.nodes second.nodes
        → HasWorked before after (left ++ right) (left_new ++ right_new) sides
    rejoined {after = after} table nodes = record {
      table = table ∙ front.table ∙ cut.table;
      names = names_append left_new right_new ∙ ap (λ l. l ++ names_of right_new) front.names
          ∙ ap (λ l. names_of left ++ l) back.names ∙ sym (names_append left right);
      lent = record {
        at = λ index part e. subst (IsLent part) (sym nodes)
            (lent_both index part (get_either left_new right_new index part e));
      };
      gained =
          subst (λ l. HaveGained before.nodes after.nodes l sides) (sym (names_append left right))
          (subst (λ n. HaveGained before.nodes n (names_of left ++ names_of right) sides)
          (sym nodes) gained_both);
    }
