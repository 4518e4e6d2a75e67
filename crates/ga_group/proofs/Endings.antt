-- How a run of workers ends: the parts that they leave, in order of name, are those of the chip to
-- which their tries lead.
use Rattle.std.proofs.Common.{◌≡◌, ◌∙◌, ℕ, zero, suc, ◌<◌, ◌≤◌, ◌⊎◌, inl, inr, Bool, true, false, List, [], ◌∷◌, ◌++◌, length, take, Option, Some, slice_get, refl, sym, ap, ap₂, subst, arith}
use Rattle.std.specs.List.{concat}
use Rattle.std.proofs.lemmas.Bool.{cases_lt}
use Rattle.std.proofs.lemmas.List.{length-map, map-append, take-map, take_all}
use Rattle.std.proofs.lemmas.Option.{none-some, same_Some, slice_get_within}
use Rattle.ga_place.specs.Cell.{index_of, name_at}
use Rattle.ga_place.specs.inner.Index.{index_back}
use Rattle.ga_place.specs.Node.{IsNodeName, is_among}
use Rattle.ga_place.specs.declared.side.Side.{Side}
use Rattle.ga_place.proofs.Cells.{index_below, is_node}
use Rattle.ga_chip.specs.declared.outcome.Try.{Try}
use Rattle.ga_chip.specs.Part.{Part}
use Rattle.ga_chip.specs.Chip.{Chip}
use Rattle.ga_chip.specs.Legal.{IsLegal}
use Rattle.ga_chip.specs.Run.{ran, sides_tried, tries_of}
use Rattle.ga_chip.proofs.Kept.{legal_ran}
use Rattle.ga_port.specs.declared.seat.Holding.{Holding}
use Rattle.ga_port.specs.Cells.{IsEnd}
use Rattle.ga_port.specs.Seat.{SeatView, kept, untried}
use Rattle.ga_port.proofs.Nodes.{untried_there}
use Rattle.ga_group.specs.Plan.{Groups}
use Rattle.ga_group.specs.Workers.{IsWorkersRun, sides_of_turns}
use Rattle.ga_group.specs.inner.Work.{AreApart, AreLent, AreSome, HasAllNodes, HasWorked, HaveGained, IsLent, names_of}
use Rattle.ga_group.proofs.Gains.{name_there}
use Rattle.ga_group.proofs.Orders.{among_place, named_part}

-- ---- places in lists

module _ {X : Type 0} where
  at_front : (xs ys : List X) (place : ℕ) (x : X) → slice_get xs place ≡ Some x
      → slice_get (xs ++ ys) place ≡ Some x
  at_front [] ys place x e = absurd (none-some x e)
  at_front (y ∷ xs) ys zero x e = e
  at_front (y ∷ xs) ys (suc place) x e = at_front xs ys place x e

  at_back : (xs ys : List X) (place : ℕ) (x : X) → slice_get ys place ≡ Some x
      → (there : ℕ) × (length xs ≤ there) × (slice_get (xs ++ ys) there ≡ Some x)
  at_back [] ys place x e = (place, omega arith, e)
  at_back (y ∷ xs) ys place x e =
      let rest = at_back xs ys place x e in (suc rest.0, omega (arith, rest.1), rest.2)

  at_either : (xs ys : List X) (place : ℕ) (x : X) → slice_get (xs ++ ys) place ≡ Some x
      → (slice_get xs place ≡ Some x) ⊎ ((there : ℕ) × (slice_get ys there ≡ Some x))
  at_either [] ys place x e = inr (place, e)
  at_either (y ∷ xs) ys zero x e = inl e
  at_either (y ∷ xs) ys (suc place) x e = at_either xs ys place x e

  something : (xs : List X) (place : ℕ) → place < length xs
      → (x : X) × (slice_get xs place ≡ Some x)
  something [] place inside = absurd (omega (arith, inside))
  something (x ∷ xs) zero inside = (x, refl)
  something (x ∷ xs) (suc place) inside = something xs place (omega (arith, inside))

  same_lists : (xs ys : List X) → length xs ≡ length ys
      → ((place : ℕ) (x : X) → slice_get xs place ≡ Some x → slice_get ys place ≡ Some x) → xs ≡ ys
  same_lists [] [] e each = refl
  same_lists [] (y ∷ ys) e each = absurd (omega (arith, e))
  same_lists (x ∷ xs) [] e each = absurd (none-some x (each 0 x refl))
  same_lists (x ∷ xs) (y ∷ ys) e each =
      let here : y ≡ x = same_Some y x (each 0 x refl) in
      let rest : xs ≡ ys =
      same_lists xs ys (omega (arith, e)) (λ place z there. each (suc place) z there) in
      cc

-- ---- the parts of a legal chip

module _ (chip : Chip) (legal : IsLegal chip) where
  place_of_name : (place : ℕ) (part : Part) → slice_get chip.parts place ≡ Some part
      → index_of part.state.node ≡ place
  place_of_name place part e =
      let inside = slice_get_within chip.parts place part e in
      let count = legal.parts in
      let below : place < 144 = omega arith in
      let back = index_back place below in
      ap index_of (legal.named (name_at place) part (ap (slice_get chip.parts) back ∙ e)) ∙ back

  part_there : (name : ℕ) → index_of name < 144
      → (part : Part) × (slice_get chip.parts (index_of name) ≡ Some part)
  part_there name below =
      something chip.parts (index_of name) (subst (λ n. index_of name < n) (sym legal.parts) below)

  pub all_of_chip : HasAllNodes chip.parts
  all_of_chip = record {
    count = legal.parts;
    at = λ name named.
        let found = part_there name (index_below name named) in (
          index_of name,
          name_there chip.parts (index_of name) found.0 found.1
              ∙ ap Some (legal.named name found.0 found.1),
        );
    once = record {
      places = λ here there name e f.
          let one = named_part chip.parts here name e in
          let two = named_part chip.parts there name f in
          sym (place_of_name here one.0 one.1) ∙ ap index_of (one.2 ∙ sym two.2)
          ∙ place_of_name there two.0 two.1;
    };
  }

  -- what the first seat has of a node
  first_kept : (name : ℕ) → index_of name < 144
      → (part : Part) × (kept (untried chip.parts) name ≡ Some (record { part = part; sides = [] }))
  first_kept name below =
      let found = part_there name below in (found.0, untried_there chip.parts name found.0 found.1)

  pub first_lent : (parts : List Part) → AreSome parts chip.parts
      → AreLent parts (untried chip.parts)
  first_lent parts some =
      record { at = λ index part e. let from = some.at index part e in lent from.0 part from.1 }
    where
      lent : (place : ℕ) (part : Part) → slice_get chip.parts place ≡ Some part
          → IsLent part (untried chip.parts)
      lent place part e =
          let at = place_of_name place part e in
          let inside = slice_get_within chip.parts place part e in
          let count = legal.parts in
          record {
            one = record { part = part; sides = [] };
            has = untried_there chip.parts part.state.node part (ap (slice_get chip.parts) at ∙ e);
            may = tt;
            same = refl;
            below = omega (arith, at, inside, count);
          }

-- ---- parts in another order

pub some_some : (xs ys zs : List Part) → AreSome xs ys → AreSome ys zs → AreSome xs zs
some_some xs ys zs one two =
    record { at = λ index part e. let from = one.at index part e in two.at from.0 part from.1 }

pub front_some : (front back : List Part) → AreSome front (front ++ back)
front_some front back = record { at = λ index part e. (index, at_front front back index part e) }

pub lent_some : (xs ys : List Part) (nodes : List (Option Holding)) → AreSome xs ys
    → AreLent ys nodes → AreLent xs nodes
lent_some xs ys nodes some lent =
    record { at = λ index part e. let from = some.at index part e in lent.at from.0 part from.1 }

pub all_alike : (xs ys : List Part) → names_of ys ≡ names_of xs → HasAllNodes xs → HasAllNodes ys
all_alike xs ys same all = record {
  count = sym (length-map ys (λ part. part.state.node)) ∙ ap length same
      ∙ length-map xs (λ part. part.state.node) ∙ all.count;
  at = λ name named. let there = all.at name named in
      (there.0, ap (λ l. slice_get l there.0) same ∙ there.1);
  once = subst AreApart (sym same) all.once;
}

pub in_front : (front parts : List Part) (nodes : List ℕ) → front ≡ take (length nodes) parts
    → take (length nodes) (names_of parts) ≡ nodes → names_of front ≡ nodes
in_front front parts nodes cut first =
    ap names_of cut ∙ sym (take-map (λ part. part.state.node) (length nodes) parts) ∙ first

-- all parts are in the order of these names
pub order_back : (parts : List Part) (order : List ℕ) → take (length order) (names_of parts) ≡ order
    → length parts ≡ length order → names_of parts ≡ order
order_back parts order front count =
    let long : length (names_of parts) ≡ length order =
    length-map parts (λ part. part.state.node) ∙ count in
    sym (take_all (length order) (names_of parts) (omega (arith, long))) ∙ front

-- ---- after the work

module _ (front back after : List Part) (first last : SeatView) (sides : List Side)
    (all : HasAllNodes (front ++ back)) (lent : AreLent (front ++ back) first.nodes)
    (worked : HasWorked first last front after sides) where
  pub all_after : HasAllNodes (after ++ back)
  all_after =
      all_alike (front ++ back) (after ++ back) (map-append _ after back
      ∙ ap (λ l. l ++ names_of back) worked.names ∙ sym (map-append _ front back)) all

  not_in_front : (place : ℕ) (part : Part) → slice_get back place ≡ Some part
      → is_among part.state.node (names_of front) ≡ false
  not_in_front place part e = by (is_among part.state.node (names_of front)) refl
    where
      by : (b : Bool) → is_among part.state.node (names_of front) ≡ b
          → is_among part.state.node (names_of front) ≡ false
      by false among = among
      by true among =
          let there = among_place part.state.node (names_of front) among in
          let one = named_part front there.0 part.state.node there.1 in
          let inside = slice_get_within front there.0 one.0 one.1 in
          let deep = at_back front back place part e in
          let here = name_there (front ++ back) deep.0 part deep.2 in
          let also = name_there (front ++ back) there.0 one.0
          (at_front front back there.0 one.0 one.1) ∙ ap Some one.2 in
          let same = all.once.places there.0 deep.0 part.state.node also here in
          absurd (omega (arith, same, inside, deep.1))

  pub lent_after : AreLent (after ++ back) last.nodes
  lent_after = record { at = λ index part e. by index part (at_either after back index part e) }
    where
      by : (index : ℕ) (part : Part) → (slice_get after index ≡ Some part)
          ⊎ ((there : ℕ) × (slice_get back there ≡ Some part)) → IsLent part last.nodes
      by index part (inl here) = worked.lent.at index part here
      by index part (inr there) =
          let deep = at_back front back there.0 part there.1 in
          let was = lent.at deep.0 part deep.2 in
          record {
            one = was.one;
            has =
                worked.gained.others part.state.node (not_in_front there.0 part there.1) ∙ was.has;
            may = tt;
            same = was.same;
            below = was.below;
          }

-- each of the names of lent parts is that of a node
pub names_known : (parts : List Part) (nodes : List (Option Holding)) (name : ℕ)
    → AreLent parts nodes → is_among name (names_of parts) ≡ true → IsNodeName name
names_known parts nodes name lent among =
    let there = among_place name (names_of parts) among in
    let one = named_part parts there.0 name there.1 in
    subst IsNodeName one.2 (is_node one.0.state.node (lent.at there.0 one.0 one.1).below)

-- ---- the end

-- the chip of these parts and this row
abbrev pub chip_of : List Part → List (Option ℕ) → Chip
chip_of parts row = record { parts = parts; cells = row }

-- what the work of a plan's workers leaves of a chip's parts and of what the seat has
pub record IsWorkedOff (chip : Chip) (nodes : List ℕ) (sides : List Side)
    (last : List (Option Holding)) (parts : List Part) : Type 0 where
  pub legal : IsLegal chip
  pub names : names_of parts ≡ names_of chip.parts
  pub lent : AreLent parts last
  pub gained : HaveGained (untried chip.parts) last nodes sides
  pub known : (name : ℕ) → is_among name nodes ≡ true → IsNodeName name

module _ (chip : Chip) (nodes : List ℕ) (sides : List Side) (last : List (Option Holding))
    (parts : List Part) (row : List (Option ℕ)) (tries : List Try)
    (off : IsWorkedOff chip nodes sides last parts) (end : IsEnd chip last row tries) where
  is_planned : (name : ℕ) → is_among name nodes ≡ true → sides_tried name tries ≡ sides
  is_planned name among =
      let had = first_kept chip off.legal name (index_below name (off.known name among)) in
      let now = off.gained.tried name (record { part = had.0; sides = [] }) among had.1 in
      sym (end.sides name (record { part = now.0; sides = sides }) now.1)

  is_other : (name : ℕ) → is_among name nodes ≡ false → sides_tried name tries ≡ []
  is_other name apart = by (cases_lt (index_of name) 144)
    where
      by : (index_of name < 144) ⊎ (144 ≤ index_of name) → sides_tried name tries ≡ []
      by (inl below) =
          let had = first_kept chip off.legal name below in
          sym (end.sides name
          (record { part = had.0; sides = [] }) (off.gained.others name apart ∙ had.1))
      by (inr past) =
          end.beyond name (λ named. absurd (let below = index_below name named in omega arith))

  is_led : chip_of parts row ≡ ran chip (tries_of tries)
  is_led = ap₂ chip_of (same_lists parts (ran chip (tries_of tries)).parts count each) end.cells
    where
      count : length parts ≡ length (ran chip (tries_of tries)).parts
      count =
          sym (length-map parts (λ part. part.state.node)) ∙ ap length off.names
          ∙ length-map chip.parts (λ part. part.state.node) ∙ off.legal.parts
          ∙ sym (legal_ran chip (tries_of tries) off.legal).parts

      each : (place : ℕ) (part : Part) → slice_get parts place ≡ Some part
          → slice_get (ran chip (tries_of tries)).parts place ≡ Some part
      each place part e =
          let one = off.lent.at place part e in
          let was = named_part chip.parts place part.state.node
          (ap (λ l. slice_get l place) (sym off.names) ∙ name_there parts place part e) in
          let at = ap index_of (sym was.2) ∙ place_of_name chip off.legal place was.0 was.1 in
          ap (slice_get (ran chip (tries_of tries)).parts) (sym at)
          ∙ end.parts part.state.node one.one one.has ∙ ap Some one.same

  pub legal_end : IsLegal (chip_of parts row)
  legal_end = subst IsLegal (sym is_led) (legal_ran chip (tries_of tries) off.legal)

pub legal_of : (chip : Chip) (parts : List Part) (row : List (Option ℕ)) → parts ≡ chip.parts
    → row ≡ chip.cells → IsLegal (chip_of parts row) → IsLegal chip
legal_of chip parts row one other legal = subst IsLegal (ap₂ chip_of one other) legal

-- what a run of workers leaves is a legal chip, and its run
pub run_end : (chip opening : Chip) (plan : Groups) (turns : ℕ) (parts left : List Part)
    (nodes : List ℕ) (first last : List (Option Holding)) (row : List (Option ℕ)) (tries : List Try)
    → IsLegal chip → nodes ≡ concat plan → first ≡ untried chip.parts
    → names_of parts ≡ names_of chip.parts → AreLent parts last
    → HaveGained first last nodes (sides_of_turns turns)
    → ((name : ℕ) → is_among name nodes ≡ true → IsNodeName name) → opening ≡ chip
    → IsEnd opening last row tries → left ≡ parts
    → IsLegal (chip_of left row) × IsWorkersRun chip plan turns (chip_of left row)
run_end chip opening plan turns parts left nodes first last row tries legal planned start names lent
    gained known opens end_at same =
    subst (λ l. IsLegal (chip_of l row) × IsWorkersRun chip plan turns (chip_of l row)) (sym same) (
      legal_end chip (concat plan) (sides_of_turns turns) last parts row tries off end,
      record {
        tries = tries;
        planned = is_planned chip (concat plan) (sides_of_turns turns) last parts row tries off end;
        others = is_other chip (concat plan) (sides_of_turns turns) last parts row tries off end;
        leads = is_led chip (concat plan) (sides_of_turns turns) last parts row tries off end;
      },
    )
  where
    off : IsWorkedOff chip (concat plan) (sides_of_turns turns) last parts
    off = record {
      legal = legal;
      names = names;
      lent = lent;
      gained = subst (λ v. HaveGained v last (concat plan) (sides_of_turns turns)) start
          (subst (λ l. HaveGained first last l (sides_of_turns turns)) planned gained);
      known = λ name among. known name (ap (is_among name) planned ∙ among);
    }

    end : IsEnd chip last row tries
    end = subst (λ c. IsEnd c last row tries) opens end_at
