-- What the tries of nodes leave in a seat, one after another, and what stays of the parts that are
-- borrowed with it.
use Rattle.std.proofs.Common.{◌≡◌, ◌≢◌, ◌∙◌, ℕ, ◌==◌, ◌+◌, ◌<◌, zero, suc, Bool, true, false, ◌||◌, ◌⊎◌, inl, inr, List, [], ◌∷◌, ◌++◌, length, set, take, slice_get, Option, Some, None, option_map, refl, sym, ap, subst, arith, append-nil, append_assoc}
use Rattle.std.proofs.lemmas.Bool.{cases_eq, eqb-true, true≢false}
use Rattle.std.proofs.lemmas.Cmp.{nat_eq_equiv}
use Rattle.std.proofs.lemmas.List.Folds.{list_any-append}
use Rattle.std.proofs.lemmas.Option.{none-some, same_Some, slice_get-map, slice_get_within}
use Rattle.ga_place.specs.Cell.{index_of}
use Rattle.ga_place.specs.Node.{is_among}
use Rattle.ga_place.proofs.Cells.{one_place}
use Rattle.ga_place.specs.declared.side.Side.{Side}
use Rattle.ga_chip.specs.Ahead.{IsFreeFor, ahead}
use Rattle.ga_chip.specs.Part.{Part, after}
use Rattle.ga_chip.proofs.Lists.{get-set_else, get-set_here}
use Rattle.ga_port.specs.declared.seat.Holding.{Holding}
use Rattle.ga_port.specs.Seat.{CellsId, SeatView, kept, kept_after, tried_in}
use Rattle.ga_port.proofs.Nodes.{tried_else, tried_here}
use Rattle.ga_group.specs.Plan.{first_repeated}
use Rattle.ga_group.specs.inner.Work.{AreAheadBy, AreLent, HasWorkedBy, HaveGained, IsAheadBy, IsLent, IsReady, IsReadyBy, names_of}
use Rattle.ga_group.proofs.Plans.{is_new, not_behind}

-- ---- names

-- one name is the other, or it isn't
pub same_or_not : (a b : ℕ) → (a ≡ b) ⊎ ((a == b) ≡ false)
same_or_not a b = by (a == b) refl
  where
    by : (t : Bool) → (a == b) ≡ t → (a ≡ b) ⊎ ((a == b) ≡ false)
    by true e = inl (eqb-true a b e)
    by false e = inr e

-- a name among names and others is among the first or among the others
pub among_either : (name : ℕ) (names more : List ℕ)
    → is_among name (names ++ more) ≡ (is_among name names || is_among name more)
among_either name names more = list_any-append (λ other. other == name) names more

pub among_here : (name : ℕ) (names : List ℕ) → is_among name (name ∷ names) ≡ true
among_here name names = ap (λ b. b || is_among name names) (nat_eq_equiv.refl name)

-- the only name
pub among_one : (name other : ℕ) → is_among name (other ∷ []) ≡ true → other ≡ name
among_one name other e = by (same_or_not other name)
  where
    by : (other ≡ name) ⊎ ((other == name) ≡ false) → other ≡ name
    by (inl same) = same
    by (inr apart) = absurd (true≢false (sym e ∙ ap (λ b. b || false) apart))

pub among_at : (names : List ℕ) (index name : ℕ) → slice_get names index ≡ Some name
    → is_among name names ≡ true
among_at [] index name e = absurd (none-some name e)
among_at (other ∷ names) zero name e =
    subst (λ n. is_among n (other ∷ names) ≡ true) (same_Some other name e) (among_here other names)
among_at (other ∷ names) (suc index) name e = by (other == name) (among_at names index name e)
  where
    by : (b : Bool) → is_among name names ≡ true → (b || is_among name names) ≡ true
    by true rest = refl
    by false rest = rest

-- a name at a place is nowhere before it
pub not_before : (before names : List ℕ) (index name : ℕ) → first_repeated before names ≡ None
    → slice_get names index ≡ Some name → is_among name (before ++ take index names) ≡ false
not_before before [] index name once e = absurd (none-some name e)
not_before before (other ∷ names) zero name once e =
    ap (is_among name) (append-nil before)
    ∙ ap (λ n. is_among n before) (sym (same_Some other name e))
    ∙ (is_new before other names once).here
not_before before (other ∷ names) (suc index) name once e =
    ap (is_among name) (sym (append_assoc before (other ∷ []) (take index names)))
    ∙ not_before (before ++ other ∷ []) names index name (is_new before other names once).behind e

-- and at no other place
pub one_index : (before names : List ℕ) (index at name : ℕ) → first_repeated before names ≡ None
    → slice_get names index ≡ Some name → slice_get names at ≡ Some name → index ≡ at
one_index before [] index at name once e f = absurd (none-some name e)
one_index before (other ∷ names) zero zero name once e f = refl
one_index before (other ∷ names) zero (suc at) name once e f =
    absurd (true≢false (sym (among_at names at other (f ∙ ap Some (sym (same_Some other name e))))
    ∙ not_behind before other names once))
one_index before (other ∷ names) (suc index) zero name once e f =
    absurd (true≢false (sym (among_at names index other
    (e ∙ ap Some (sym (same_Some other name f)))) ∙ not_behind before other names once))
one_index before (other ∷ names) (suc index) (suc at) name once e f =
    ap suc (one_index (before ++ other ∷ []) names index at name
    (is_new before other names once).behind e f)

-- the name of the part at a place
pub name_there : (parts : List Part) (index : ℕ) (part : Part) → slice_get parts index ≡ Some part
    → slice_get (names_of parts) index ≡ Some part.state.node
name_there parts index part e =
    slice_get-map (λ (p : Part). p.state.node) parts index
    ∙ ap (option_map (λ (p : Part). p.state.node)) e

-- ---- tests

pub neither : (a b : Bool) → (a || b) ≡ false → (a ≡ false) × (b ≡ false)
neither true b e = absurd (true≢false e)
neither false b e = (refl, e)

pub or_first : (a b : Bool) → b ≡ false → (a || b) ≡ true → a ≡ true
or_first true b none e = refl
or_first false b none e = sym none ∙ e

-- ---- what nodes have gained

pub gained_none : (nodes : List (Option Holding)) (names : List ℕ) → HaveGained nodes nodes names []
gained_none nodes names = record {
  tried = λ name one among has. (
    one.part,
    has ∙ ap (λ sides. Some (record { part = one.part; sides = sides }))
        (sym (append-nil one.sides)),
  );
  others = λ name apart. refl;
}

-- one behind another
pub gained_more : (first second third : List (Option Holding)) (names : List ℕ)
    (sides more : List Side) → HaveGained first second names sides
    → HaveGained second third names more → HaveGained first third names (sides ++ more)
gained_more first second third names sides more gained again = record {
  tried = λ name one among has. by name one among (gained.tried name one among has);
  others = λ name apart. again.others name apart ∙ gained.others name apart;
}
  where
    by : (name : ℕ) (one : Holding) → is_among name names ≡ true → (part : Part)
        × (kept second name ≡ Some (record { part = part; sides = one.sides ++ sides }))
        → (part : Part)
        × (kept third name ≡ Some (record { part = part; sides = one.sides ++ (sides ++ more) }))
    by name one among (part, has) =
        let next =
        again.tried name (record { part = part; sides = one.sides ++ sides }) among has in (
          next.0,
          next.1 ∙ ap (λ l. Some (record { part = next.0; sides = l }))
              (append_assoc one.sides sides more),
        )

-- other nodes behind some
pub gained_join : (first second third : List (Option Holding)) (names others : List ℕ)
    (sides : List Side) → HaveGained first second names sides → HaveGained second third others sides
    → ((name : ℕ) → is_among name others ≡ true → is_among name names ≡ false)
    → HaveGained first third (names ++ others) sides
gained_join first second third names others sides gained again apart = record {
  tried = λ name one among has. by name one (is_among name others) refl
      (sym (among_either name names others) ∙ among) has;
  others = λ name none.
      let both = neither (is_among name names) (is_among name others)
      (sym (among_either name names others) ∙ none) in
      again.others name both.1 ∙ gained.others name both.0;
}
  where
    stays : (name : ℕ) (one : Holding) → is_among name others ≡ false → (part : Part)
        × (kept second name ≡ Some (record { part = part; sides = one.sides ++ sides }))
        → (part : Part)
        × (kept third name ≡ Some (record { part = part; sides = one.sides ++ sides }))
    stays name one none (part, there) = (part, again.others name none ∙ there)

    by : (name : ℕ) (one : Holding) (b : Bool) → is_among name others ≡ b
        → (is_among name names || is_among name others) ≡ true → kept first name ≡ Some one
        → (part : Part)
        × (kept third name ≡ Some (record { part = part; sides = one.sides ++ sides }))
    by name one true among some has =
        again.tried name one among (gained.others name (apart name among) ∙ has)
    by name one false none some has =
        stays name one none (gained.tried name one
        (or_first (is_among name names) (is_among name others) none some) has)

-- a try of a node
pub gained_one : (nodes : List (Option Holding)) (name : ℕ) (side : Side) (found : Option ℕ)
    (one : Holding) → kept nodes name ≡ Some one → index_of name < 144 → HaveGained nodes
    (tried_in nodes (record { node = name; side = side }) found) (name ∷ []) (side ∷ [])
gained_one nodes name side found one has below = record {
  tried = λ other kept_one among there. by other kept_one (among_one other name among) there;
  others = λ other none. tried_else nodes (record { node = name; side = side }) found other
      (λ same. apart_from other none (one_place name other below (sym same)));
}
  where
    by : (other : ℕ) (old : Holding) → name ≡ other → kept nodes other ≡ Some old
        → (part : Part) × (kept (tried_in nodes (record { node = name; side = side }) found) other
        ≡ Some (record { part = part; sides = old.sides ++ side ∷ [] }))
    by other old same there =
        let is : one ≡ old = same_Some one old (sym has ∙ ap (kept nodes) same ∙ there) in (
          (after one.part side found).1,
          ap (kept (tried_in nodes (record { node = name; side = side }) found)) (sym same)
              ∙ tried_here nodes (record { node = name; side = side }) found one has
              ∙ ap (λ (k : Holding). Some
              (record { part = (after one.part side found).1; sides = k.sides ++ side ∷ [] })) is,
        )

    apart_from : (other : ℕ) → is_among other (name ∷ []) ≡ false → name ≡ other → ⊥
    apart_from other none same =
        true≢false (sym (among_here name []) ∙ ap (λ n. is_among n (name ∷ [])) same ∙ none)

-- ---- a part that is tried at its place

-- the names are as they were
pub names_set : (parts : List Part) (index : ℕ) (part new : Part)
    → slice_get parts index ≡ Some part → new.state.node ≡ part.state.node
    → names_of (set parts index new) ≡ names_of parts
names_set [] index part new there same = refl
names_set (one ∷ parts) zero part new there same =
    ap (λ n. n ∷ names_of parts)
    (same ∙ ap (λ (p : Part). p.state.node) (sym (same_Some one part there)))
names_set (one ∷ parts) (suc index) part new there same =
    ap (λ l. one.state.node ∷ l) (names_set parts index part new there same)

-- the try of a node whose part isn't ahead
pub lent_tried : (nodes : List (Option Holding)) (part new : Part) (side : Side)
    (found : Option ℕ) → IsLent part nodes → new.state.node ≡ part.state.node
    → new ≡ (after part side found).1
    → IsLent new (tried_in nodes (record { node = part.state.node; side = side }) found)
lent_tried nodes part new side found lent same is = record {
  one = kept_after lent.one side found;
  has = ap (kept (tried_in nodes (record { node = part.state.node; side = side }) found)) same
      ∙ tried_here nodes
      (record { node = part.state.node; side = side }) found lent.one lent.has;
  may = tt;
  same = ap (λ (p : Part). (after p side found).1) lent.same ∙ sym is;
  below = subst (λ n. index_of n < 144) (sym same) lent.below;
}

module _ (parts : List Part) (nodes : List (Option Holding)) (index : ℕ) (part : Part) (side : Side)
    (found : Option ℕ) (a b : ℕ → ℕ) where
  -- all parts are borrowed again, and the others are ahead as before
  pub lent_set : (new : Part) → AreAheadBy a parts nodes → first_repeated [] (names_of parts) ≡ None
      → slice_get parts index ≡ Some part → ((at : ℕ) → index ≢ at → b at ≡ a at)
      → IsAheadBy (b index) new
      (tried_in nodes (record { node = part.state.node; side = side }) found)
      → AreAheadBy b (set parts index new)
      (tried_in nodes (record { node = part.state.node; side = side }) found)
  lent_set new lent once there others_same here =
      record { at = λ at other e. by at other (cases_eq index at) e }
    where
      elsewhere : (at : ℕ) (other : Part) → index ≢ at → slice_get parts at ≡ Some other
          → IsAheadBy (b at) other
          (tried_in nodes (record { node = part.state.node; side = side }) found)
      elsewhere at other apart e =
          let its : IsAheadBy (a at) other nodes = lent.at at other e in
          let away : index_of other.state.node ≢ index_of part.state.node =
          λ f. apart (one_index [] (names_of parts) index at part.state.node once
          (name_there parts index part there) (name_there parts at other e
          ∙ ap Some (one_place other.state.node part.state.node its.below f))) in
          record {
            one = its.one;
            has = tried_else nodes (record { node = part.state.node; side = side }) found
                other.state.node away ∙ its.has;
            may = subst (λ k. IsFreeFor k its.one.part) (sym (others_same at apart)) its.may;
            same = ap (λ k. ahead k its.one.part) (others_same at apart) ∙ its.same;
            below = its.below;
          }

      by : (at : ℕ) (other : Part) → (index ≡ at) ⊎ (index ≡ at → ⊥)
          → slice_get (set parts index new) at ≡ Some other
          → IsAheadBy (b at) other
          (tried_in nodes (record { node = part.state.node; side = side }) found)
      by at other (inl i) e =
          subst (λ n. IsAheadBy (b n) other
          (tried_in nodes (record { node = part.state.node; side = side }) found)) i
          (subst (λ p. IsAheadBy (b index) p
          (tried_in nodes (record { node = part.state.node; side = side }) found))
          (same_Some new other (sym (get-set_here parts index new part there)
          ∙ ap (slice_get (set parts index new)) i ∙ e)) here)
      by at other (inr apart) e =
          elsewhere at other apart (sym (get-set_else parts index at new apart) ∙ e)

-- ---- one more node of a turn

take_next : (names : List ℕ) (index name : ℕ) → slice_get names index ≡ Some name
    → take (suc index) names ≡ take index names ++ name ∷ []
take_next [] index name e = absurd (none-some name e)
take_next (other ∷ names) zero name e = ap (λ n. n ∷ []) (same_Some other name e)
take_next (other ∷ names) (suc index) name e = ap (λ l. other ∷ l) (take_next names index name e)

pub gained_next : (first nodes : List (Option Holding)) (names : List ℕ) (parts : List Part)
    (index : ℕ) (part : Part) (side : Side) (found : Option ℕ) (a : ℕ → ℕ)
    → names_of parts ≡ names → first_repeated [] names ≡ None → AreAheadBy a parts nodes
    → slice_get parts index ≡ Some part
    → HaveGained first nodes (take index names) (side ∷ [])
    → HaveGained first (tried_in nodes (record { node = part.state.node; side = side }) found)
    (take (index + 1) names) (side ∷ [])
gained_next first nodes names parts index part side found a same once lent there gained =
    let name = part.state.node in
    let after = tried_in nodes (record { node = name; side = side }) found in
    let mine = lent.at index part there in
    let at : slice_get names index ≡ Some name =
    ap (λ l. slice_get l index) (sym same) ∙ name_there parts index part there in
    let next : suc index ≡ index + 1 = omega arith in
    subst (λ l. HaveGained first after l (side ∷ [])) (sym (take_next names index name at)
    ∙ ap (λ n. take n names) next)
    (gained_join first nodes after (take index names) (name ∷ []) (side ∷ []) gained
    (gained_one nodes name side found mine.one mine.has mine.below)
    (λ other among. subst (λ n. is_among n (take index names) ≡ false) (among_one other name among)
    (not_before [] names index name once at)))

-- ---- the work of a worker

-- numbers that are the same at each place
pub ahead_same : (a b : ℕ → ℕ) (parts : List Part) (nodes : List (Option Holding))
    → ((at : ℕ) → at < length parts → b at ≡ a at) → AreAheadBy a parts nodes
    → AreAheadBy b parts nodes
ahead_same a b parts nodes same lent = record {
  at = λ at part e. subst (λ k. IsAheadBy k part nodes)
      (sym (same at (slice_get_within parts at part e))) (lent.at at part e);
}

-- no turn
pub worked_none : (a : ℕ → ℕ) (seat : SeatView) (parts : List Part) → ((at : ℕ) → a at ≡ 0)
    → AreLent parts seat.nodes → HasWorkedBy a seat seat parts parts []
worked_none a seat parts none lent = record {
  table = refl;
  names = refl;
  lent = ahead_same (λ at. 0) a parts seat.nodes (λ at below. none at) lent;
  gained = gained_none seat.nodes (names_of parts);
}

-- some turns behind others
pub worked_more : (a b : ℕ → ℕ) (first second third : SeatView) (old parts new : List Part)
    (sides more : List Side) → HasWorkedBy a first second old parts sides
    → HasWorkedBy b second third parts new more
    → HasWorkedBy b first third old new (sides ++ more)
worked_more a b first second third old parts new sides more worked again = record {
  table = again.table ∙ worked.table;
  names = again.names ∙ worked.names;
  lent = again.lent;
  gained = gained_more first.nodes second.nodes third.nodes (names_of old) sides more worked.gained
      (subst (λ l. HaveGained second.nodes third.nodes l more) worked.names again.gained);
}

-- the nodes are ahead by the same numbers
pub worked_same : (a b : ℕ → ℕ) (first second : SeatView) (old new : List Part)
    (sides : List Side) → ((at : ℕ) → b at ≡ a at) → HasWorkedBy a first second old new sides
    → HasWorkedBy b first second old new sides
worked_same a b first second old new sides same worked = record {
  table = worked.table;
  names = worked.names;
  lent = ahead_same a b new second.nodes (λ at below. same at) worked.lent;
  gained = worked.gained;
}

-- a worker may go on
pub ready_again : (a : ℕ → ℕ) (table : CellsId) (first second : SeatView)
    (old parts : List Part) (sides : List Side) → IsReady table first old
    → HasWorkedBy a first second old parts sides → IsReadyBy a table second parts
ready_again a table first second old parts sides ready worked = record {
  own = worked.table ∙ ready.own;
  lent = worked.lent;
  once = ap (first_repeated []) worked.names ∙ ready.once;
}
