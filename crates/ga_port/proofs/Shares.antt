-- The rule is kept when nodes go from one seat to another.
use Rattle.std.proofs.Common.{◌≡◌, ◌≢◌, ℕ, zero, suc, ◌==◌, ◌<◌, Bool, true, false, ◌&&◌, not, ◌⊎◌, inl, inr, List, [], ◌∷◌, ◌++◌, length, Option, Some, None, set, refl, sym, ap, ◌∙◌}
use Rattle.std.specs.Prelude.{if◌then◌else◌}
use Rattle.std.proofs.lemmas.Bool.{cases_eq, eq-eqb, ne_eqb}
use Rattle.std.proofs.lemmas.List.{length-set}
use Rattle.std.proofs.lemmas.Option.{none-some}
use mathlib.Core.Option.{some, some-injective, some-ne-none}
use lib.ListN.{get_elem?}
use Rattle.atomic_table.specs.Table.{Joins, Splits, State}
use Rattle.atomic_table.proofs.Lists.{at_last, at_longer, at_set, set_else, set_here}
use Rattle.ga_place.specs.Cell.{index_of}
use Rattle.ga_place.specs.Node.{is_among}
use Rattle.ga_chip.specs.declared.outcome.Try.{Try}
use Rattle.ga_chip.specs.Chip.{Chip}
use Rattle.ga_chip.specs.Run.{ran, tries_of}
use Rattle.ga_port.specs.declared.seat.Holding.{Holding}
use Rattle.ga_port.specs.Seat.{kept, merged, only, without}
use Rattle.ga_port.specs.Rule.{Holds, IsOf}
use Rattle.ga_port.proofs.Nodes.{kept_none, merged_from, merged_left, merged_right, only_among, only_from, only_keeps, without_among, without_from, without_keeps}
use Rattle.ga_port.proofs.Steps.{at_bound, place_below}

-- what a seat has came from a seat
record From (s : State ℕ (List (Option Holding))) (next : ℕ → ℕ) (id name : ℕ)
    (one : Holding) : Type 0 where
  old_id : ℕ
  old : List (Option Holding)
  at_old : get_elem? s.views old_id ≡ some old
  has_old : kept old name ≡ Some one
  next_is : next name ≡ id

-- a node is at its next seat
abbrev To : List (List (Option Holding)) → (ℕ → ℕ) → ℕ → Type 0
To views next name =
    (view : List (Option Holding)) × (one : Holding) × (get_elem? views (next name) ≡ some view)
    × (kept view name ≡ Some one)

regroup : (chip : Chip) (tries : List Try) (owner : ℕ → ℕ) (s : State ℕ (List (Option Holding)))
    (views : List (List (Option Holding))) (next : ℕ → ℕ) → IsOf chip tries owner s
    → ((id name : ℕ) (view : List (Option Holding)) (one : Holding) → get_elem? views id ≡ some view
    → kept view name ≡ Some one → From s next id name one)
    → ((name : ℕ) (view : List (Option Holding)) (one : Holding) → index_of name < 144
    → get_elem? s.views (owner name) ≡ some view → kept view name ≡ Some one → To views next name)
    → IsOf chip tries next (record { words = s.words; homes = s.homes; views = views })
regroup chip tries owner s views next is from to = record {
  words = is.words;
  cells = is.cells;
  small = is.small;
  nodes = is.nodes;
  parts = λ id name view one e h. let f = from id name view one e h in
      is.parts f.old_id name f.old one f.at_old f.has_old;
  sides = λ id name view one e h. let f = from id name view one e h in
      is.sides f.old_id name f.old one f.at_old f.has_old;
  once = λ id name view one e h. (from id name view one e h).next_is;
  there = λ name part e. let old = is.there name part e in
      to name old.0 old.1 (place_below chip tries owner s name part is e) old.2 old.3;
  beyond = is.beyond;
}

-- the last of a list, or one before it
at_end : (views : List (List (Option Holding))) (last view : List (Option Holding)) (i : ℕ)
    → get_elem? (views ++ last ∷ []) i ≡ some view
    → (get_elem? views i ≡ some view) ⊎ ((i ≡ length views) × (last ≡ view))
at_end [] last view zero e = inr (refl, some-injective last view e)
at_end [] last view (suc i) e = absurd (some-ne-none view (sym e))
at_end (one ∷ rest) last view zero e = inl e
at_end (one ∷ rest) last view (suc i) e = by (at_end rest last view i e)
  where
    by : (get_elem? rest i ≡ some view) ⊎ ((i ≡ length rest) × (last ≡ view))
        → (get_elem? (one ∷ rest) (suc i) ≡ some view)
        ⊎ ((suc i ≡ length (one ∷ rest)) × (last ≡ view))
    by (inl here) = inl here
    by (inr (i_is, same)) = inr (ap suc i_is, same)

-- ---- a seat gives nodes to a new one

module _ (chip : Chip) (tries : List Try) (owner : ℕ → ℕ) (s : State ℕ (List (Option Holding)))
    (is : IsOf chip tries owner s) (id : ℕ) (names : List ℕ) (nodes : List (Option Holding))
    (at : get_elem? s.views id ≡ some nodes) where
  abbrev shared : List (List (Option Holding))
  shared = set s.views id (without names nodes) ++ only names nodes ∷ []

  -- the nodes with these names go to the new seat, if they were at this one
  abbrev next : ℕ → ℕ
  next name = if (owner name == id) && is_among name names then length s.views else owner name

  goes : (name : ℕ) → owner name ≡ id → is_among name names ≡ true → next name ≡ length s.views
  goes name mine among =
      ap (λ b. if b && is_among name names then length s.views else owner name)
      (eq-eqb (owner name) id mine)
      ∙ ap (λ (b : Bool). if b then length s.views else owner name) among

  stays : (name : ℕ) → owner name ≡ id → is_among name names ≡ false → next name ≡ id
  stays name mine apart =
      ap (λ b. if b && is_among name names then length s.views else owner name)
      (eq-eqb (owner name) id mine)
      ∙ ap (λ (b : Bool). if b then length s.views else owner name) apart ∙ mine

  keeps_seat : (name : ℕ) → (owner name ≡ id → ⊥) → next name ≡ owner name
  keeps_seat name other =
      ap (λ b. if b && is_among name names then length s.views else owner name)
      (ne_eqb (owner name) id other)

  below_of : (name : ℕ) (one : Holding) → kept nodes name ≡ Some one → index_of name < 144
  below_of name one has =
      place_below chip tries owner s name one.part is (is.parts id name nodes one at has)

  not_true : (b : Bool) → not b ≡ true → b ≡ false
  not_true true e = absurd cc
  not_true false e = refl

  shared_from : (index name : ℕ) (view : List (Option Holding)) (one : Holding)
      → get_elem? shared index ≡ some view → kept view name ≡ Some one → From s next index name one
  shared_from index name view one e h =
      by (at_end (set s.views id (without names nodes)) (only names nodes) view index e)
    where
      new : index ≡ length (set s.views id (without names nodes))
          → kept (only names nodes) name ≡ Some one → From s next index name one
      new i has =
          let old = only_from names nodes name one has in
          record {
            old_id = id;
            old = nodes;
            at_old = at;
            has_old = old;
            next_is = goes name (is.once id name nodes one at old)
                (only_among names nodes name one (below_of name one old) has)
                ∙ sym (length-set s.views id (without names nodes)) ∙ sym i;
          }

      left : index ≡ id → kept (without names nodes) name ≡ Some one → From s next index name one
      left i has =
          let old = without_from names nodes name one has in
          record {
            old_id = id;
            old = nodes;
            at_old = at;
            has_old = old;
            next_is = stays name (is.once id name nodes one at old)
                (not_true _ (without_among names nodes name one (below_of name one old) has))
                ∙ sym i;
          }

      inside : ((index ≡ id) × (without names nodes ≡ view))
          ⊎ ((index ≢ id) × (get_elem? s.views index ≡ some view)) → From s next index name one
      inside (inl (i, same)) = left i (ap (λ v. kept v name) same ∙ h)
      inside (inr (other, old)) =
          let mine = is.once index name view one old h in
          record {
            old_id = index;
            old = view;
            at_old = old;
            has_old = h;
            next_is = keeps_seat name (λ f. other (sym mine ∙ f)) ∙ mine;
          }

      by : (get_elem? (set s.views id (without names nodes)) index ≡ some view)
          ⊎ ((index ≡ length (set s.views id (without names nodes))) × (only names nodes ≡ view))
          → From s next index name one
      by (inl here) = inside (at_set s.views id index (without names nodes) view here)
      by (inr (i, same)) = new i (ap (λ v. kept v name) same ∙ h)

  shared_to : (name : ℕ) (view : List (Option Holding)) (one : Holding) → index_of name < 144
      → get_elem? s.views (owner name) ≡ some view → kept view name ≡ Some one → To shared next name
  shared_to name view one below there has = by (cases_eq (owner name) id)
    where
      mine : owner name ≡ id → kept nodes name ≡ Some one → (b : Bool) → is_among name names ≡ b
          → To shared next name
      mine o here true among = (
        only names nodes,
        one,
        ap (get_elem? shared) (goes name o among)
            ∙ at_last (set s.views id (without names nodes)) (only names nodes) (length s.views)
            (length-set s.views id (without names nodes)),
        only_keeps names nodes name one below among here,
      )
      mine o here false apart = (
        without names nodes,
        one,
        ap (get_elem? shared) (stays name o apart)
            ∙ at_longer (set s.views id (without names nodes)) (only names nodes ∷ []) id
            (without names nodes)
            (set_here s.views id (without names nodes) (at_bound s.views id nodes at)),
        without_keeps names nodes name one below apart here,
      )

      by : (owner name ≡ id) ⊎ (owner name ≡ id → ⊥) → To shared next name
      by (inl o) =
          let same : view ≡ nodes =
          some-injective view nodes (sym there ∙ ap (get_elem? s.views) o ∙ at) in
          mine o (ap (λ v. kept v name) (sym same) ∙ has) (is_among name names) refl
      by (inr other) = (
        view,
        one,
        ap (get_elem? shared) (keeps_seat name other)
            ∙ at_longer (set s.views id (without names nodes))
            (only names nodes ∷ []) (owner name) view
            (set_else s.views id (owner name) (without names nodes) other ∙ there),
        has,
      )

  shares_is : IsOf chip tries next (record { words = s.words; homes = s.homes; views = shared })
  shares_is = regroup chip tries owner s shared next is shared_from shared_to

pub shares : (opening : Chip) (id : ℕ) (names : List ℕ) (nodes : List (Option Holding))
    → Splits (Holds opening) id nodes (without names nodes) (only names nodes)
shares opening id names nodes s holds at = (
  holds.0,
  next (ran opening (tries_of holds.0)) holds.0 holds.1 s holds.2 id names nodes at,
  shares_is (ran opening (tries_of holds.0)) holds.0 holds.1 s holds.2 id names nodes at,
)

-- ---- a seat takes in the nodes of another

module _ (chip : Chip) (tries : List Try) (owner : ℕ → ℕ) (s : State ℕ (List (Option Holding)))
    (is : IsOf chip tries owner s) (id other : ℕ) (nodes others : List (Option Holding))
    (at : get_elem? s.views id ≡ some nodes)
    (two : other ≢ id) (at_other : get_elem? s.views other ≡ some others) where
  abbrev gathered : List (List (Option Holding))
  gathered = set (set s.views id (merged nodes others)) other []

  abbrev next_of : ℕ → ℕ
  next_of name = if owner name == other then id else owner name

  comes : (name : ℕ) → owner name ≡ other → next_of name ≡ id
  comes name theirs =
      ap (λ (b : Bool). if b then id else owner name) (eq-eqb (owner name) other theirs)

  is_left : (name : ℕ) → (owner name ≡ other → ⊥) → next_of name ≡ owner name
  is_left name apart =
      ap (λ (b : Bool). if b then id else owner name) (ne_eqb (owner name) other apart)

  at_id : get_elem? gathered id ≡ some (merged nodes others)
  at_id =
      set_else (set s.views id (merged nodes others)) other id [] (λ e. two (sym e))
      ∙ set_here s.views id (merged nodes others) (at_bound s.views id nodes at)

  gathered_from : (index name : ℕ) (view : List (Option Holding)) (one : Holding)
      → get_elem? gathered index ≡ some view → kept view name ≡ Some one
      → From s next_of index name one
  gathered_from index name view one e h =
      by (at_set (set s.views id (merged nodes others)) other index [] view e)
    where
      both : index ≡ id → (kept nodes name ≡ Some one) ⊎ (kept others name ≡ Some one)
          → From s next_of index name one
      both i (inl has) =
          let mine = is.once id name nodes one at has in
          record {
            old_id = id;
            old = nodes;
            at_old = at;
            has_old = has;
            next_is = is_left name (λ f. two (sym f ∙ mine)) ∙ mine ∙ sym i;
          }
      both i (inr has) =
          record {
            old_id = other;
            old = others;
            at_old = at_other;
            has_old = has;
            next_is = comes name (is.once other name others one at_other has) ∙ sym i;
          }

      inside : index ≢ other → ((index ≡ id) × (merged nodes others ≡ view))
          ⊎ ((index ≢ id) × (get_elem? s.views index ≡ some view)) → From s next_of index name one
      inside apart (inl (i, same)) =
          both i (merged_from nodes others name one (ap (λ v. kept v name) same ∙ h))
      inside apart (inr (away, old)) =
          let mine = is.once index name view one old h in
          record {
            old_id = index;
            old = view;
            at_old = old;
            has_old = h;
            next_is = is_left name (λ f. apart (sym mine ∙ f)) ∙ mine;
          }

      by : ((index ≡ other) × ([] ≡ view))
          ⊎ ((index ≢ other) × (get_elem? (set s.views id (merged nodes others)) index ≡ some view))
          → From s next_of index name one
      by (inl (i, same)) =
          absurd (none-some one (sym (kept_none name) ∙ ap (λ v. kept v name) same ∙ h))
      by (inr (apart, here)) =
          inside apart (at_set s.views id index (merged nodes others) view here)

  gathered_to : (name : ℕ) (view : List (Option Holding)) (one : Holding) → index_of name < 144
      → get_elem? s.views (owner name) ≡ some view → kept view name ≡ Some one
      → To gathered next_of name
  gathered_to name view one below there has = by (cases_eq (owner name) other)
    where
      theirs : owner name ≡ other → kept others name ≡ Some one → (o : Option Holding)
          → kept nodes name ≡ o → To gathered next_of name
      theirs o here (Some twice) e = absurd (two (sym o ∙ is.once id name nodes twice at e))
      theirs o here None e = (
        merged nodes others,
        one,
        ap (get_elem? gathered) (comes name o) ∙ at_id,
        merged_right nodes others name e ∙ here,
      )

      mine : (owner name ≡ other → ⊥) → (owner name ≡ id) ⊎ (owner name ≡ id → ⊥)
          → To gathered next_of name
      mine apart (inl o) =
          let same : view ≡ nodes =
          some-injective view nodes (sym there ∙ ap (get_elem? s.views) o ∙ at) in (
            merged nodes others,
            one,
            ap (get_elem? gathered) (is_left name apart ∙ o) ∙ at_id,
            merged_left nodes others name one (ap (λ v. kept v name) (sym same) ∙ has),
          )
      mine apart (inr away) = (
        view,
        one,
        ap (get_elem? gathered) (is_left name apart)
            ∙ set_else (set s.views id (merged nodes others)) other (owner name) [] apart
            ∙ set_else s.views id (owner name) (merged nodes others) away ∙ there,
        has,
      )

      by : (owner name ≡ other) ⊎ (owner name ≡ other → ⊥) → To gathered next_of name
      by (inl o) =
          let same : view ≡ others =
          some-injective view others (sym there ∙ ap (get_elem? s.views) o ∙ at_other) in
          theirs o (ap (λ v. kept v name) (sym same) ∙ has) (kept nodes name) refl
      by (inr apart) = mine apart (cases_eq (owner name) id)

  gathers_is : IsOf chip tries next_of
      (record { words = s.words; homes = s.homes; views = gathered })
  gathers_is = regroup chip tries owner s gathered next_of is gathered_from gathered_to

pub gathers : (opening : Chip) (id other : ℕ) (nodes others : List (Option Holding))
    → Joins (Holds opening) id nodes other others (merged nodes others) []
gathers opening id other nodes others s holds at two there =
    let at_other : get_elem? s.views other ≡ some others =
    sym (set_else s.views id other (merged nodes others) two) ∙ there in (
      holds.0,
      next_of (ran opening (tries_of holds.0)) holds.0 holds.1 s holds.2 id other nodes others at
          two at_other,
      gathers_is (ran opening (tries_of holds.0)) holds.0 holds.1 s holds.2 id other nodes others at
          two at_other,
    )
