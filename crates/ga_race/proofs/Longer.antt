-- A run without races goes on by an own step of a node that spins, and still has no race.
use Rattle.std.proofs.Common.{◌≡◌, ℕ, ◌≤◌, ◌==◌, Bool, true, false, List, [], ◌∷◌, ◌++◌, ◌⊎◌, inl, inr, set, get_or, Option, Some, None, refl, sym, ap, ◌∙◌, subst, append-nil}
use Rattle.std.specs.Prelude.{◌%◌, ◌^◌, ◌-◌, ◌&&◌, not, if◌then◌else◌}
use Rattle.std.proofs.lemmas.Bool.{cases_eq}
use Rattle.std.proofs.lemmas.List.Concat.{flat_map-append}
use Rattle.ga_place.specs.Cell.{index_of}
use Rattle.ga_place.specs.declared.side.Side.{Side}
use Rattle.ga_place.specs.declared.side.Side.TheVariants.{Right}
use Rattle.ga_node.specs.State.{is_fetch}
use Rattle.ga_node.specs.Need.{need_of, wants}
use Rattle.ga_node.specs.declared.need.Need.TheVariants as need
use Rattle.ga_node.specs.declared.need.Stop.TheVariants.{Counted}
use Rattle.ga_chip.specs.declared.outcome.Outcome.TheVariants.{Held, Moved, Stopped}
use Rattle.ga_chip.specs.Part.{Part, Nothing, Own, Post, after, after_asked, asks, asks_by, asks_if, is_held, picked_by, stepped}
use Rattle.ga_chip.specs.Chip.{Chip, cells_after, found_by, part_of, tried, tried_at}
use Rattle.ga_chip.specs.Run.{Event, Move, Try, happened, if_moved, is_open, move_at, move_in, moves, moves_of, piece_of, ran, words_fed}
use Rattle.ga_chip.specs.Laws.{IsPrefix}
use Rattle.ga_chip.specs.Legal.{IsLegal}
use Rattle.ga_chip.proofs.Kept.{legal_ran}
use Rattle.ga_chip.proofs.Runs.{ran-append}
use Rattle.ga_chip.proofs.Tries.{tried_none, tried_there}
use Rattle.ga_race.specs.Clocks.{clocks, steps_in}
use Rattle.ga_race.specs.Races.{HasNoRace, IsOrdered, LeavesOut, Posts}
use Rattle.ga_race.specs.Spins.{IsRestOrSpins, IsResting, IsSpinning}
use Rattle.ga_node.specs.Spins.{Spins}
use Rattle.ga_race.proofs.Prefixes.{prefix_of, its_own, next_of, not_its, only_move, prefix_both, prefix_self}
use Rattle.ga_race.proofs.Cuts.{LastCut, last_cut}
use Rattle.ga_observe.proofs.Tried.{Leaves, part_else, part_here}
use Rattle.ga_node.proofs.Uncounted.{spins_next, spins_own}

-- the move of an own step
abbrev pub own_move : ℕ → Move
own_move name = record { node = name; asked = Own; found = None; picked = [] }

-- an own step leaves out no side
no_choice : (chip : Chip) (event : Event) (by name cell : ℕ) → move_in chip event ≡ own_move by ∷ []
    → LeavesOut chip event name cell → ⊥
no_choice chip event by name cell own l =
    let one : l.move ∷ [] ≡ own_move by ∷ [] = sym (only_move chip event name l.move l.made)
    ∙ own in
    let same : own_move by ≡ l.move = cc in
    let none : [] ≡ l.taken ∷ [] = ap (λ (m : Move). m.picked) same ∙ l.picked in
    cc

-- an own step posts nothing
no_post : (chip : Chip) (event : Event) (by cell : ℕ) → move_in chip event ≡ own_move by ∷ []
    → Posts chip event cell → ⊥
no_post chip event by cell own p =
    let one : p.move ∷ [] ≡ own_move by ∷ [] = sym p.made ∙ own in
    let same : own_move by ≡ p.move = cc in
    let none : Own ≡ Post p.side cell p.word = ap (λ (m : Move). m.asked) same ∙ p.asked in
    cc

-- So a run without races has none with one event more that is an own step.
race_next : (chip : Chip) (whole : List Event) (last : Event) (its : ℕ) → HasNoRace chip whole
    → move_in (ran chip whole) last ≡ own_move its ∷ [] → HasNoRace chip (whole ++ last ∷ [])
race_next chip whole last its race own before later event name cell e l =
    by (last_cut whole before later last event e)
  where
    by : LastCut whole last before event later → IsOrdered chip before event later name cell
    by (inr (f, g)) =
        let l' : LeavesOut (ran chip whole) last name cell =
        subst (λ es. LeavesOut (ran chip es) last name cell) (sym f)
        (subst (λ x. LeavesOut (ran chip before) x name cell) (sym g) l) in
        absurd (no_choice (ran chip whole) last its name cell own l')
    by (inl (rest, f, g)) =
        record {
          empty = old.empty;
          comes_after =
              λ mid others post cut posts. behind mid others post posts
              (last_cut rest mid others last post (sym g ∙ cut));
        }
      where
        old : IsOrdered chip before event rest name cell
        old = race before rest event name cell f l

        behind : (mid others : List Event) (post : Event)
            → Posts (ran chip (before ++ event ∷ mid)) post cell → LastCut rest last mid post others
            → steps_in chip (before ++ event ∷ []) name
            ≤ (clocks chip ((before ++ event ∷ mid) ++ post ∷ [])).posts cell name
        behind mid others post posts (inl (left, f', g')) = old.comes_after mid left post f' posts
        behind mid others post posts (inr (f', g')) =
            let upto : before ++ event ∷ mid ≡ whole = ap (λ es. before ++ event ∷ es) (sym f')
            ∙ sym f in
            let p : Posts (ran chip whole) last cell =
            subst (λ es. Posts (ran chip es) last cell) upto
            (subst (λ x. Posts (ran chip (before ++ event ∷ mid)) x cell) (sym g') posts) in
            absurd (no_post (ran chip whole) last its cell own p)

-- no breakpoint holds a node that has none
free : (fetch pass break : Bool) → break ≡ false → fetch && (not pass && break) ≡ false
free true true break e = refl
free true false break e = e
free false pass break e = refl

-- so a part without breakpoints is not held
pub free_part : (part : Part) → ((address : ℕ) → get_or part.breaks address false ≡ false)
    → is_held part ≡ false
free_part part unbroken =
    free (is_fetch part.state.place) part.pass (get_or part.breaks (part.state.p % 2 ^ 9) false)
    (unbroken (part.state.p % 2 ^ 9))

-- and its tries ask by its need
asks_need : (part : Part) (side : Side) → ((address : ℕ) → get_or part.breaks address false ≡ false)
    → asks part side ≡ asks_by (need_of part.state) part.state.node part.stream side
unfolding asks
asks_need part side unbroken = ap (λ held. asks_if held part side) (free_part part unbroken)

-- a node that spins needs own work, unless it has made as many steps as are counted
need_counted : (part : Part) → Spins part.state → (full : Bool)
    → (part.state.steps == 2 ^ 64 - 1) ≡ full
    → need_of part.state ≡ (if full then need.Stopped Counted else need.Own)
unfolding need_of
need_counted part spins full e = ap (λ b. if b then need.Stopped Counted else wants part.state) e
    ∙ ap (λ n. if full then need.Stopped Counted else n) (spins_own part.state spins)

-- in that case a try asks for nothing
pub spent_asks : (chip : Chip) (name : ℕ) (side : Side) (s : IsSpinning chip name)
    → (s.part.state.steps == 2 ^ 64 - 1) ≡ true → asks s.part side ≡ Nothing Stopped
spent_asks chip name side s full =
    asks_need s.part side s.unbroken ∙ ap (λ n. asks_by n s.part.state.node s.part.stream side)
    (need_counted s.part s.spins true full)

-- so the node rests
spent_rests : (chip : Chip) (name : ℕ) (s : IsSpinning chip name)
    → (s.part.state.steps == 2 ^ 64 - 1) ≡ true → IsResting chip name
unfolding after
spent_rests chip name s full side = (λ e. none (sym is ∙ e), λ e. none' (sym is ∙ e))
  where
    asked : asks s.part side ≡ Nothing Stopped
    asked = spent_asks chip name side s full

    is : (tried chip name side).0 ≡ Stopped
    is = ap (λ r. r.0) (tried_there chip name side s.part s.there)
        ∙ ap (λ q. (after_asked q (found_by q chip.cells) s.part).0) asked

    none : Stopped ≡ Moved → ⊥
    none e = cc

    none' : Stopped ≡ Held → ⊥
    none' e = cc

-- Else each try of it makes an own step.
pub record Steps (chip : Chip) (name : ℕ) (side : Side) (part : Part) : Type 0 where
  pub made : move_in chip (Try name side) ≡ own_move name ∷ []
  pub moved : (tried chip name side).0 ≡ Moved
  pub leaves : Leaves chip name side part (stepped None part) Own

-- a try at any side makes that step
pub own_tried : (chip : Chip) (name : ℕ) (side : Side) (s : IsSpinning chip name)
    → (s.part.state.steps == 2 ^ 64 - 1) ≡ false → Steps chip name side s.part
unfolding after happened tried move_in
own_tried chip name side s full = record {
  made = ap (λ o. move_at o chip name side) s.there
      ∙ ap (λ q. if_moved (after_asked q (found_by q chip.cells) s.part).0
      (record {
        node = name;
        asked = q;
        found = found_by q chip.cells;
        picked =
            picked_by (need_of s.part.state) side;
      })) asked
      ∙ ap (λ n. record { node = name; asked = Own; found = None; picked = picked_by n side } ∷ [])
      (need_counted s.part s.spins false full);
  moved = ap (λ o. (tried_at o chip name side).0) s.there
      ∙ ap (λ q. (after_asked q (found_by q chip.cells) s.part).0) asked;
  leaves = record {
    there = s.there;
    leads = ap (λ o. (tried_at o chip name side).1) s.there
        ∙ ap (λ q. record {
          parts = set chip.parts (index_of name) (after_asked q (found_by q chip.cells) s.part).1;
          cells = cells_after q chip.cells;
        }) asked;
  };
}
  where
    asked : asks s.part side ≡ Own
    asked = asks_need s.part side s.unbroken
        ∙ ap (λ n. asks_by n s.part.state.node s.part.stream side)
        (need_counted s.part s.spins false full)

-- the node still spins after the step
pub spins_here : (chip : Chip) (name : ℕ) (side : Side) (s : IsSpinning chip name)
    → Steps chip name side s.part → IsSpinning (happened chip (Try name side)) name
spins_here chip name side s step =
    record {
      part = stepped None s.part;
      there =
          part_here chip name side s.part (stepped None s.part) Own step.leaves;
      spins =
          spins_next s.part.state s.spins;
      unbroken = s.unbroken;
    }

-- a node whose part stays the same still spins
pub spins_else : (chip next : Chip) (other : ℕ) → part_of next other ≡ part_of chip other
    → IsSpinning chip other → IsSpinning next other
spins_else chip next other there s =
    record { part = s.part; there = there ∙ s.there; spins = s.spins; unbroken = s.unbroken }

-- What an own step leaves as it was.
module _ (chip : Chip) (name : ℕ) (s : IsSpinning chip name) (legal : IsLegal chip)
    (step : Steps chip name Right s.part) where
  abbrev next : Chip
  next = happened chip (Try name Right)

  -- the try leaves each other node's part as it was
  there : (other : ℕ) → (name ≡ other → ⊥) → part_of next other ≡ part_of chip other
  there = part_else chip name Right s.part (stepped None s.part) Own step.leaves legal

  -- a try of another node has the same outcome as before
  same_try : (other : ℕ) (side : Side) → (name ≡ other → ⊥)
      → (tried next other side).0 ≡ (tried chip other side).0
  same_try other side apart = by (part_of chip other) refl
    where
      by : (o : Option Part) → part_of chip other ≡ o
          → (tried next other side).0 ≡ (tried chip other side).0
      by None e = ap (λ r. r.0) (tried_none next other side (there other apart ∙ e))
          ∙ sym (ap (λ r. r.0) (tried_none chip other side e))
      by (Some part) e =
          ap (λ r. r.0) (tried_there next other side part (there other apart ∙ e))
          ∙ ap (λ (c : Chip). (after part side (found_by (asks part side) c.cells)).0)
          step.leaves.leads
          ∙ sym (ap (λ r. r.0) (tried_there chip other side part e))

  -- a node that rests still rests
  rests_still : (other : ℕ) → IsResting chip other → (IsResting next other) × (name ≡ other → ⊥)
  rests_still other rests = (
    λ side. (
      λ e. (rests side).0 (sym (same_try other side apart) ∙ e),
      λ e. (rests side).1
          (sym (same_try other side apart) ∙ e),
    ),
    apart,
  )
    where
      apart : name ≡ other → ⊥
      apart e = (rests Right).0 (ap (λ n. (tried chip n Right).0) (sym e) ∙ step.moved)

  -- each node still rests or spins
  quiet_next : IsRestOrSpins chip → IsRestOrSpins next
  quiet_next quiet other = by (cases_eq name other) (quiet other)
    where
      by : (name ≡ other) ⊎ (name ≡ other → ⊥) → IsResting chip other ⊎ IsSpinning chip other
          → IsResting next other ⊎ IsSpinning next other
      by same (inl rests) = inl (rests_still other rests).0
      by (inl same) (inr spins) =
          inr (subst (IsSpinning next) same (spins_here chip name Right s step))
      by (inr apart) (inr spins) = inr (spins_else chip next other (there other apart) spins)

-- A run without races extends another one by own steps of nodes that spin.
pub record Extends (chip : Chip) (whole longer : List Event) : Type 0 where
  pub race : HasNoRace chip longer
  pub quiet : IsRestOrSpins (ran chip longer)
  pub front : (name : ℕ)
      → IsPrefix (moves_of name (moves chip whole)) (moves_of name (moves chip longer))
  pub fed : (name : ℕ) → words_fed chip longer name ≡ words_fed chip whole name
  -- a node that rested still rests, and makes no more steps
  pub rests : (name : ℕ) → IsResting (ran chip whole) name
      → IsResting (ran chip longer) name
      × (moves_of name (moves chip longer) ≡ moves_of name (moves chip whole))

-- each run without races extends itself
pub extends_self : (chip : Chip) (whole : List Event) → HasNoRace chip whole
    → IsRestOrSpins (ran chip whole) → Extends chip whole whole
extends_self chip whole race quiet =
    record {
      race = race;
      quiet = quiet;
      front =
          λ name. prefix_self (moves_of name (moves chip whole));
      fed = λ name. refl;
      rests =
          λ name rests. (rests, refl);
    }

-- A longer run makes one more step of a node.
pub record ByOne (chip : Chip) (whole longer : List Event) (name : ℕ) : Type 0 where
  pub event : Event
  pub extends : Extends chip whole (longer ++ event ∷ [])
  pub move : Move
  pub more : moves_of name (moves chip (longer ++ event ∷ [])) ≡ moves_of name (moves chip longer)
      ++ move ∷ []

-- an own step of a node makes the run longer by one
by_one : (chip : Chip) (whole longer : List Event) (name : ℕ)
    (s : IsSpinning (ran chip longer) name) → IsLegal chip → Extends chip whole longer
    → Steps (ran chip longer) name Right s.part → ByOne chip whole longer name
by_one chip whole longer name s legal e step = record {
  event = Try name Right;
  extends = record {
    race = race_next chip longer (Try name Right) name e.race step.made;
    quiet = subst IsRestOrSpins (sym leads)
        (quiet_next (ran chip longer) name s legal_now step e.quiet);
    front = λ other. prefix_both (moves_of other (moves chip whole))
        (moves_of other (moves chip longer))
        (moves_of other (moves chip (longer ++ Try name Right ∷ []))) (e.front other)
        (prefix_of chip longer (Try name Right ∷ []) other);
    fed = λ other. flat_map-append (piece_of (is_open chip other) other) longer
        (Try name Right ∷ []) ∙ append-nil (words_fed chip longer other) ∙ e.fed other;
    rests = λ other rests. stays other (e.rests other rests);
  };
  move = own_move name;
  more = next_of chip longer (Try name Right) name
      ∙ ap (λ ms. moves_of name (moves chip longer) ++ moves_of name ms) step.made
      ∙ ap (λ ms. moves_of name (moves chip longer) ++ ms) (its_own name (own_move name) refl);
}
  where
    legal_now : IsLegal (ran chip longer)
    legal_now = legal_ran chip longer legal

    leads : ran chip (longer ++ Try name Right ∷ []) ≡ happened (ran chip longer) (Try name Right)
    leads = ran-append chip longer (Try name Right ∷ [])

    stays : (other : ℕ) → IsResting (ran chip longer) other
        × (moves_of other (moves chip longer) ≡ moves_of other (moves chip whole))
        → IsResting (ran chip (longer ++ Try name Right ∷ [])) other
        × (moves_of other (moves chip (longer ++ Try name Right ∷ []))
        ≡ moves_of other (moves chip whole))
    stays other (rests, same) =
        let still = rests_still (ran chip longer) name s legal_now step other rests in (
          subst (λ c. IsResting c other) (sym leads) still.0,
          next_of chip longer (Try name Right) other
              ∙ ap (λ ms. moves_of other (moves chip longer) ++ moves_of other ms) step.made
              ∙ ap (λ ms. moves_of other (moves chip longer) ++ ms)
              (not_its other (own_move name) (λ f. still.1 (sym f)))
              ∙ append-nil (moves_of other (moves chip longer)) ∙ same,
        )

-- A node that spins rests, or makes the run longer by one.
pub rests_or_goes : (chip : Chip) (whole longer : List Event) (name : ℕ) → IsLegal chip
    → Extends chip whole longer → IsSpinning (ran chip longer) name
    → IsResting (ran chip longer) name ⊎ ByOne chip whole longer name
rests_or_goes chip whole longer name legal e s = by (s.part.state.steps == 2 ^ 64 - 1) refl
  where
    by : (full : Bool) → (s.part.state.steps == 2 ^ 64 - 1) ≡ full
        → IsResting (ran chip longer) name ⊎ ByOne chip whole longer name
    by true f = inl (spent_rests (ran chip longer) name s f)
    by false f = inr
        (by_one chip whole longer name s legal e (own_tried (ran chip longer) name Right s f))
