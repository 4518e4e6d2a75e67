-- What code keeps of a watch, step by step.
use Rattle.std.proofs.Common.{◌≡◌, ℕ, ◌+◌, ◌<◌, ◌^◌, ◌==◌, Bool, true, false, List, [], ◌∷◌, ◌++◌, ◌⊎◌, inl, inr, get_or, length, length-append, set, Option, Some, None, refl, sym, ap, ap₂, ◌∙◌, subst, arith}
use Rattle.std.specs.Prelude.{◌&&◌, ◌||◌, if◌then◌else◌, is_some, max, replicate}
use Rattle.std.specs.List.{list_any}
use Rattle.std.specs.Option.{option_map_or}
use Rattle.std.proofs.Math.ListN.{get_or-append}
use Rattle.std.proofs.Math.Seq.{get_or-append_seam}
use Rattle.std.proofs.lemmas.Bool.{cases_eq, eq-eqb, ne_eqb}
use Rattle.std.proofs.lemmas.List.{get_or-replicate, get_or_read_under, get_or-set_same, get_or-set_other}
use Rattle.ga_place.specs.Cell.{cell_of, read_cell}
use Rattle.ga_place.specs.Side.{SIDES, neighbour_of}
use Rattle.ga_place.specs.declared.side.Side.{Side}
use Rattle.ga_place.specs.declared.side.Side.TheVariants.{Right, Down, Left, Up}
use Rattle.ga_place.specs.declared.side.Sides.{Sides}
use Rattle.ga_observe.specs.declared.step.Deed.{Deed}
use Rattle.ga_observe.specs.declared.step.Deed.TheVariants as did
use Rattle.ga_observe.specs.declared.step.Step.{Step}
use Rattle.ga_race.specs.Clocks.{Clock, joined, no_clock, with_clock}
use Rattle.ga_race.specs.Found.{IsPending, IsTake}
use Rattle.ga_race.specs.declared.found.MultiportTake.{MultiportTake}
use Rattle.ga_race.specs.declared.found.Post.{Post}
use Rattle.ga_race.specs.declared.found.Race.{Race}
use Rattle.ga_race.specs.inner.Adds.{Adds, EarlyBy, PostedBy}
use Rattle.ga_race.specs.Shown.{HasSeen, Kept, Shows, ShowsClock}
use Rattle.ga_race.specs.Watch.{AreCounted, Watch, cause_by, clock_after, count_of, first_watch, is_early_by, kept_for, put_for, reads_cell, watch_on, watch_step, with_count}
use Rattle.ga_race.specs.inner.Parts.{all_left, is_left, left_put, post_joined, post_kept, race_put, side_left, take_joined, take_kept, ticked, word_put}
use Rattle.ga_race.proofs.Details.{recalls_next}
use Rattle.ga_race.proofs.Following.{eq_sym, watch-append}

-- the row that code reads
pub row_read : (rows view : List (List ℕ)) (row : List ℕ) (i j count : ℕ)
    → row ≡ get_or rows i row → i ≡ j → i < count → length rows ≡ count → rows ≡ view
    → row ≡ get_or view j []
row_read rows view row i j count e same below long v =
    get_or_read_under rows i count row [] e below (sym long)
    ∙ ap₂ (λ r k. get_or r k []) v same

-- a word that is not there
pub not_some : (word : Option ℕ) → ((v : ℕ) → word ≡ Some v → ⊥) → is_some word ≡ false
not_some None apart = refl
not_some (Some v) apart = absurd (apart v refl)

-- a row that is written
pub row_set : (rows : List (List ℕ)) (row : List ℕ) (i cell : ℕ) (clocks : ℕ → Clock)
    (clock : Clock) → length rows ≡ 524 → i < 524 → i ≡ cell
    → ((at : ℕ) → at < 524 → ShowsClock (get_or rows at []) (clocks at)) → ShowsClock row clock
    → (at : ℕ) → at < 524
    → ShowsClock (get_or (set rows i row) at []) (with_clock cell clock clocks at)
row_set rows row i cell clocks clock long below is old new at h =
    subst (λ c. ShowsClock (get_or (set rows i row) at []) (with_clock c clock clocks at)) is
    (by (cases_eq at i))
  where
    by : (at ≡ i) ⊎ (at ≡ i → ⊥)
        → ShowsClock (get_or (set rows i row) at []) (with_clock i clock clocks at)
    by (inl e) =
        subst (λ r. ShowsClock r (with_clock i clock clocks at))
        (sym (ap (λ k. get_or (set rows i row) k []) e
        ∙ get_or-set_same rows i row [] (subst (λ n. i < n) (sym long) below)))
        (subst (ShowsClock row) (sym (ap (λ b. if b then clock else clocks at) (eq-eqb at i e)))
        new)
    by (inr apart) =
        subst (λ r. ShowsClock r (with_clock i clock clocks at))
        (sym (get_or-set_other rows i at row [] apart))
        (subst (ShowsClock (get_or rows at []))
        (sym (ap (λ b. if b then clock else clocks at) (ne_eqb at i apart))) (old at h))

-- rows of zeros
pub fresh : (rows : List (List ℕ)) (count index : ℕ) → rows ≡ replicate count (replicate 144 0)
    → index < count → ShowsClock (get_or rows index []) no_clock
fresh rows count index e h at below =
    ap (λ l. get_or (get_or l index []) at 0) e
    ∙ ap (λ r. get_or r at 0) (get_or-replicate count index (replicate 144 0) [] h)
    ∙ get_or-replicate 144 at 0 0 below

-- The parts of a step together are the step.
or_false : (b : Bool) → (b || false) ≡ b
or_false true = refl
or_false false = refl

own_clock : (name count : ℕ) (w : Watch) → with_count name count (w.clocks.nodes name)
    ≡ with_count name count (joined (w.clocks.nodes name) no_clock)
own_clock name count w =
    ap (with_count name count) (λ i. λ x. same (w.clocks.nodes name x) i)
  where
    same : (n : ℕ) → n ≡ max n 0
    same n = omega arith

-- a node's clock that was put
here : (name : ℕ) (clock : Clock) (clocks : ℕ → Clock) → with_clock name clock clocks name ≡ clock
here name clock clocks = ap (λ b. if b then clock else clocks name) (eq-eqb name name refl)

-- and put again
again : (name : ℕ) (one two : Clock) (clocks : ℕ → Clock)
    → with_clock name two (with_clock name one clocks) ≡ with_clock name two clocks
again name one two clocks = λ i. λ at. by at (at == name) i
  where
    by : (at : ℕ) (b : Bool) → (if b then two else (if b then one else clocks at))
        ≡ (if b then two else clocks at)
    by at true = refl
    by at false = refl

at_deed : Watch → Step → Deed → Watch
at_deed w step deed = watch_step w (record step { deed = deed })

with_node : ℕ → Clock → Bool → Watch → Watch
with_node name clock race w = record w
    { clocks = record w.clocks { nodes = with_clock name clock w.clocks.nodes }; race = race }

pub own_is : (w : Watch) (step : Step) (count : ℕ) → count ≡ count_of step → step.deed ≡ did.Own
    → ticked step.node count w ≡ watch_step w step
unfolding at_deed with_node
own_is w step count n e =
    ap (λ k. ticked step.node k w) n
    ∙ ap₂ (λ c r. with_node step.node c r w) (own_clock step.node (count_of step) w)
    (sym (or_false w.race))
    ∙ ap (at_deed w step) (sym e)

pub input_is : (w : Watch) (step : Step) (count word : ℕ) → count ≡ count_of step
    → step.deed ≡ did.TookInput word → ticked step.node count w ≡ watch_step w step
unfolding at_deed with_node
input_is w step count word n e =
    ap (λ k. ticked step.node k w) n
    ∙ ap₂ (λ c r. with_node step.node c r w) (own_clock step.node (count_of step) w)
    (sym (or_false w.race))
    ∙ ap (at_deed w step) (sym e)

-- a post, by its cell
posted_at : Watch → ℕ → Side → ℕ → Clock → Clock → Option ℕ → Watch
posted_at w name side word own clock cell = record {
  clocks = record w.clocks {
    nodes = with_clock name own w.clocks.nodes;
    posts = put_for cell clock w.clocks.posts;
  };
  words = put_for cell (Some word) w.words;
  left_at = w.left_at;
  race = w.race || is_early_by cell (neighbour_of name side) clock w.left_at;
}

pub post_is : (w : Watch) (step : Step) (count cell word : ℕ) (side : Side)
    → count ≡ count_of step → step.deed ≡ did.Posted side word
    → cell_of step.node side ≡ Some cell
    → word_put cell (Some word) (post_kept step.node cell (race_put (is_early_by (Some cell)
    (neighbour_of step.node side) ((ticked step.node count w).clocks.nodes step.node) w.left_at)
    (ticked step.node count w))) ≡ watch_step w step
unfolding at_deed posted_at
post_is w step count cell word side n e there =
    ap (λ k. posted_at w step.node side word (with_count step.node k (w.clocks.nodes step.node))
    (with_clock step.node (with_count step.node k (w.clocks.nodes step.node)) w.clocks.nodes
    step.node) (Some cell)) n
    ∙ ap (λ c. posted_at w step.node side word
    (with_count step.node (count_of step) (w.clocks.nodes step.node)) c (Some cell))
    (here step.node (with_count step.node (count_of step) (w.clocks.nodes step.node))
    w.clocks.nodes)
    ∙ ap₂ (λ c o. posted_at w step.node side word c c o) (own_clock step.node (count_of step) w)
    (sym there)
    ∙ ap (at_deed w step) (sym e)

-- a post adds a race, or nothing
pub posted_adds : (w : Watch) (old one two new : Kept) (step : Step) (count cell word : ℕ)
    (side : Side) (when : Post) → when.turn ≡ step.turn → count ≡ count_of step
    → step.deed ≡ did.Posted side word
    → cell_of step.node side ≡ Some cell → one.left ≡ old.left → one.race ≡ old.race
    → two.left ≡ one.left → ((race : Race) → two.race ≡ Some race → (one.race ≡ Some race)
    ⊎ EarlyBy (ticked step.node count w) one step.node side cell word when race)
    → new.left ≡ two.left → new.race ≡ two.race → Adds w old new step
posted_adds w old one two new step count cell word side when turn n is writes left race left' found
    left'' race' = record {
      left = λ at take e. inl (ap (λ l. get_or l at None)
          (sym left ∙ sym left' ∙ sym left'') ∙ e);
      race = λ it e. by it (found it (sym race' ∙ e));
    }
  where
    clock : (ticked step.node count w).clocks.nodes step.node ≡ clock_after step w.clocks
    clock =
        here step.node (with_count step.node count (w.clocks.nodes step.node)) w.clocks.nodes
        ∙ ap (λ k. with_count step.node k (w.clocks.nodes step.node)) n
        ∙ own_clock step.node (count_of step) w
        ∙ ap (λ d. with_count step.node (count_of step) (joined (w.clocks.nodes step.node)
        (cause_by step.node d w.clocks))) (sym is)

    by : (it : Race)
        → (one.race ≡ Some it)
        ⊎ EarlyBy (ticked step.node count w) one step.node side cell word when it
        → (old.race ≡ Some it) ⊎ ((IsTake step it.take × IsPending w.words it)
        ⊎ PostedBy w old step it)
    by it (inl was) = inl (sym race ∙ was)
    by it (inr e) = inr (inr (record {
      cell = cell;
      left = ap (λ l. get_or l cell None) (sym left) ∙ e.left;
      posted = record {
        deed = is ∙ ap₂ did.Posted (sym e.side) (sym e.word);
        writer = sym e.writer;
        writes = ap (cell_of step.node) e.side ∙ writes;
        reader = e.reader;
        next = ap (neighbour_of step.node) e.side ∙ e.next;
        early = subst (λ (c : Clock). c e.reader < it.take.number + 1) clock e.early;
        shown = when;
        when = e.post;
        turn = turn;
      };
    }))

pub post_none : (w : Watch) (step : Step) (count word : ℕ) (side : Side)
    → count ≡ count_of step → step.deed ≡ did.Posted side word → cell_of step.node side ≡ None
    → ticked step.node count w ≡ watch_step w step
unfolding at_deed posted_at with_node
post_none w step count word side n e none =
    ap (λ k. ticked step.node k w) n
    ∙ ap₂ (λ c r. with_node step.node c r w) (own_clock step.node (count_of step) w)
    (sym (or_false w.race))
    ∙ ap (λ o. posted_at w step.node side word
    (with_count step.node (count_of step) (joined (w.clocks.nodes step.node) no_clock))
    (with_count step.node (count_of step) (joined (w.clocks.nodes step.node) no_clock)) o)
    (sym none)
    ∙ ap (at_deed w step) (sym e)

-- a check, by its cell
checked_at : Watch → ℕ → ℕ → Option ℕ → Bool → Watch
checked_at w name count cell race = record w {
  clocks = record w.clocks {
    nodes = with_clock name (with_count name count
        (joined (w.clocks.nodes name) (kept_for no_clock w.clocks.takes cell))) w.clocks.nodes;
  };
  race = race;
}

-- a clock that is joined and then ticked
joined_is : (w : Watch) (name count : ℕ) (clock : Clock)
    → with_clock name (with_count name count (with_clock name
    (joined (w.clocks.nodes name) clock) w.clocks.nodes name))
    (with_clock name (joined (w.clocks.nodes name) clock) w.clocks.nodes)
    ≡ with_clock name (with_count name count (joined (w.clocks.nodes name) clock)) w.clocks.nodes
joined_is w name count clock =
    again name (joined (w.clocks.nodes name) clock) (with_count name count (with_clock name
    (joined (w.clocks.nodes name) clock) w.clocks.nodes name)) w.clocks.nodes
    ∙ ap (λ c. with_clock name (with_count name count c) w.clocks.nodes)
    (here name (joined (w.clocks.nodes name) clock) w.clocks.nodes)

with_nodes : (ℕ → Clock) → Bool → Watch → Watch
with_nodes nodes race w = record w { clocks = record w.clocks { nodes = nodes }; race = race }

pub check_is : (w : Watch) (step : Step) (count cell : ℕ) (side : Side) → count ≡ count_of step
    → step.deed ≡ did.SawRead side → cell_of step.node side ≡ Some cell
    → ticked step.node count (take_joined step.node cell w) ≡ watch_step w step
unfolding at_deed checked_at with_nodes
check_is w step count cell side n e there =
    ap (λ k. ticked step.node k (take_joined step.node cell w)) n
    ∙ ap₂ (λ nodes r. with_nodes nodes r w)
    (joined_is w step.node (count_of step) (w.clocks.takes cell)) (sym (or_false w.race))
    ∙ ap (λ o. checked_at w step.node (count_of step) o (w.race || false)) (sym there)
    ∙ ap (at_deed w step) (sym e)

pub check_none : (w : Watch) (step : Step) (count : ℕ) (side : Side) → count ≡ count_of step
    → step.deed ≡ did.SawRead side → cell_of step.node side ≡ None
    → ticked step.node count w ≡ watch_step w step
unfolding at_deed checked_at with_node
check_none w step count side n e none =
    ap (λ k. ticked step.node k w) n
    ∙ ap₂ (λ c r. with_node step.node c r w) (own_clock step.node (count_of step) w)
    (sym (or_false w.race))
    ∙ ap (λ o. checked_at w step.node (count_of step) o (w.race || false)) (sym none)
    ∙ ap (at_deed w step) (sym e)

-- a take, by its cell, after what it leaves out
took_at : Watch → ℕ → (ℕ → Clock) → Clock → Option ℕ → Bool → Watch
took_at v name nodes clock cell race = record v {
  clocks = record v.clocks { nodes = nodes; takes = put_for cell clock v.clocks.takes };
  words = put_for cell None v.words;
  race = race;
}

took_by : Watch → Watch → ℕ → ℕ → Option ℕ → Bool → Watch
took_by w v name count cell race =
    took_at v name (with_clock name (with_count name count
    (joined (w.clocks.nodes name) (kept_for no_clock w.clocks.posts cell))) w.clocks.nodes)
    (with_count name count
    (joined (w.clocks.nodes name) (kept_for no_clock w.clocks.posts cell))) cell race

or_last : (a b : Bool) → (a || b) ≡ (a || (b || false))
or_last a b = ap (λ c. a || c) (sym (or_false b))

pub take_is : (w : Watch) (step : Step) (count cell word : ℕ) (side : Side) (sides : Sides)
    → count ≡ count_of step → step.deed ≡ did.Took side sides word
    → read_cell step.node side ≡ Some cell
    → word_put cell None (take_kept step.node cell (ticked step.node count
    (post_joined step.node cell (all_left step.node sides side (count_of step) w))))
    ≡ watch_step w step
unfolding at_deed took_at took_by
take_is w step count cell word side sides n e there =
    ap (λ k. word_put cell None (take_kept step.node cell (ticked step.node k
    (post_joined step.node cell v)))) n
    ∙ ap (λ c. took_at v step.node (with_clock step.node ticks joins) c (Some cell) v.race)
    (here step.node ticks joins)
    ∙ ap₂ (λ nodes c. took_at v step.node nodes c (Some cell) v.race)
    (joined_is w step.node (count_of step) (w.clocks.posts cell))
    (ap (with_count step.node (count_of step))
    (here step.node (joined (w.clocks.nodes step.node) (w.clocks.posts cell)) w.clocks.nodes))
    ∙ ap₂ (λ o r. took_by w v step.node (count_of step) o r) (sym there)
    (or_last w.race (list_any (λ at. is_left sides side at
    && is_some (kept_for None w.words (read_cell step.node at))) SIDES))
    ∙ ap (at_deed w step) (sym e)
  where
    v : Watch
    v = all_left step.node sides side (count_of step) w

    joins : ℕ → Clock
    joins = with_clock step.node (joined (w.clocks.nodes step.node) (w.clocks.posts cell))
        w.clocks.nodes

    ticks : Clock
    ticks = with_count step.node (count_of step) (joins step.node)

-- A side that a take leaves out.
left_by : Watch → ℕ → Bool → Option ℕ → Watch
left_by w count is cell = record w {
  left_at = λ at. if is && option_map_or (λ a. a == at) cell false then count else w.left_at at;
  race = w.race || (is && is_some (kept_for None w.words cell));
}

with_left : (ℕ → ℕ) → Bool → Watch → Watch
with_left left_at race w = record w { left_at = left_at; race = race }

same_left : (w : Watch) (cell count : ℕ) → put_for (Some cell) count w.left_at
    ≡ (λ at. if cell == at then count else w.left_at at)
same_left w cell count =
    λ i. λ at. (ap (λ b. if b then count else w.left_at at) (eq_sym at cell)) i

pub left_word : (w : Watch) (name count cell : ℕ) (sides : Sides) (taken side : Side)
    → is_left sides taken side ≡ true → read_cell name side ≡ Some cell
    → is_some (w.words cell) ≡ true
    → race_put true (left_put cell count w) ≡ side_left name sides taken count side w
unfolding left_by with_left
left_word w name count cell sides taken side is reads full =
    ap₂ (λ l r. with_left l r w) (same_left w cell count) (ap (λ b. w.race || b) (sym full))
    ∙ ap₂ (λ b o. left_by w count b o) (sym is) (sym reads)

pub left_empty : (w : Watch) (name count cell : ℕ) (sides : Sides) (taken side : Side)
    → is_left sides taken side ≡ true → read_cell name side ≡ Some cell
    → is_some (w.words cell) ≡ false
    → left_put cell count w ≡ side_left name sides taken count side w
unfolding left_by with_left
left_empty w name count cell sides taken side is reads full =
    ap₂ (λ l r. with_left l r w) (same_left w cell count)
    (sym (or_false w.race) ∙ ap (λ b. w.race || b) (sym full))
    ∙ ap₂ (λ b o. left_by w count b o) (sym is) (sym reads)

-- four sides one after another
four : (r d l u : Bool) (n old : ℕ)
    → (if u then n else (if l then n else (if d then n else (if r then n else old))))
    ≡ (if r || (d || (l || (u || false))) then n else old)
four r d l true n old = ap (λ b. if b then n else old) (sym (any r d l))
  where
    any : (r d l : Bool) → (r || (d || (l || true))) ≡ true
    any true d l = refl
    any false true l = refl
    any false false true = refl
    any false false false = refl
four r d true false n old = ap (λ b. if b then n else old) (sym (any r d))
  where
    any : (r d : Bool) → (r || (d || true)) ≡ true
    any true d = refl
    any false true = refl
    any false false = refl
four true true false false n old = refl
four true false false false n old = refl
four false true false false n old = refl
four false false false false n old = refl

four_races : (race r d l u : Bool)
    → ((((race || r) || d) || l) || u) ≡ (race || (r || (d || (l || (u || false)))))
four_races true r d l u = refl
four_races false true d l u = refl
four_races false false true l u = refl
four_races false false false true u = refl
four_races false false false false u = sym (or_false u)

four_sides : ℕ → Sides → Side → ℕ → Watch → Watch
four_sides name sides taken count w =
    side_left name sides taken count Up (side_left name sides taken count Left
    (side_left name sides taken count Down (side_left name sides taken count Right w)))

four_is : (w : Watch) (name count : ℕ) (sides : Sides) (taken : Side)
    → four_sides name sides taken count w ≡ all_left name sides taken count w
unfolding four_sides with_left
four_is w name count sides taken =
    ap₂ (λ l r. with_left l r w)
    (λ i. λ cell. (four (leaves Right cell) (leaves Down cell) (leaves Left cell) (leaves Up cell)
    count (w.left_at cell)) i)
    (four_races w.race (word Right) (word Down) (word Left) (word Up))
  where
    leaves : Side → ℕ → Bool
    leaves side cell = is_left sides taken side && reads_cell name cell side

    word : Side → Bool
    word side = is_left sides taken side && is_some (kept_for None w.words (read_cell name side))

-- the take that is kept is that of the step
pub sides_left : (w : Watch) (one : MultiportTake) (name number : ℕ) (sides : Sides) (taken : Side)
    → one.reader ≡ name → one.number ≡ number → one.sides ≡ sides → one.taken.side ≡ taken
    → side_left one.reader one.sides one.taken.side (one.number + 1) Up
    (side_left one.reader one.sides one.taken.side (one.number + 1) Left
    (side_left one.reader one.sides one.taken.side (one.number + 1) Down
    (side_left one.reader one.sides one.taken.side (one.number + 1) Right w)))
    ≡ all_left name sides taken (number + 1) w
unfolding four_sides
sides_left w one name number sides taken e f g h =
    ap₂ (λ a b. four_sides a one.sides one.taken.side (b + 1) w) e f
    ∙ ap₂ (λ a b. four_sides name a b (number + 1) w) g h
    ∙ four_is w name (number + 1) sides taken

pub take_none : (w : Watch) (step : Step) (count word : ℕ) (side : Side) (sides : Sides)
    → count ≡ count_of step → step.deed ≡ did.Took side sides word
    → read_cell step.node side ≡ None
    → ticked step.node count (all_left step.node sides side (count_of step) w)
    ≡ watch_step w step
unfolding at_deed took_at took_by with_node
take_none w step count word side sides n e none =
    ap (λ k. ticked step.node k v) n
    ∙ ap₂ (λ c r. with_node step.node c r v) (own_clock step.node (count_of step) v)
    (or_last w.race (list_any (λ at. is_left sides side at
    && is_some (kept_for None w.words (read_cell step.node at))) SIDES))
    ∙ ap (λ o. took_by w v step.node (count_of step) o (w.race || (list_any (λ at.
    is_left sides side at && is_some (kept_for None w.words (read_cell step.node at))) SIDES
    || false))) (sym none)
    ∙ ap (at_deed w step) (sym e)
  where
    v : Watch
    v = all_left step.node sides side (count_of step) w

-- Steps that were seen, and one more.
pub counted_before : (steps : List Step) (step : Step) → AreCounted (steps ++ step ∷ [])
    → AreCounted steps
counted_before steps step all k d below =
    let long = length-append steps (step ∷ []) in
    subst (λ s. count_of s < 2 ^ 64) (get_or-append steps (step ∷ []) d k below)
    (all k d (omega arith))

pub counted_last : (steps : List Step) (step : Step) → AreCounted (steps ++ step ∷ [])
    → count_of step < 2 ^ 64
counted_last steps step all =
    let long : length (steps ++ step ∷ []) ≡ length steps + 1 = length-append steps (step ∷ []) in
    subst (λ s. count_of s < 2 ^ 64) (get_or-append_seam steps step [] step)
    (all (length steps) step (omega arith))

pub seen_next : (kept next : Kept) (steps : List Step) (step : Step)
    → ((w : Watch) → Shows kept w → Shows next (watch_step w step))
    → ((w : Watch) → Shows kept w → Adds w kept next step) → next.start ≡ kept.start
    → HasSeen kept steps → HasSeen next (steps ++ step ∷ [])
seen_next kept next steps step shows adds start seen counted =
    let so_far = seen (counted_before steps step counted) in
    let w = watch_on (first_watch kept.start) steps in
    record {
      shows = subst (λ first. Shows next (watch_on (first_watch first) (steps ++ step ∷ [])))
          (sym start) (subst (Shows next)
          (sym (watch-append (first_watch kept.start) steps (step ∷ []))) (shows w so_far.shows));
      recalls = recalls_next kept next steps step start (adds w so_far.shows) so_far.recalls;
    }
