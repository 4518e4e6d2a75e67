-- A node that waits or is stopped stays so at each side, and until a neighbour passes it a word or
-- takes its own.
use Rattle.std.proofs.Common.{◌≡◌, ◌≢◌, ℕ, zero, suc, ◌%◌, ◌^◌, List, [], ◌∷◌, Bool, true, false, Option, Some, None, get_or, set, refl, sym, ap, ◌∙◌}
use Rattle.std.specs.Prelude.{if◌then◌else◌, is_some, not, ◌||◌, ◌&&◌}
use Rattle.std.proofs.lemmas.Bool.{false≢true}
use Rattle.std.specs.Option.{option_and_then}
use Rattle.std.proofs.lemmas.Option.{none-some}
use Rattle.ga_place.specs.Cell.{cell_of, read_cell}
use Rattle.ga_place.specs.Node.{IsNodeName}
use Rattle.ga_place.specs.Side.{is_among, neighbour_of, one_side}
use Rattle.ga_place.specs.declared.side.Side.{Side}
use Rattle.ga_place.specs.declared.side.Side.TheVariants.{Right, Down, Left, Up}
use Rattle.ga_place.specs.declared.side.Sides.{Sides}
use Rattle.ga_place.proofs.Cells.{one_reader, one_writer, writer_there}
use Rattle.ga_place.proofs.SideLemmas.{shared_port}
use Rattle.ga_node.specs.Need.{need_of}
use Rattle.ga_node.specs.State.{is_fetch}
use Rattle.ga_node.specs.declared.need.Need.{Need}
use Rattle.ga_node.specs.declared.need.Need.TheVariants as need
use Rattle.ga_chip.specs.declared.outcome.Outcome.TheVariants.{Held, Moved, Waits}
use Rattle.ga_chip.specs.inner.Awake.{port_by}
use Rattle.ga_chip.specs.Part.{Part, Asks, Nothing, Own, Feed, Post, Take, Check, after, after_asked, asks, asks_by, asks_if, at_cell, held_by, input_of, is_held, looked_at, picked_by, picked_of, take_from}
use Rattle.ga_chip.specs.Chip.{cells_after, found_by}
use Rattle.ga_chip.specs.Run.{break_set}
use Rattle.ga_chip.proofs.Commuting.{cell_at, set_finds}
use Rattle.ga_chip.proofs.Parts.{Fits, no_move_held, same_asks, still_after}
use Rattle.ga_chip.proofs.Tries.{still_at}
use Rattle.ga_chip.specs.declared.outcome.Outcome.{Outcome}

-- a try of a node with these cells would not move
abbrev pub Stays : Part → List (Option ℕ) → Side → Type 0
Stays part cells side = (after part side (found_by (asks part side) cells)).0 ≢ Moved

stays_asked : (part : Part) (side : Side) (cells : List (Option ℕ)) (q : Asks) → asks part side ≡ q
    → (after_asked q (found_by q cells) part).0 ≢ Moved → Stays part cells side
unfolding after
stays_asked part side cells q e still =
    λ moved. still (ap (λ a. (after_asked a (found_by a cells) part).0) (sym e) ∙ moved)

asked_stays : (part : Part) (side : Side) (cells : List (Option ℕ)) (q : Asks) → asks part side ≡ q
    → Stays part cells side → (after_asked q (found_by q cells) part).0 ≢ Moved
unfolding after
asked_stays part side cells q e still =
    λ moved. still (ap (λ a. (after_asked a (found_by a cells) part).0) e ∙ moved)

-- a node that is held stays at each side
pub held_stays : (part : Part) (cells : List (Option ℕ)) (side : Side)
    → asks part side ≡ Nothing Held → Stays part cells side
held_stays part cells side e = stays_asked part side cells (Nothing Held) e (λ moved. cc)

-- a breakpoint more holds a node, and lets none go on
more_set : (breaks : List Bool) (at other : ℕ) → get_or (set breaks at true) other false ≡ false
    → get_or breaks other false ≡ false
more_set [] at other e = e
more_set (b ∷ breaks) zero zero e = absurd (false≢true (sym e))
more_set (b ∷ breaks) zero (suc other) e = e
more_set (b ∷ breaks) (suc at) zero e = e
more_set (b ∷ breaks) (suc at) (suc other) e = more_set breaks at other e

less_free : (fetch pass more set_ : Bool) → (more ≡ false → set_ ≡ false)
    → fetch && (not pass && more) ≡ false → fetch && (not pass && set_) ≡ false
less_free true true more set_ less e = e
less_free true false more set_ less e = less e
less_free false pass more set_ less e = e

free_before : (part : Part) (at : ℕ) → is_held (break_set at part) ≡ false → is_held part ≡ false
free_before part at =
    less_free (is_fetch part.state.place) part.pass _ _
    (more_set part.breaks at (part.state.p % 2 ^ 9))

same_outcome : (q : Asks) (found : Option ℕ) (part other : Part)
    → (after_asked q found part).0 ≡ (after_asked q found other).0
same_outcome (Nothing outcome) found part other = refl
same_outcome Own found part other = refl
same_outcome (Feed fed) found part other = refl
same_outcome (Post side cell word) found part other = refl
same_outcome (Check side cell) None part other = refl
same_outcome (Check side cell) (Some word) part other = refl
same_outcome (Take side cell) None part other = refl
same_outcome (Take side cell) (Some word) part other = refl

pub set_stays : (part : Part) (cells : List (Option ℕ)) (at : ℕ) (side : Side)
    → Stays part cells side → Stays (break_set at part) cells side
unfolding asks
set_stays part cells at side still = by (is_held (break_set at part)) refl
  where
    by : (held : Bool) → is_held (break_set at part) ≡ held → Stays (break_set at part) cells side
    by true e =
        stays_asked (break_set at part) side cells (held_by (need_of part.state))
        (ap (λ h. asks_if h (break_set at part) side) e)
        (no_move_held (need_of part.state) _ (break_set at part))
    by false e =
        stays_asked (break_set at part) side cells (asks_if false part side)
        (ap (λ h. asks_if h (break_set at part) side) e)
        (λ moved. asked_stays part side cells (asks_if false part side)
        (ap (λ h. asks_if h part side) (free_before part at e)) still
        (same_outcome (asks_if false part side) _ part (break_set at part) ∙ moved))

-- if no side is picked, tries that name different sides ask for the same
asks_alike : (part : Part) (s t : Side)
    → picked_by (need_of part.state) s ≡ picked_by (need_of part.state) t
    → asks part s ≡ asks part t
unfolding asks
asks_alike part s t e = by (is_held part)
  where
    by : (held : Bool) → asks_if held part s ≡ asks_if held part t
    by true = refl
    by false = same_asks (need_of part.state) part.state.node part.stream s t e

none_picked : (n : Need) (s t : Side)
    → ((sides : Sides) → n ≡ need.Take sides → one_side sides ≡ None → ⊥)
    → picked_by n s ≡ picked_by n t
none_picked need.Own s t one = refl
none_picked (need.Take sides) s t one = by (one_side sides) refl
  where
    by : (o : Option Side) → one_side sides ≡ o
        → picked_of (one_side sides) s ≡ picked_of (one_side sides) t
    by None e = absurd (one sides refl e)
    by (Some only) e = rw e refl
none_picked (need.Post to word) s t one = refl
none_picked (need.Check to) s t one = refl
none_picked need.Input s t one = refl
none_picked (need.Stopped stop) s t one = refl

-- a node that makes no multiport read stays at all sides, if it stays at one
pub stays_alike : (part : Part) (cells : List (Option ℕ)) (n : Need) → n ≡ need_of part.state
    → ((sides : Sides) → n ≡ need.Take sides → one_side sides ≡ None → ⊥)
    → (side : Side) × Stays part cells side → (other : Side) → Stays part cells other
stays_alike part cells n e one still other =
    stays_asked part other cells (asks part still.0) (asks_alike part other still.0
    (none_picked (need_of part.state) other still.0 (λ sides f. one sides (e ∙ f))))
    (asked_stays part still.0 cells (asks part still.0) refl still.1)

-- and one that makes a multiport read, if nothing is pending at any of its sides
pub stays_taking : (part : Part) (cells : List (Option ℕ)) (sides : Sides)
    → need.Take sides ≡ need_of part.state → one_side sides ≡ None → (side : Side)
    → (is_among side sides ≡ true
    → found_by (at_cell (Take side) (read_cell part.state.node side)) cells ≡ None)
    → Stays part cells side
unfolding asks
stays_taking part cells sides e several side none = by_held (is_held part) refl
  where
    taking : (o : Option ℕ) → read_cell part.state.node side ≡ o
        → found_by (at_cell (Take side) (read_cell part.state.node side)) cells ≡ None
        → (after_asked (at_cell (Take side) o) (found_by (at_cell (Take side) o) cells) part).0
        ≢ Moved
    taking None there finds = λ moved. cc
    taking (Some cell) there finds =
        let nothing : found_by (Take side cell) cells ≡ None =
        ap (λ o. found_by (at_cell (Take side) o) cells) (sym there) ∙ finds in
        λ moved. let waits : Waits ≡ Moved =
        ap (λ o. (after_asked (Take side cell) o part).0) (sym nothing) ∙ moved in cc

    looking : (b : Bool) → is_among side sides ≡ b
        → (after_asked (take_from part.state.node (if b then Some side else None))
        (found_by (take_from part.state.node (if b then Some side else None)) cells) part).0 ≢ Moved
    looking true among = taking (read_cell part.state.node side) refl (none among)
    looking false among = λ moved. cc

    by_held : (held : Bool) → is_held part ≡ held → Stays part cells side
    by_held true held =
        stays_asked part side cells (held_by (need.Take sides))
        (ap (λ h. asks_if h part side) held ∙ ap held_by (sym e)) (λ moved. cc)
    by_held false held =
        stays_asked part side cells
        (take_from part.state.node (if is_among side sides then Some side else None))
        (ap (λ h. asks_if h part side) held ∙ ap (λ n. asks_by n part.state.node part.stream side)
        (sym e) ∙ ap (λ o. take_from part.state.node (looked_at o sides side)) several)
        (looking (is_among side sides) refl)

pub each_side : (P : Side → Type 0) → P Right → P Down → P Left → P Up → (side : Side) → P side
each_side P right down left up Right = right
each_side P right down left up Down = down
each_side P right down left up Left = left
each_side P right down left up Up = up

-- the side at which a post or a take passes its word
abbrev pub Ports : Asks → Option Side → Type 0
Ports (Post side cell word) at = at ≡ Some side
Ports (Take side cell) at = at ≡ Some side
Ports _ at = Unit {0}

ports_take : (side : Side) (cell : Option ℕ) → Ports (at_cell (Take side) cell) (Some side)
ports_take side (Some cell) = refl
ports_take side None = tt

ports_from : (name : ℕ) (at : Option Side) → Ports (take_from name at) at
ports_from name (Some side) = ports_take side (read_cell name side)
ports_from name None = tt

ports_post : (side : Side) (word : ℕ) (cell : Option ℕ)
    → Ports (at_cell (λ it. Post side it word) cell) (Some side)
ports_post side word (Some cell) = refl
ports_post side word None = tt

ports_check : (side : Side) (cell : Option ℕ) (at : Option Side)
    → Ports (at_cell (Check side) cell) at
ports_check side (Some cell) at = tt
ports_check side None at = tt

ports_input : (stream : Option (List ℕ)) (at : Option Side) → Ports (input_of stream) at
ports_input (Some (word ∷ rest)) at = tt
ports_input (Some []) at = tt
ports_input None at = tt

pub ports_by : (n : Need) (name : ℕ) (stream : Option (List ℕ)) (side : Side)
    → Ports (asks_by n name stream side) (port_by n side)
ports_by need.Own name stream side = tt
ports_by (need.Take sides) name stream side =
    ports_from name (looked_at (one_side sides) sides side)
ports_by (need.Post to word) name stream side = ports_post to word (cell_of name to)
ports_by (need.Check to) name stream side = ports_check to (cell_of name to) None
ports_by need.Input name stream side = ports_input stream None
ports_by (need.Stopped stop) name stream side = tt

-- the neighbour at a side, if the node writes the cell that the other reads there, or reads the one
-- that it writes
reads_there : (a b cell : ℕ) (s t : Side) → IsNodeName b → cell_of a s ≡ Some cell
    → read_cell b t ≡ Some cell → neighbour_of a s ≡ Some b
reads_there a b cell s t named e f =
    let w = writer_there b cell t f in
    let same = one_writer w.0 a cell t s w.2 e in
    ap (neighbour_of a) (sym same.1) ∙ ap (λ n. neighbour_of n t) (sym same.0)
    ∙ shared_port b w.0 t named w.1

writes_there : (a b cell : ℕ) (s t : Side) → read_cell a s ≡ Some cell → cell_of b t ≡ Some cell
    → neighbour_of a s ≡ Some b
writes_there a b cell s t e f =
    let w = writer_there a cell s e in
    w.1 ∙ ap Some (one_writer w.0 b cell s t w.2 f).0

-- what a post touches, no other node does but the neighbour there
post_apart : (a b c : ℕ) (s : Side) (r : Asks) (m : Need) → IsNodeName b → (a ≡ b → ⊥)
    → (neighbour_of a s ≡ Some b → ⊥) → cell_of a s ≡ Some c → Fits r m b → (y : ℕ)
    → cell_at r ≡ Some y → c ≡ y → ⊥
post_apart a b c s (Nothing o) m named ne far here fits y f same = none-some y f
post_apart a b c s Own m named ne far here fits y f same = none-some y f
post_apart a b c s (Feed fed) m named ne far here fits y f same = none-some y f
post_apart a b c s (Post t d v) m named ne far here fits y f same =
    ne (one_writer a b c s t here (fits.0 ∙ f ∙ ap Some (sym same))).0
post_apart a b c s (Check t d) m named ne far here fits y f same =
    ne (one_writer a b c s t here (fits.0 ∙ f ∙ ap Some (sym same))).0
post_apart a b c s (Take t d) m named ne far here fits y f same =
    far (reads_there a b c s t named here (fits.1 ∙ f ∙ ap Some (sym same)))

-- nor what a take does
take_apart : (a b c : ℕ) (s : Side) (r : Asks) (m : Need) → IsNodeName a → IsNodeName b
    → (a ≡ b → ⊥) → (neighbour_of a s ≡ Some b → ⊥) → read_cell a s ≡ Some c → Fits r m b → (y : ℕ)
    → cell_at r ≡ Some y → c ≡ y → ⊥
take_apart a b c s (Nothing o) m na nb ne far here fits y f same = none-some y f
take_apart a b c s Own m na nb ne far here fits y f same = none-some y f
take_apart a b c s (Feed fed) m na nb ne far here fits y f same = none-some y f
take_apart a b c s (Post t d v) m na nb ne far here fits y f same =
    far (writes_there a b c s t here (fits.0 ∙ f ∙ ap Some (sym same)))
take_apart a b c s (Check t d) m na nb ne far here fits y f same =
    far (writes_there a b c s t here (fits.0 ∙ f ∙ ap Some (sym same)))
take_apart a b c s (Take t d) m na nb ne far here fits y f same =
    ne (one_reader a b c s t na nb here (fits.1 ∙ f ∙ ap Some (sym same))).0

-- so a try changes what another node finds only if that is the neighbour at the port
pub finds_same : (a b : ℕ) (q r : Asks) (n m : Need) (at : Option Side) (cells : List (Option ℕ))
    → IsNodeName a → IsNodeName b → (a ≡ b → ⊥) → (option_and_then (neighbour_of a) at ≡ Some b → ⊥)
    → Fits q n a → Fits r m b → Ports q at → found_by r (cells_after q cells) ≡ found_by r cells
finds_same a b (Nothing o) r n m at cells na nb ne far fits fits' port = refl
finds_same a b Own r n m at cells na nb ne far fits fits' port = refl
finds_same a b (Feed fed) r n m at cells na nb ne far fits fits' port = refl
finds_same a b (Check s c) r n m at cells na nb ne far fits fits' port = refl
finds_same a b (Post s c w) r n m at cells na nb ne far fits fits' port =
    set_finds c (Some w) r cells (post_apart a b c s r m nb ne
    (λ e. far (ap (option_and_then (neighbour_of a)) port ∙ e)) fits.0 fits')
finds_same a b (Take s c) r n m at cells na nb ne far fits fits' port =
    set_finds c None r cells (take_apart a b c s r m na nb ne
    (λ e. far (ap (option_and_then (neighbour_of a)) port ∙ e)) fits.1 fits')

-- if a try of the new part didn't move, and no try of the new part at any side would, none of the
-- old would
pub still_all : (part next : Part) (cells left : List (Option ℕ)) (side : Side) (outcome : Outcome)
    → ◌≡◌ {A = Outcome × Part} (outcome, next) (after part side (found_by (asks part side) cells))
    → left ≡ cells_after (asks part side) cells → outcome ≢ Moved → (next ≡ part) × (left ≡ cells)
still_all part next cells left side outcome done put still =
    let stays : Stays part cells side = λ moved. still (ap (λ r. r.0) done ∙ moved) in (
      ap (λ r. r.1) done ∙ still_after part side (found_by (asks part side) cells) stays,
      put ∙ still_at part side cells stays,
    )

-- one side and none are two things
pub one_not_none : (n : Need) (sides others : Sides) (one : Option Side) → n ≡ need.Take sides
    → one ≡ one_side sides → is_some one ≡ true → n ≡ need.Take others → one_side others ≡ None → ⊥
one_not_none n sides others one is e some is_ none =
    let same : sides ≡ others = cc in
    false≢true (sym (ap is_some (e ∙ ap one_side same ∙ none)) ∙ some)

pub none_of_four : (a b c d : Bool) → not (((a || b) || c) || d) ≡ true
    → (a ≡ false) × (b ≡ false) × (c ≡ false) × (d ≡ false)
none_of_four true b c d e = absurd (false≢true e)
none_of_four false true c d e = absurd (false≢true e)
none_of_four false false true d e = absurd (false≢true e)
none_of_four false false false true e = absurd (false≢true e)
none_of_four false false false false e = (refl, refl, refl, refl)

pub none_there : {A : Type 0} (o : Option A) → is_some o ≡ false → o ≡ None
none_there None e = refl
none_there (Some x) e = absurd (false≢true (sym e))
