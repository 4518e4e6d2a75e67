-- Prefixes of runs, and how many words their nodes post and take.
use Rattle.std.proofs.Common.{◌≡◌, ℕ, ◌+◌, ◌≤◌, List, [], ◌∷◌, ◌++◌, ◌⊎◌, inl, inr, length, flat_map, Option, Some, None, refl, sym, ap, ◌∙◌, append-nil, append_assoc, length-append, zero-le, arith}
use Rattle.std.proofs.lemmas.Bool.{cases_eq, eq-eqb, ne_eqb}
use Rattle.std.proofs.lemmas.List.{nil_from_length}
use Rattle.std.proofs.lemmas.List.Concat.{flat_map-append}
use Rattle.std.specs.Option.{option_to_list}
use Rattle.ga_place.specs.Node.{IsNodeName}
use Rattle.ga_place.specs.Cell.{cell_of, read_cell}
use Rattle.ga_place.specs.declared.side.Side.{Side}
use Rattle.ga_node.specs.Need.{need_of}
use Rattle.ga_chip.specs.declared.outcome.Outcome.{Outcome}
use Rattle.ga_chip.specs.declared.outcome.Outcome.TheVariants.{Moved, Waits, Held, Stopped}
use Rattle.ga_chip.specs.Part.{Post, Take, picked_by}
use Rattle.ga_chip.specs.Chip.{Chip, pending}
use Rattle.ga_chip.specs.Run.{Event, Move, if_moved, move_in, moves, moves_of, posted_by, ran, taken_by, taken_words, written_words, words_fed, is_open, piece_of, pieces}
use Rattle.ga_chip.specs.Laws.{AgreesWith, IsPrefix}
use Rattle.ga_chip.specs.Legal.{IsLegal}
use Rattle.ga_chip.proofs.Lists.{agree_cut}
use Rattle.ga_chip.proofs.Events.{Does, DoesNothing, does, moves_here}
use Rattle.ga_chip.proofs.Runs.{flow_ran, moves-append, moves_of-append, posts, posts_ran, takes, takes_ran}
use Rattle.ga_chip.proofs.Moments.{Makes, makes_event}
use Rattle.ga_race.specs.Clocks.{steps_in}

-- Lists that begin others.
pub prefix_long : {A : Type 0} (xs ys : List A) → IsPrefix xs ys → length xs ≤ length ys
prefix_long xs ys (rest, e) =
    let long : length ys ≡ length xs + length rest =
    ap (λ l. length l) e ∙ length-append xs rest in omega arith

pub prefix_map : {A B : Type 0} (f : A → List B) (xs ys : List A) → IsPrefix xs ys
    → IsPrefix (flat_map f xs) (flat_map f ys)
prefix_map f xs ys (rest, e) = (flat_map f rest, ap (flat_map f) e ∙ flat_map-append f xs rest)

pub prefix_both : {A : Type 0} (xs ys zs : List A) → IsPrefix xs ys → IsPrefix ys zs
    → IsPrefix xs zs
prefix_both xs ys zs (rest, e) (more, f) =
    (rest ++ more, f ∙ ap (λ l. l ++ more) e ∙ append_assoc xs rest more)

pub prefix_same : {A : Type 0} (xs ys : List A) → xs ≡ ys → IsPrefix xs ys
prefix_same xs ys e = ([], sym e ∙ sym (append-nil xs))

pub prefix_self : {A : Type 0} (xs : List A) → IsPrefix xs xs
prefix_self xs = ([], sym (append-nil xs))

-- two prefixes of one list agree
pub prefixes_agree : {A : Type 0} (xs ys zs : List A) → IsPrefix xs zs → IsPrefix ys zs
    → AgreesWith xs ys
prefixes_agree xs ys zs (rest, e) (more, f) = agree_cut xs ys rest more (sym e ∙ f)

nothing_more : (m n k : ℕ) → m ≡ n + k → m ≤ n → k ≡ 0
nothing_more m n k e h = omega arith

-- of lists that agree the shorter is a prefix
pub shorter_first : {A : Type 0} (xs ys : List A) → AgreesWith xs ys → length xs ≤ length ys
    → IsPrefix xs ys
shorter_first xs ys (inl p) h = p
shorter_first xs ys (inr (rest, e)) h =
    let none : rest ≡ [] =
    nil_from_length rest (nothing_more (length xs) (length ys) (length rest)
    (ap (λ l. length l) e ∙ length-append ys rest) h) in
    let same : xs ≡ ys = e ∙ ap (λ l. ys ++ l) none ∙ append-nil ys in
    ([], sym same ∙ sym (append-nil xs))

-- An event is one move or none.
pub record One (chip : Chip) (event : Event) : Type 0 where
  pub move : Move
  pub made : move_in chip event ≡ move ∷ []
  pub makes : Makes chip move.node move

pub one_or_none : (chip : Chip) (event : Event) → (move_in chip event ≡ []) ⊎ One chip event
one_or_none chip event = by (does chip event)
  where
    its_move : Does chip event → Move
    its_move d =
        record {
          node = d.name;
          asked = d.asked;
          found = d.found;
          picked = picked_by
              (need_of d.part.state) d.side;
        }

    by_outcome : (d : Does chip event) (o : Outcome) → d.outcome ≡ o → (move_in chip event ≡ [])
        ⊎ One chip event
    by_outcome d Moved f =
        let made : move_in chip event ≡ its_move d ∷ [] =
        d.makes ∙ ap (λ o. if_moved o (its_move d)) f in
        inr (record {
          move = its_move d;
          made = made;
          makes = makes_event chip event d.name
              (its_move d) (moves_here chip event d ∙ made);
        })
    by_outcome d Waits f = inl (d.makes ∙ ap (λ o. if_moved o (its_move d)) f)
    by_outcome d Held f = inl (d.makes ∙ ap (λ o. if_moved o (its_move d)) f)
    by_outcome d Stopped f = inl (d.makes ∙ ap (λ o. if_moved o (its_move d)) f)

    by : DoesNothing chip event ⊎ Does chip event → (move_in chip event ≡ []) ⊎ One chip event
    by (inl nothing) = inl nothing.1
    by (inr d) = by_outcome d d.outcome refl

-- the moves of one move's node, and of another
pub its_own : (name : ℕ) (m : Move) → name ≡ m.node → moves_of name (m ∷ []) ≡ m ∷ []
its_own name m e = rw (eq-eqb m.node name (sym e)) refl

pub not_its : (name : ℕ) (m : Move) → (name ≡ m.node → ⊥) → moves_of name (m ∷ []) ≡ []
not_its name m apart = rw (ne_eqb m.node name (λ e. apart (sym e))) refl

-- the one move of an event, by a move that a node makes in it
pub only_move : (chip : Chip) (event : Event) (name : ℕ) (m : Move)
    → moves_of name (move_in chip event) ≡ m ∷ [] → move_in chip event ≡ m ∷ []
only_move chip event name m e = by (one_or_none chip event)
  where
    by_name : (o : One chip event) → (name ≡ o.move.node) ⊎ (name ≡ o.move.node → ⊥)
        → move_in chip event ≡ m ∷ []
    by_name o (inl same) =
        o.made ∙ sym (its_own name o.move same) ∙ ap (moves_of name) (sym o.made) ∙ e
    by_name o (inr apart) =
        let none : [] ≡ m ∷ [] =
        sym (not_its name o.move apart) ∙ ap (moves_of name) (sym o.made) ∙ e in cc

    by : (move_in chip event ≡ []) ⊎ One chip event → move_in chip event ≡ m ∷ []
    by (inl none) = let none' : [] ≡ m ∷ [] = ap (moves_of name) (sym none) ∙ e in cc
    by (inr o) = by_name o (cases_eq name o.move.node)

-- the moves of a run with one event more
pub moves_next : (chip : Chip) (done : List Event) (event : Event) → moves chip (done ++ event ∷ [])
    ≡ moves chip done ++ move_in (ran chip done) event
moves_next chip done event =
    moves-append chip done (event ∷ []) ∙ ap (λ l. moves chip done ++ l)
    (append-nil (move_in (ran chip done) event))

pub next_of : (chip : Chip) (done : List Event) (event : Event) (name : ℕ)
    → moves_of name (moves chip (done ++ event ∷ [])) ≡ moves_of name (moves chip done)
    ++ moves_of name (move_in (ran chip done) event)
next_of chip done event name =
    ap (moves_of name) (moves_next chip done event)
    ∙ moves_of-append name (moves chip done) (move_in (ran chip done) event)

-- a prefix of a run
pub prefix_of : (chip : Chip) (done more : List Event) (name : ℕ)
    → IsPrefix (moves_of name (moves chip done)) (moves_of name (moves chip (done ++ more)))
prefix_of chip done more name = (
  moves_of name (moves (ran chip done) more),
  ap (moves_of name) (moves-append chip done more)
      ∙ moves_of-append name (moves chip done) (moves (ran chip done) more),
)

pub steps_earlier : (chip : Chip) (done more : List Event) (name : ℕ) → steps_in chip done name
    ≤ steps_in chip (done ++ more) name
steps_earlier chip done more name = prefix_long _ _ (prefix_of chip done more name)

-- How many words are written into a cell, taken from it, and pending there.
abbrev pub wrote : Chip → List Event → ℕ → ℕ
wrote chip events cell = length (written_words chip events cell)

abbrev pub took : Chip → List Event → ℕ → ℕ
took chip events cell = length (taken_words chip events cell)

abbrev pub full : Option ℕ → ℕ
full word = length (option_to_list word)

pub one_at_most : (o : Option ℕ) → full o ≤ 1
one_at_most None = zero-le
one_at_most (Some word) = omega arith

pub flow_counts : (chip : Chip) (events : List Event) (cell : ℕ) → IsLegal chip
    → full (pending chip cell) + wrote chip events cell
    ≡ took chip events cell + full (pending (ran chip events) cell)
flow_counts chip events cell legal =
    sym (length-append (option_to_list (pending chip cell)) (written_words chip events cell))
    ∙ ap (λ l. length l) (flow_ran chip events cell legal)
    ∙ length-append (taken_words chip events cell) (option_to_list (pending (ran chip events) cell))

pub wrote_append : (chip : Chip) (done more : List Event) (cell : ℕ)
    → wrote chip (done ++ more) cell ≡ wrote chip done cell + wrote (ran chip done) more cell
wrote_append chip done more cell =
    ap (λ l. length l) (ap (posts cell) (moves-append chip done more)
    ∙ flat_map-append (λ move. posted_by cell move.asked) (moves chip done)
    (moves (ran chip done) more)) ∙ length-append (written_words chip done cell)
    (written_words (ran chip done) more cell)

pub took_append : (chip : Chip) (done more : List Event) (cell : ℕ) → took chip (done ++ more) cell
    ≡ took chip done cell + took (ran chip done) more cell
took_append chip done more cell =
    ap (λ l. length l) (ap (takes cell) (moves-append chip done more)
    ∙ flat_map-append (λ move. taken_by cell move.asked move.found) (moves chip done)
    (moves (ran chip done) more)) ∙ length-append (taken_words chip done cell)
    (taken_words (ran chip done) more cell)

-- by one event
pub posts_one : (chip : Chip) (event : Event) (m : Move) (cell : ℕ) → move_in chip event ≡ m ∷ []
    → written_words chip (event ∷ []) cell ≡ posted_by cell m.asked
posts_one chip event m cell e =
    ap (posts cell) (append-nil (move_in chip event) ∙ e) ∙ append-nil (posted_by cell m.asked)

pub takes_one : (chip : Chip) (event : Event) (m : Move) (cell : ℕ) → move_in chip event ≡ m ∷ []
    → taken_words chip (event ∷ []) cell ≡ taken_by cell m.asked m.found
takes_one chip event m cell e =
    ap (takes cell) (append-nil (move_in chip event) ∙ e)
    ∙ append-nil (taken_by cell m.asked m.found)

pub wrote_one : (chip : Chip) (event : Event) (m : Move) (cell : ℕ) → move_in chip event ≡ m ∷ []
    → wrote chip (event ∷ []) cell ≡ length (posted_by cell m.asked)
wrote_one chip event m cell e = ap (λ l. length l) (posts_one chip event m cell e)

pub took_one : (chip : Chip) (event : Event) (m : Move) (cell : ℕ) → move_in chip event ≡ m ∷ []
    → took chip (event ∷ []) cell ≡ length (taken_by cell m.asked m.found)
took_one chip event m cell e = ap (λ l. length l) (takes_one chip event m cell e)

-- if the writer's moves are a prefix, no more words are written; if the reader's are, no more are
-- taken
pub wrote_less : (chip : Chip) (one two : List Event) (name cell : ℕ) (side : Side) → IsLegal chip
    → cell_of name side ≡ Some cell → IsPrefix (moves_of name (moves chip one))
    (moves_of name (moves chip two)) → wrote chip one cell ≤ wrote chip two cell
wrote_less chip one two name cell side legal here front =
    let h : length (posts cell (moves_of name (moves chip one)))
    ≤ length (posts cell (moves_of name (moves chip two))) = prefix_long _ _
    (prefix_map (λ move. posted_by cell move.asked) (moves_of name (moves chip one))
    (moves_of name (moves chip two)) front) in
    let e : wrote chip one cell ≡ length (posts cell (moves_of name (moves chip one))) =
    ap (λ l. length l) (posts_ran chip one name cell side legal here) in
    let f : wrote chip two cell ≡ length (posts cell (moves_of name (moves chip two))) =
    ap (λ l. length l) (posts_ran chip two name cell side legal here) in
    omega arith

pub took_less : (chip : Chip) (one two : List Event) (name cell : ℕ) (side : Side) → IsLegal chip
    → IsNodeName name → read_cell name side ≡ Some cell
    → IsPrefix (moves_of name (moves chip one)) (moves_of name (moves chip two))
    → took chip one cell ≤ took chip two cell
took_less chip one two name cell side legal named here front =
    let h : length (takes cell (moves_of name (moves chip one)))
    ≤ length (takes cell (moves_of name (moves chip two))) = prefix_long _ _
    (prefix_map (λ move. taken_by cell move.asked move.found) (moves_of name (moves chip one))
    (moves_of name (moves chip two)) front) in
    let e : took chip one cell ≡ length (takes cell (moves_of name (moves chip one))) =
    ap (λ l. length l) (takes_ran chip one name cell side legal named here) in
    let f : took chip two cell ≡ length (takes cell (moves_of name (moves chip two))) =
    ap (λ l. length l) (takes_ran chip two name cell side legal named here) in
    omega arith

-- the words of a post, and of a take
pub posted_one : (side : Side) (cell word : ℕ) → length (posted_by cell (Post side cell word)) ≡ 1
posted_one side cell word = rw (eq-eqb cell cell refl) refl

pub taken_one : (side : Side) (cell word : ℕ) → length (taken_by cell (Take side cell) (Some word))
    ≡ 1
taken_one side cell word = rw (eq-eqb cell cell refl) refl

-- a prefix of a run is fed a prefix of its words
pub fed_prefix : (chip : Chip) (done more : List Event) (name : ℕ)
    → IsPrefix (words_fed chip done name) (words_fed chip (done ++ more) name)
fed_prefix chip done more name = (
  pieces (is_open chip name) name more,
  flat_map-append (piece_of (is_open chip name) name) done
      more,
)
