-- The moment of a run at which a node makes a move.
use Rattle.std.proofs.Common.{◌≡◌, ℕ, List, [], ◌∷◌, ◌++◌, ◌⊎◌, inl, inr, Some, refl, sym, ap, ap₂, ◌∙◌, subst}
use Rattle.std.proofs.lemmas.Bool.{cases_eq}
use Rattle.ga_place.specs.declared.side.Side.{Side}
use Rattle.ga_node.specs.Need.{need_of}
use Rattle.ga_chip.specs.declared.outcome.Outcome.{Outcome}
use Rattle.ga_chip.specs.declared.outcome.Outcome.TheVariants.{Moved, Waits, Held, Stopped}
use Rattle.ga_chip.specs.Part.{Part, asks_by, picked_by}
use Rattle.ga_chip.specs.Chip.{Chip, part_of, found_by}
use Rattle.ga_chip.specs.Run.{Event, happened, ran, Move, if_moved, move_in, moves, moves_of}
use Rattle.ga_chip.proofs.Parts.{Fits, Passes}
use Rattle.ga_chip.proofs.Events.{Does, DoesNothing, does, moves_here, moves_else}
use Rattle.ga_chip.proofs.Runs.{moves_of-append}

-- what is known of a move that a node makes at a chip
pub record Makes (chip : Chip) (name : ℕ) (move : Move) : Type 0 where
  pub part : Part
  pub side : Side
  pub there : part_of chip name ≡ Some part
  pub node : move.node ≡ name
  pub asked : move.asked ≡ asks_by (need_of part.state) part.state.node part.stream side
  pub looks : move.found ≡ found_by move.asked chip.cells
  pub picks : move.picked ≡ picked_by (need_of part.state) side
  pub passed : Passes move.asked move.found
  pub fits : Fits move.asked (need_of part.state) part.state.node

-- the move of an event that is moved
abbrev its_move : (chip : Chip) (event : Event) → Does chip event → Move
its_move chip event d = record {
  node = d.name;
  asked = d.asked;
  found = d.found;
  picked = picked_by (need_of d.part.state) d.side;
}

makes_does : (chip : Chip) (event : Event) (d : Does chip event) (m : Move) → d.outcome ≡ Moved
    → m ≡ its_move chip event d → Makes chip d.name m
makes_does chip event d m moved is =
    subst (λ x. Makes chip d.name x) (sym is) (record {
      part = d.part;
      side = d.side;
      there = d.there;
      node = refl;
      asked = d.settled moved;
      looks = d.looks;
      picks = refl;
      passed = d.passed moved;
      fits = d.fits;
    })

-- the move of a node in an event
pub makes_event : (chip : Chip) (event : Event) (name : ℕ) (m : Move)
    → moves_of name (move_in chip event) ≡ m ∷ [] → Makes chip name m
makes_event chip event name m e = by (does chip event)
  where
    by_outcome : (d : Does chip event) (o : Outcome) → d.outcome ≡ o → move_in chip event ≡ m ∷ []
        → Makes chip d.name m
    by_outcome d Moved f g =
        let it : if_moved Moved (its_move chip event d) ≡ m ∷ [] =
        ap (λ o. if_moved o (its_move chip event d)) (sym f) ∙ sym d.makes ∙ g in
        makes_does chip event d m f (cc)
    by_outcome d Waits f g =
        let none : [] ≡ m ∷ [] =
        ap (λ o. if_moved o (its_move chip event d)) (sym f) ∙ sym d.makes ∙ g in cc
    by_outcome d Held f g =
        let none : [] ≡ m ∷ [] =
        ap (λ o. if_moved o (its_move chip event d)) (sym f) ∙ sym d.makes ∙ g in cc
    by_outcome d Stopped f g =
        let none : [] ≡ m ∷ [] =
        ap (λ o. if_moved o (its_move chip event d)) (sym f) ∙ sym d.makes ∙ g in cc

    by_name : (d : Does chip event) → (d.name ≡ name) ⊎ (d.name ≡ name → ⊥) → Makes chip name m
    by_name d (inl same) =
        subst (λ n. Makes chip n m) same (by_outcome d d.outcome refl
        (sym (moves_here chip event d) ∙ ap (λ n. moves_of n (move_in chip event)) same ∙ e))
    by_name d (inr apart) =
        let none : [] ≡ m ∷ [] = sym (moves_else chip event d name apart) ∙ e in cc

    by : DoesNothing chip event ⊎ Does chip event → Makes chip name m
    by (inl nothing) = let none : [] ≡ m ∷ [] = sym (ap (moves_of name) nothing.1) ∙ e in cc
    by (inr d) = by_name d (cases_eq d.name name)

-- an event is at most one move
pub one_at_most : (chip : Chip) (event : Event) (name : ℕ)
    → (moves_of name (move_in chip event) ≡ [])
    ⊎ ((m : Move) × (moves_of name (move_in chip event) ≡ m ∷ []))
one_at_most chip event name = by (does chip event)
  where
    by_outcome : (d : Does chip event) (o : Outcome) → d.outcome ≡ o
        → (move_in chip event ≡ []) ⊎ ((m : Move) × (move_in chip event ≡ m ∷ []))
    by_outcome d Moved f =
        inr (its_move chip event d, d.makes ∙ ap (λ o. if_moved o (its_move chip event d)) f)
    by_outcome d Waits f = inl (d.makes ∙ ap (λ o. if_moved o (its_move chip event d)) f)
    by_outcome d Held f = inl (d.makes ∙ ap (λ o. if_moved o (its_move chip event d)) f)
    by_outcome d Stopped f = inl (d.makes ∙ ap (λ o. if_moved o (its_move chip event d)) f)

    here : (d : Does chip event) → d.name ≡ name
        → moves_of name (move_in chip event) ≡ move_in chip event
    here d same = ap (λ n. moves_of n (move_in chip event)) (sym same) ∙ moves_here chip event d

    moved : (d : Does chip event) → d.name ≡ name → (move_in chip event ≡ [])
        ⊎ ((m : Move) × (move_in chip event ≡ m ∷ [])) → (moves_of name (move_in chip event) ≡ [])
        ⊎ ((m : Move) × (moves_of name (move_in chip event) ≡ m ∷ []))
    moved d same (inl none) = inl (here d same ∙ none)
    moved d same (inr (m, one)) = inr (m, here d same ∙ one)

    by_name : (d : Does chip event) → (d.name ≡ name) ⊎ (d.name ≡ name → ⊥)
        → (moves_of name (move_in chip event) ≡ [])
        ⊎ ((m : Move) × (moves_of name (move_in chip event) ≡ m ∷ []))
    by_name d (inl same) = moved d same (by_outcome d d.outcome refl)
    by_name d (inr apart) = inl (moves_else chip event d name apart)

    by : DoesNothing chip event ⊎ Does chip event → (moves_of name (move_in chip event) ≡ [])
        ⊎ ((m : Move) × (moves_of name (move_in chip event) ≡ m ∷ []))
    by (inl nothing) = inl (ap (moves_of name) nothing.1)
    by (inr d) = by_name d (cases_eq d.name name)

-- The moment at which a node that has made some moves makes the next one.
pub record Moment (chip : Chip) (events : List Event) (name : ℕ) (made : List Move)
    (m : Move) : Type 0 where
  pub before : List Event
  pub event : Event
  pub later : List Event
  pub cut : events ≡ before ++ event ∷ later
  pub so_far : moves_of name (moves chip before) ≡ made
  pub now : moves_of name (move_in (ran chip before) event) ≡ m ∷ []

-- a moment of the rest of a run
later_moment : (chip : Chip) (first : Event) (events : List Event) (name : ℕ)
    (made front : List Move) (m : Move) → moves_of name (move_in chip first) ≡ front
    → Moment (happened chip first) events name made m
    → Moment chip (first ∷ events) name (front ++ made) m
later_moment chip first events name made front m e moment = record {
  before = first ∷ moment.before;
  event = moment.event;
  later = moment.later;
  cut = ap (λ es. first ∷ es) moment.cut;
  so_far = moves_of-append name (move_in chip first) (moves (happened chip first) moment.before)
      ∙ ap₂ (λ a b. a ++ b) e moment.so_far;
  now = moment.now;
}

next_moment : (chip : Chip) (first : Event) (events : List Event) (name : ℕ) (made : List Move)
    (m : Move) (rest : List Move)
    → ((h : List Move) → moves_of name (moves (happened chip first) events) ≡ h ++ m ∷ rest
    → Moment (happened chip first) events name h m)
    → moves_of name (moves chip (first ∷ events)) ≡ made ++ m ∷ rest
    → (moves_of name (move_in chip first) ≡ [])
    ⊎ ((x : Move) × (moves_of name (move_in chip first) ≡ x ∷ []))
    → Moment chip (first ∷ events) name made m
next_moment chip first events name made m rest on e (inl none) =
    later_moment chip first events name made [] m none
    (on made (ap (λ l. l ++ moves_of name (moves (happened chip first) events)) (sym none)
    ∙ sym (moves_of-append name (move_in chip first) (moves (happened chip first) events)) ∙ e))
next_moment chip first events name [] m rest on e (inr (x, one)) =
    let whole : x ∷ moves_of name (moves (happened chip first) events) ≡ m ∷ rest =
    ap (λ l. l ++ moves_of name (moves (happened chip first) events)) (sym one)
    ∙ sym (moves_of-append name (move_in chip first) (moves (happened chip first) events)) ∙ e in
    let same : x ≡ m = cc in
    record {
      before = [];
      event = first;
      later = events;
      cut = refl;
      so_far = refl;
      now = one ∙ ap (λ y. y ∷ []) same;
    }
next_moment chip first events name (y ∷ made) m rest on e (inr (x, one)) =
    let whole : x ∷ moves_of name (moves (happened chip first) events) ≡ y ∷ (made ++ m ∷ rest) =
    ap (λ l. l ++ moves_of name (moves (happened chip first) events)) (sym one)
    ∙ sym (moves_of-append name (move_in chip first) (moves (happened chip first) events)) ∙ e in
    let same : x ≡ y = cc in
    later_moment chip first events name made (y ∷ []) m (one ∙ ap (λ z. z ∷ []) same) (on made (cc))

nothing_there : (made rest : List Move) (m : Move) → [] ≡ made ++ m ∷ rest → ⊥
nothing_there [] rest m e = cc
nothing_there (x ∷ made) rest m e = cc

pub moment : (chip : Chip) (events : List Event) (name : ℕ) (made : List Move) (m : Move)
    (rest : List Move) → moves_of name (moves chip events) ≡ made ++ m ∷ rest
    → Moment chip events name made m
moment chip [] name made m rest e = absurd (nothing_there made rest m e)
moment chip (first ∷ events) name made m rest e =
    next_moment chip first events name made m rest
    (λ h f. moment (happened chip first) events name h m rest f) e (one_at_most chip first name)
