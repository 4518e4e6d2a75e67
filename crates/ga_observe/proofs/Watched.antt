-- What an observer has seen, as a run goes on.
use Rattle.std.proofs.Common.{◌≡◌, ℕ, zero, suc, ◌+◌, ◌<◌, ◌≤◌, List, [], ◌∷◌, ◌++◌, length, get_or, drop, refl, sym, ap, ap₂, ◌∙◌, subst, append-nil, append_assoc, add-one, arith}
use Rattle.std.specs.List.{enumerate_from, flat_map, range_with_len}
use Rattle.std.proofs.lemmas.List.{map-append}
use Rattle.std.proofs.Math.ListN.{drop_of_length-le}
use Rattle.ga_place.specs.Cell.{name_at}
use Rattle.ga_place.specs.declared.side.Side.{Side}
use Rattle.ga_chip.specs.declared.outcome.Try as asked
use Rattle.ga_chip.specs.declared.outcome.Outcome.{Outcome}
use Rattle.ga_chip.specs.Chip.{Chip, tried}
use Rattle.ga_chip.specs.Run.{Event, Try, happened, ran, side_of_turn, tries_of, turn_of, turns_of}
use Rattle.ga_chip.specs.Outcome.{moved_by}
use Rattle.ga_chip.proofs.Turns.{InTurn, happened_try, tries_next, turn_begins, turn_end, turn_goes_on, turn_left, turn_next, turn_whole}
use Rattle.ga_observe.specs.declared.step.Step.{Step}
use Rattle.ga_observe.specs.Laws.{events_in}
use Rattle.ga_observe.specs.Seen.{Sees, numbered, steps_in, steps_seen, turns_numbered}

-- nothing more was seen
pub sees_none : {A : Type 0} (S : A → A → List Step → Type 0) (a : A) → Sees S a a []
sees_none S a begun steps seen = subst (S begun a) (sym (append-nil steps)) seen

-- some steps, and then others
pub sees_more : {A : Type 0} (S : A → A → List Step → Type 0) (a b c : A) (here there : List Step)
    → Sees S a b here → Sees S b c there → Sees S a c (here ++ there)
sees_more S a b c here there one next begun steps seen =
    subst (S begun c) (append_assoc steps here there)
    (next begun (steps ++ here) (one begun steps seen))

-- How far an observer has come in a run: what it saw, and the steps of the events that are left,
-- are the steps of the run.
pub record Watched {A : Type 0} (S : A → A → List Step → Type 0) (first now : A) (start chip : Chip)
    (all rest : List (ℕ × Event)) : Type 0 where
  pub done : List Step
  pub sees : Sees S first now done
  pub left : done ++ steps_seen chip rest ≡ steps_seen start all

pub watch_begins : {A : Type 0} (S : A → A → List Step → Type 0) (first : A) (start : Chip)
    (all : List (ℕ × Event)) → Watched S first first start start all all
watch_begins S first start all = record { done = []; sees = sees_none S first; left = refl }

pub watch_goes_on : {A : Type 0} (S : A → A → List Step → Type 0) (first now next : A)
    (start chip behind : Chip) (turn name : ℕ) (side : Side) (outcome : Outcome)
    (all rest more : List (ℕ × Event)) → rest ≡ (turn, Try name side) ∷ more
    → ◌≡◌ {A = Outcome × Chip} (outcome, behind) (tried chip name side)
    → Sees S now next (steps_in turn chip (Try name side)) → Watched S first now start chip all rest
    → Watched S first next start behind all more
watch_goes_on S first now next start chip behind turn name side outcome all rest more e is sees w =
    let here : behind ≡ happened chip (Try name side) =
    sym (happened_try chip name side ∙ ap (λ r. r.1) (sym is)) in
    record {
      done = w.done ++ steps_in turn chip (Try name side);
      sees = sees_more S first now next w.done (steps_in turn chip (Try name side)) w.sees sees;
      left = append_assoc w.done (steps_in turn chip (Try name side)) (steps_seen behind more)
          ∙ ap (λ c. w.done ++ (steps_in turn chip (Try name side) ++ steps_seen c more)) here
          ∙ ap (λ l. w.done ++ steps_seen chip l) (sym e)
          ∙ w.left;
    }

pub watch_ends : {A : Type 0} (S : A → A → List Step → Type 0) (first now : A) (start chip : Chip)
    (all rest : List (ℕ × Event)) → rest ≡ [] → Watched S first now start chip all rest
    → Sees S first now (steps_seen start all)
watch_ends S first now start chip all rest e w =
    subst (Sees S first now)
    (sym (append-nil w.done) ∙ ap (λ l. w.done ++ steps_seen chip l) (sym e) ∙ w.left) w.sees

-- the next of the tries in a list, with its index
pub tries_left : (tries : List asked.Try) (index : ℕ) (item : asked.Try) → index < length tries
    → item ≡ get_or tries index item → enumerate_from index (tries_of (drop index tries))
    ≡ (index, Try item.node item.side) ∷ enumerate_from (index + 1)
    (tries_of (drop (index + 1) tries))
tries_left tries index item below read =
    ap (enumerate_from index) (tries_next tries index item below read)

pub tries_end : (tries : List asked.Try) (index : ℕ) → length tries ≤ index
    → enumerate_from index (tries_of (drop index tries)) ≡ []
tries_end tries index reached =
    ap (λ l. enumerate_from index (tries_of l)) (drop_of_length-le tries reached)

-- the tries of a turn, from a place on, with its number
abbrev pub turn_rest : ℕ → ℕ → List (ℕ × Event)
turn_rest turn index = numbered turn (turn_left (side_of_turn turn) index)

pub turn_all : (turn : ℕ) → turn_rest turn 0 ≡ numbered turn (turn_of (side_of_turn turn))
turn_all turn = ap (numbered turn) (turn_whole (side_of_turn turn))

pub turn_more : (turn index : ℕ) → index < 144
    → turn_rest turn index ≡ (turn, Try (name_at index) (side_of_turn turn)) ∷ turn_rest turn
    (index + 1)
turn_more turn index below = ap (numbered turn) (turn_next (side_of_turn turn) index below)

pub turn_done : (turn index : ℕ) → 144 ≤ index → turn_rest turn index ≡ []
turn_done turn index reached = ap (numbered turn) (turn_end (side_of_turn turn) index reached)

-- the steps of a run, and of one behind it
pub steps-append : (chip : Chip) (events more : List (ℕ × Event)) → steps_seen chip (events ++ more)
    ≡ steps_seen chip events ++ steps_seen (ran chip (events_in events)) more
steps-append chip [] more = refl
steps-append chip (next ∷ events) more =
    ap (λ l. steps_in next.0 chip next.1 ++ l) (steps-append (happened chip next.1) events more)
    ∙ sym (append_assoc (steps_in next.0 chip next.1) (steps_seen (happened chip next.1) events)
    (steps_seen (ran (happened chip next.1) (events_in events)) more))

-- the parts of one more number, behind those of the numbers before it
one_more : {A : Type 0} (f : ℕ → List A) (from n next : ℕ) → next ≡ from + n
    → flat_map f (range_with_len from (suc n)) ≡ flat_map f (range_with_len from n) ++ f next
one_more f from zero next e =
    let same : from ≡ next = omega arith in append-nil (f from) ∙ ap f same
one_more f from (suc n) next e =
    let later : next ≡ from + 1 + n = omega arith in
    ap (λ l. f from ++ l) (one_more f (from + 1) n next later)
    ∙ sym (append_assoc (f from) (flat_map f (range_with_len (from + 1) n)) (f next))

-- the events of a turn, with its number
abbrev pub turn_events : ℕ → List (ℕ × Event)
turn_events turn = numbered turn (turn_of (side_of_turn turn))

numbered-more : (count : ℕ) → turns_numbered (count + 1) ≡ turns_numbered count ++ turn_events count
unfolding turns_numbered
numbered-more count =
    let here : count ≡ 0 + count = omega arith in
    ap (λ n. flat_map turn_events (range_with_len 0 n)) (add-one count)
    ∙ one_more turn_events 0 count count here

pub unnumbered : (turn : ℕ) (events : List Event) → events_in (numbered turn events) ≡ events
unnumbered turn [] = refl
unnumbered turn (event ∷ events) = ap (λ l. event ∷ l) (unnumbered turn events)

plain_from : (from n : ℕ) → events_in (flat_map turn_events (range_with_len from n))
    ≡ flat_map (λ turn. turn_of (side_of_turn turn)) (range_with_len from n)
plain_from from zero = refl
plain_from from (suc n) =
    map-append (λ (one : ℕ × Event). one.1) (turn_events from)
    (flat_map turn_events (range_with_len (from + 1) n))
    ∙ ap₂ (λ one more. one ++ more) (unnumbered from (turn_of (side_of_turn from)))
    (plain_from (from + 1) n)

pub plain_turns : (count : ℕ) → events_in (turns_numbered count) ≡ turns_of count
unfolding turns_numbered turns_of
plain_turns count = plain_from 0 count

-- the steps of some turns, and those of one turn more
pub turns_steps : (start chip : Chip) (count : ℕ) → chip ≡ ran start (turns_of count)
    → steps_seen start (turns_numbered count) ++ steps_seen chip (turn_events count)
    ≡ steps_seen start (turns_numbered (count + 1))
turns_steps start chip count is =
    ap (λ c. steps_seen start (turns_numbered count) ++ steps_seen c (turn_events count))
    (is ∙ ap (ran start) (sym (plain_turns count)))
    ∙ sym (steps-append start (turns_numbered count) (turn_events count))
    ∙ ap (steps_seen start) (sym (numbered-more count))

-- what an observer saw of some turns, and of one turn more
pub turns_go_on : {A : Type 0} (S : A → A → List Step → Type 0) (first now next : A)
    (start chip : Chip) (count : ℕ) → chip ≡ ran start (turns_of count)
    → Sees S first now (steps_seen start (turns_numbered count))
    → Sees S now next (steps_seen chip (turn_events count))
    → Sees S first next (steps_seen start (turns_numbered (count + 1)))
turns_go_on S first now next start chip count is so_far turned =
    subst (Sees S first next) (turns_steps start chip count is)
    (sees_more S first now next (steps_seen start (turns_numbered count))
    (steps_seen chip (turn_events count)) so_far turned)

-- How far a turn has come, and what the observer saw of it.
pub record TurnWatched {A : Type 0} (S : A → A → List Step → Type 0) (first now : A)
    (start chip : Chip) (turn index moved : ℕ) : Type 0 where
  pub made : InTurn start chip (side_of_turn turn) index moved
  pub seen : Watched S first now start chip (turn_events turn) (turn_rest turn index)

pub turn_opens : {A : Type 0} (S : A → A → List Step → Type 0) (first : A) (start : Chip) (turn : ℕ)
    → TurnWatched S first first start start turn 0 0
turn_opens S first start turn = record {
  made = turn_begins start (side_of_turn turn);
  seen = subst (Watched S first first start start (turn_events turn)) (sym (turn_all turn))
      (watch_begins S first start (turn_events turn));
}

pub turn_goes : {A : Type 0} (S : A → A → List Step → Type 0) (first now next : A)
    (start chip behind : Chip) (turn index moved more node : ℕ) (side : Side) (outcome : Outcome)
    → index < 144 → node ≡ name_at index → side ≡ side_of_turn turn
    → ◌≡◌ {A = Outcome × Chip} (outcome, behind) (tried chip node side)
    → more ≡ moved_by outcome → Sees S now next (steps_in turn chip (Try node side))
    → TurnWatched S first now start chip turn index moved
    → TurnWatched S first next start behind turn (index + 1) (moved + more)
turn_goes S first now next start chip behind turn index moved more node side outcome below node_is
    side_is is counted sees w =
    let here : ◌≡◌ {A = Outcome × Chip} (outcome, behind)
    (tried chip (name_at index) (side_of_turn turn)) =
    is ∙ ap₂ (λ n s. tried chip n s) node_is side_is in
    record {
      made = turn_goes_on start chip behind (side_of_turn turn) index moved more outcome w.made
          below here counted;
      seen = watch_goes_on S first now next start chip behind turn (name_at index)
          (side_of_turn turn) outcome (turn_events turn) (turn_rest turn index)
          (turn_rest turn (index + 1)) (turn_more turn index below) here
          (subst (λ (e : Event). Sees S now next (steps_in turn chip e)) (ap₂ Try node_is side_is)
          sees) w.seen;
    }

pub turn_closes : {A : Type 0} (S : A → A → List Step → Type 0) (first now : A) (start chip : Chip)
    (turn index moved : ℕ) → 144 ≤ index → TurnWatched S first now start chip turn index moved
    → Sees S first now (steps_seen start (turn_events turn))
turn_closes S first now start chip turn index moved reached w =
    watch_ends S first now start chip (turn_events turn) (turn_rest turn index)
    (turn_done turn index reached) w.seen
