-- Nodes that spin: own steps alone lead back to the same state.
use Rattle.std.specs.Prelude.{◌≡◌, ℕ, zero, suc, ◌≤◌, ◌<◌, ◌==◌, Bool, true, false, ◌&&◌, ◌||◌, List, [], ◌∷◌, Option, Some, None}
use Rattle.std.specs.Cmp.Lexicographic.{pointwise}
use Rattle.ga_place.specs.declared.side.Side.{Side}
use Rattle.ga_place.specs.declared.side.Side.TheVariants.{Right, Down, Left, Up}
use Rattle.ga_node.specs.State.{State}
use Rattle.ga_node.specs.Need.{is_own, wants}
use Rattle.ga_node.specs.Running.{own_run}
use Rattle.ga_node.specs.Slot.{step}
use Rattle.ga_node.specs.declared.need.Need.TheVariants.{Own}
use Rattle.ga_node.specs.declared.spinning.Ahead.{Ahead}
use Rattle.ga_node.specs.declared.spinning.Ahead.TheVariants as ahead
use Rattle.ga_node.specs.declared.place.Place.{Place}
use Rattle.ga_node.specs.declared.place.Place.TheVariants.{Fetch, Slot0, Slot1, Slot2, Slot3, Completion, Transfer, Count, Body}

-- a state without its number of steps
abbrev pub uncounted : State → State
uncounted state = record state { steps = 0 }

-- A node spins: own steps alone lead from its state back to it, except for the number of steps.
pub record Spins (state : State) : Type 0 where
  -- the number of steps that lead back, at least one
  pub period : ℕ
  pub some : 1 ≤ period
  -- each of them is the node's own work
  pub own : (steps : ℕ) → steps < period → wants (own_run steps state) ≡ Own
  -- behind them the state is the same
  pub back : uncounted (own_run period state) ≡ uncounted state

-- A node that spins still spins after any number of own steps.
abbrev pub StillSpins : Type 0
StillSpins = (state : State) (steps : ℕ) → Spins state → Spins (own_run steps state)

-- ---- whether a node spins

abbrev pub place_number : Place → ℕ
place_number Fetch = 0
place_number Slot0 = 1
place_number Slot1 = 2
place_number Slot2 = 3
place_number Slot3 = 4
place_number Completion = 5
place_number Transfer = 6
place_number Count = 7
place_number Body = 8

abbrev pub side_number : Side → ℕ
side_number Right = 0
side_number Down = 1
side_number Left = 2
side_number Up = 3

abbrev pub bit_of : Bool → ℕ
bit_of false = 0
bit_of true = 1

abbrev pub post_numbers : Option (Side × ℕ) → List ℕ
post_numbers None = []
post_numbers (Some post) = side_number post.0 ∷ post.1 ∷ []

abbrev pub held_numbers : Option ℕ → List ℕ
held_numbers None = []
held_numbers (Some word) = word ∷ []

-- the numbers that a state has, but for that of its steps
abbrev pub numbers_of : State → List (List ℕ)
numbers_of state =
    (state.node ∷ state.p ∷ state.a ∷ state.b ∷ state.r ∷ state.s ∷ state.t ∷ state.io
    ∷ bit_of state.carry ∷ state.word ∷ place_number state.place ∷ state.loader.completion
    ∷ state.loader.transfer ∷ state.loader.left ∷ [])
    ∷ state.data_stack ∷ state.return_stack ∷ state.ram ∷ post_numbers state.posted
    ∷ held_numbers state.loader.held ∷ []

-- whether a state is the other one again, but for the number of steps
abbrev pub is_again : State → State → Bool
is_again state other =
    pointwise (pointwise (λ one two. one == two)) (numbers_of state) (numbers_of other)

-- at most `most` own steps lead from a state to one that is the first again
abbrev pub comes_back : ℕ → State → State → Bool
comes_back zero first state = false
comes_back (suc most) first state =
    is_own (wants state)
    && (is_again (step state None) first || comes_back most first (step state None))

-- Whether a node is seen to spin: at most four own steps lead back.
unfoldable pub is_spinning : State → Bool
is_spinning state = comes_back 4 state state

-- ---- what is ahead

-- the next steps of a node are its own, this many of them at least
abbrev pub OwnFor : ℕ → State → Type 0
OwnFor count state = (steps : ℕ) → steps < count → wants (own_run steps state) ≡ Own

-- after some own steps a node spins, and not before
pub record SpinsAfter (state : State) (after : ℕ) : Type 0 where
  pub own : OwnFor after state
  pub before : (steps : ℕ) → steps < after → is_spinning (own_run steps state) ≡ false
  pub spins : is_spinning (own_run after state) ≡ true

-- A node spins in none of this many states, at least one. Between them are own steps.
pub record WorksFor (state : State) (states : ℕ) : Type 0 where
  pub some : 1 ≤ states
  pub own : (steps : ℕ) → suc steps < states → wants (own_run steps state) ≡ Own
  pub none : (steps : ℕ) → steps < states → is_spinning (own_run steps state) ≡ false

abbrev pub IsAhead : State → Ahead → Type 0
IsAhead state (ahead.Spins after) = SpinsAfter state after
IsAhead state (ahead.Works states) = WorksFor state states
