-- The definitions of the path at worked values.
use Rattle.std.proofs.Common.{◌≡◌, ℕ, false, true, List, [], ◌∷◌, Some, refl}
use Rattle.std.specs.Prelude.{None, reverse}
use Rattle.ga_place.specs.Side.{sides_with}
use Rattle.ga_place.specs.declared.side.Side.TheVariants.{Right}
use Rattle.ga_node.specs.declared.place.Place.TheVariants.{Slot1}
use Rattle.ga_observe.specs.declared.step.Deed.{Deed}
use Rattle.ga_observe.specs.declared.step.Deed.TheVariants as did
use Rattle.ga_observe.specs.declared.step.Step.{Step}
use Rattle.ga_profile.specs.Marks.{awaited_mark, has_waited, step_mark}
use Rattle.ga_profile.specs.NodeTurns.{NO_TURNS}
use Rattle.ga_profile.specs.Path.{last_node, node_index, path_to, turns_of, turns_up_to}

-- a step of a node in a turn
abbrev a_step : ℕ → ℕ → Deed → Step
a_step name turn deed = record {
  node = name;
  number = turn;
  turn = turn;
  place = Slot1;
  p = 1;
  word = 0;
  deed = deed;
}

-- 708 works in turns 0 and 1 and posts a word in turn 2. 709 has waited for it in turn 1, takes it
-- in turn 2, and works in turn 3.
abbrev taken : List Step
taken =
    a_step 708 0 did.Own
    ∷ a_step 709 0 did.Own
    ∷ a_step 708 1 did.Own
    ∷ a_step 708 2 (did.Posted Right 9)
    ∷ a_step 709 2 (did.Took Right (sides_with 0x80) 9)
    ∷ a_step 709 3 did.Own
    ∷ []

-- three of the turns are those of 708, and the last one is that of 709
of_poster : turns_of node_index 134 (path_to 0 (step_mark 709) (reverse taken)) ≡ 3
of_poster = refl

of_taker : turns_of node_index 135 (path_to 0 (step_mark 709) (reverse taken)) ≡ 1
of_taker = refl

-- from turn 2 on there is one of each
from_turn_2 : turns_of node_index 134 (path_to 2 (step_mark 709) (reverse taken)) ≡ 1
from_turn_2 = refl

-- 708 posts a word in turn 0. 709 works, and takes it in turn 2 with no wait. 708 has waited for
-- that and goes on in turn 3.
abbrev seen_read : List Step
seen_read =
    a_step 708 0 (did.Posted Right 9)
    ∷ a_step 709 0 did.Own
    ∷ a_step 709 1 did.Own
    ∷ a_step 709 2 (did.Took Right (sides_with 0x80) 9)
    ∷ a_step 708 3 (did.SawRead Right)
    ∷ []

of_waiting : turns_of node_index 134 (path_to 0 (step_mark 708) (reverse seen_read)) ≡ 1
of_waiting = refl

of_reader : turns_of node_index 135 (path_to 0 (step_mark 708) (reverse seen_read)) ≡ 3
of_reader = refl

-- a post waits for nothing
no_wait : awaited_mark 708 (did.Posted Right 9) ≡ None
no_wait = refl

-- turns 3 and 4 lie between the steps: the post in turn 4 ended the wait, that in turn 2 didn't
waited_for_post : has_waited 5 (Some 2) (Some 4) ≡ true
waited_for_post = refl

posted_before : has_waited 5 (Some 2) (Some 2) ≡ false
posted_before = refl

-- the word came before the next turn: the node went on with no wait
no_turn_between : has_waited 3 (Some 2) (Some 3) ≡ false
no_turn_between = refl

-- turns 6 to 8 lie behind turn 5, and two of them in a window from turn 7 on
behind_last : turns_up_to 0 (Some 5) 8 ≡ 3
behind_last = refl

in_window : turns_up_to 7 (Some 5) 8 ≡ 2
in_window = refl

-- of two nodes with steps in the last turn the second one made the last step
second_of_two : last_node (record NO_TURNS { last = Some 4 } ∷ record NO_TURNS { last = Some 9 }
    ∷ record NO_TURNS { last = Some 9 } ∷ record NO_TURNS { last = Some 7 } ∷ []) 4 ≡ 2
second_of_two = refl
