-- The definitions at worked values.
use Rattle.std.proofs.Common.{◌≡◌, ℕ, ◌+◌, ◌*◌, ◌++◌, true, false, List, [], ◌∷◌, Some, refl}
use Rattle.std.specs.Prelude.{codes, None}
use Rattle.std.specs.Fmt.{digits}
use Rattle.ga_word.specs.Op.{op_with}
use Rattle.ga_pack.specs.Decoded.{reading_of}
use Rattle.ga_place.specs.Side.{sides_with}
use Rattle.ga_place.specs.declared.side.Side.TheVariants.{Right}
use Rattle.ga_node.specs.declared.need.Need.TheVariants as need
use Rattle.ga_node.specs.declared.place.Place.{Place}
use Rattle.ga_node.specs.declared.place.Place.TheVariants.{Fetch, Slot0, Slot1, Slot2, Slot3, Body}
use Rattle.ga_observe.specs.declared.step.Deed.{Deed}
use Rattle.ga_observe.specs.declared.step.Deed.TheVariants as did
use Rattle.ga_observe.specs.declared.step.Step.{Step}
use Rattle.ga_trace.specs.At.{at_word}
use Rattle.ga_profile.specs.declared.node_turns.NodeTurns.{NodeTurns}
use Rattle.ga_profile.specs.declared.node_turns.TurnCounts.{TurnCounts}
use Rattle.ga_profile.specs.declared.node_turns.Wait.TheVariants as wait
use Rattle.ga_profile.specs.declared.passes.Passes.{Passes}
use Rattle.ga_profile.specs.declared.share.Share.TheVariants as share
use Rattle.ga_profile.specs.declared.window.WindowStart.TheVariants.{FirstNode, LastNode, Turn}
use Rattle.ga_profile.specs.Bar.{bar}
use Rattle.ga_profile.specs.Bottleneck.{DEADLOCK, faster_text, most_on_path, sentence_at, waited_text, whole_percent, with_rings, works_text}
use Rattle.ga_profile.specs.NodePass.{pass_of}
use Rattle.ga_profile.specs.NodeTurns.{NO_TURNS, after_step, turns_between, turns_on}
use Rattle.ga_profile.specs.Passes.{passes_in, place_of}
use Rattle.ga_profile.specs.Profile.{wait_for}
use Rattle.ga_profile.specs.Share.{cell, share_of}
use Rattle.ga_profile.specs.Table.{means, row, shares, words}
use Rattle.ga_profile.specs.Text.{window_text}
use Rattle.ga_profile.specs.Window.{window_of}

-- a step of a node in a turn, with P and the word in execution
abbrev a_step : ℕ → ℕ → Place → ℕ → ℕ → Deed → Step
a_step name turn place p word deed = record {
  node = name;
  number = turn;
  turn = turn;
  place = place;
  p = p;
  word = word;
  deed = deed;
}

-- ---- turns

-- 708 boots, begins in turn 2, waits two turns for a word, and three for its word to be read
abbrev steps_708 : List Step
steps_708 =
    a_step 708 0 Body 0 0 (did.TookInput 5)
    ∷ a_step 708 2 Fetch 0 0 did.Own
    ∷ a_step 708 3 Slot0 1 0 did.Own
    ∷ a_step 709 3 Fetch 0x1B5 0 (did.Took Right (sides_with 0x80) 7)
    ∷ a_step 708 6 Slot1 1 0 (did.Took Right (sides_with 0x80) 7)
    ∷ a_step 708 7 Slot2 1 0 (did.Posted Right 9)
    ∷ a_step 708 11 Slot3 1 0 (did.SawRead Right)
    ∷ a_step 708 12 Fetch 0 0 did.Own
    ∷ []

-- then it spins, by the word 10000 at 000, which jumps to itself
abbrev spins_708 : List Step
spins_708 = a_step 708 13 Slot0 1 0x10000 did.Own ∷ a_step 708 14 Fetch 0 0x10000 did.Own ∷ []

abbrev in_both : ℕ → NodeTurns
in_both from = turns_on from 708 true (turns_on from 708 false NO_TURNS steps_708) spins_708

abbrev counts_708 : TurnCounts
counts_708 = record {
  boots = 1;
  works = 6;
  word_waits = 2;
  reader_waits = 3;
  spins = 2;
  stops = 0;
}

abbrev turns_708 : NodeTurns
turns_708 = record {
  began = Some 2;
  last = Some 12;
  counts = counts_708;
  taken = 1;
  posted = 1;
}

all_turns : in_both 0 ≡ turns_708
unfolding after_step
all_turns = refl

-- in a window from turn 5 on it waits one turn for a word, and works four
from_turn_5 : (in_both 5).counts ≡ record counts_708 { boots = 0; works = 4; word_waits = 1 }
unfolding after_step
from_turn_5 = refl

-- 709 has run code from its ports alone: it hasn't started
not_begun : (turns_on 0 709 false NO_TURNS steps_708).began ≡ None
unfolding after_step
not_begun = refl

-- behind the last step: turns 13 to 19
behind_last : turns_between 0 (Some 12) 20 ≡ 7
behind_last = refl

waits_for_word : wait_for Slot0 (need.Take (sides_with 0x80)) ≡ wait.Word
waits_for_word = refl

waits_for_code : wait_for Fetch (need.Take (sides_with 0x80)) ≡ wait.Work
waits_for_code = refl

-- the windows of a run of 20 turns in which another node began in turn 4 and moved in turn 9
abbrev other_turns : NodeTurns
other_turns = record NO_TURNS { began = Some 4; last = Some 9 }

from_first : window_of FirstNode (other_turns ∷ turns_708 ∷ NO_TURNS ∷ []) 20
    ≡ record { first = 2; end = 13 }
unfolding window_of
from_first = refl

from_last : window_of LastNode (other_turns ∷ turns_708 ∷ NO_TURNS ∷ []) 20
    ≡ record { first = 4; end = 13 }
unfolding window_of
from_last = refl

from_number : window_of (Turn 7) (NO_TURNS ∷ []) 20 ≡ record { first = 7; end = 0 }
unfolding window_of
from_number = refl

-- shares are rounded
no_share : share_of 0 7 ≡ share.None
unfolding share_of
no_share = refl

small_share : share_of 1 101 ≡ share.BelowOne
unfolding share_of
small_share = refl

half_up : share_of 3 24 ≡ share.Percent 13
unfolding share_of
half_up = refl

-- a cell that is too wide moves what is behind it, and keeps its blank
wide_cell : cell 3 (codes "1234") ≡ codes " 1234"
unfolding cell
wide_cell = refl

-- the line of 708 in a window of 24 turns
abbrev line_708 : NodeTurns
line_708 = record turns_708 { counts = record counts_708 { boots = 0 } }

line_of_708 : row 708 line_708 None 12 24
    ≡ codes "708    25    8   13   54 |######??!!!~~           |   50    1     1      .     .\n"
unfolding row shares words bar share_of cell digits
line_of_708 = refl

window_line : window_text (record { first = 12; end = 40 })
    ≡ codes "28 turns from turn 12 on\n"
unfolding digits
window_line = refl

-- the bottleneck
first_of_most : most_on_path (3 ∷ 7 ∷ 7 ∷ 5 ∷ []) 4 ≡ 1
first_of_most = refl

-- 709 has 13 of 18 turns on the path, and works in 11 of them: 72.2 and 61.1 %
waited_and_works : (whole_percent 13 18 ≡ 72) × (whole_percent 11 18 ≡ 61)
waited_and_works = (refl, refl)

of_709 : waited_text 709 72 ++ works_text 61
    ≡ codes "Bottleneck: 709. The run waits for it in 72 % of the turns, and it works in 61 %.\n"
unfolding waited_text works_text digits
of_709 = refl

-- 10 of 18 turns are 55.6 %, which a promise rounds up
shorter : faster_text (Some 10) 18
    ≡ codes "If it worked twice as fast, the run would take 56 % of them.\n"
unfolding faster_text digits
shorter = refl

no_shorter : faster_text None 18
    ≡ codes "If it worked twice as fast, the run would be no shorter.\n"
unfolding faster_text
no_shorter = refl

-- node 000 works in 6 of 24 turns, and has 12 on the path
of_000 : sentence_at (line_708 ∷ []) (12 ∷ []) (Some 18) 24 0
    ≡ waited_text 0 50 ++ works_text 25 ++ faster_text (Some 18) 24
unfolding sentence_at
of_000 = refl

no_turn_on_path : sentence_at (line_708 ∷ []) (0 ∷ []) None 24 0
    ≡ codes "Bottleneck: none. No node works in these turns.\n"
unfolding sentence_at
no_turn_on_path = refl

no_turns : sentence_at (line_708 ∷ []) (12 ∷ []) None 0 0
    ≡ codes "Bottleneck: none. No node works in these turns.\n"
unfolding sentence_at
no_turns = refl

-- a ring comes before all else
a_ring : with_rings (codes "ring 708 709\n") (codes "Stuck") (codes "Bottleneck: none. ")
    ≡ codes "Bottleneck: the deadlock. The nodes of a ring wait for one another for good.\nring 708 709\n"
unfolding DEADLOCK
a_ring = refl

no_ring : with_rings [] (codes "Stuck. ") (codes "Bottleneck") ≡ codes "Stuck. Bottleneck"
no_ring = refl

-- ---- passes

-- 709 takes a word in slot 1 of the word at 003 in every tenth turn, after seven steps; P is 004
abbrev a_pass : ℕ → Step
a_pass count =
    record (a_step 709 (5 + count * 10) Slot1 4 0 (did.Took Right (sides_with 0x80) 7))
    { number = 20 + count * 7 }

-- node 709 is the 135th
its_place : place_of (a_pass 0) ≡ Some (135 * 256 + 3 * 4 + 1)
unfolding place_of at_word reading_of op_with
its_place = refl

-- code from a port has no place
of_port : place_of (a_step 709 3 Slot1 0x1B5 0 (did.Posted Right 9)) ≡ None
unfolding place_of at_word reading_of op_with
of_port = refl

four_times : Passes
four_times = record {
  count = 4;
  first = record { turn = 5; number = 20 };
  last = record { turn = 35; number = 41 };
}

abbrev four_passes : List Step
four_passes = a_pass 0 ∷ a_pass 1 ∷ a_pass 2 ∷ a_pass 3 ∷ []

their_passes : passes_in 0 (135 * 256 + 3 * 4 + 1) four_passes ≡ four_times
unfolding place_of at_word reading_of op_with four_times
their_passes = refl

-- from turn 6 on there is one less, and so no mean
fewer_passes : (passes_in 6 (135 * 256 + 3 * 4 + 1) four_passes).count ≡ 3
unfolding place_of at_word reading_of op_with
fewer_passes = refl

their_mean : pass_of four_times ≡ Some (record { turns = 10; works = 7 })
unfolding four_times
their_mean = refl

no_mean : pass_of (record four_times { count = 3 }) ≡ None
unfolding four_times
no_mean = refl

means_of_pass : means (record { turns = 10; works = 7 }) ≡ codes "     10     7\n"
unfolding means cell digits
means_of_pass = refl
