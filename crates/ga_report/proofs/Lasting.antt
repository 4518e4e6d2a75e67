-- The last steps of nodes, in windows with any begin.
use Rattle.std.proofs.Common.{◌≡◌, ◌∙◌, ℕ, zero, suc, ◌+◌, ◌<◌, ◌≤◌, ◌==◌, Bool, true, false, List, [], ◌∷◌, ap, ap₂, arith, get_or, refl, sym}
use Rattle.std.specs.Prelude.{Option, Some, None, if◌then◌else◌}
use Rattle.std.proofs.lemmas.List.FromFn.{get_or-map-range_with_len}
use Rattle.ga_place.specs.Cell.{name_at}
use Rattle.ga_node.specs.State.{State}
use Rattle.ga_chip.specs.Chip.{Chip, state_of}
use Rattle.ga_chip.specs.Run.{side_of_turn, turn_of}
use Rattle.ga_observe.specs.Seen.{numbered, steps_seen}
use Rattle.ga_observe.specs.declared.step.Step.{Step}
use Rattle.ga_profile.specs.declared.node_turns.NodeTurns.{NodeTurns}
use Rattle.ga_profile.specs.declared.window.Window.{Window}
use Rattle.ga_profile.specs.Marks.{is_later}
use Rattle.ga_trace.specs.Rest.{spins}
use Rattle.ga_trace.specs.Traced.{behind}
use Rattle.ga_profile.specs.NodeTurns.{NO_TURNS, after_step, last_by, turns_in, turns_on}
use Rattle.ga_profile.specs.Path.{last_node, later_of}
use Rattle.ga_profile.specs.Profile.{chip_at_end, ended, watched, with_end}
use Rattle.ga_report.specs.Timeline.{up_to}

-- some steps of a turn
last_on : (one other name : ℕ) (spinning : Bool) (a b : NodeTurns) (steps : List Step)
    → a.last ≡ b.last
    → (turns_on one name spinning a steps).last ≡ (turns_on other name spinning b steps).last
unfolding after_step
last_on one other name spinning a b [] last = last
last_on one other name spinning a b (step ∷ steps) last =
    by (step.node == name) (last_on one other name spinning a b steps last)
    (last_on one other name spinning (after_step one spinning a step)
    (after_step other spinning b step) steps (ap (λ l. last_by l spinning step.turn) last))
  where
    by : (c : Bool)
        → (turns_on one name spinning a steps).last ≡ (turns_on other name spinning b steps).last
        → (turns_on one name spinning (after_step one spinning a step) steps).last
        ≡ (turns_on other name spinning (after_step other spinning b step) steps).last
        → (turns_on one name spinning (if c then after_step one spinning a step else a) steps).last
        ≡ (turns_on other name spinning (if c then after_step other spinning b step else b)
        steps).last
    by true kept more = more
    by false kept more = kept

-- and all turns
last_in : (one other name count : ℕ) (chip : Chip)
    → (turns_in one name count chip).last ≡ (turns_in other name count chip).last
unfolding turns_in
last_in one other name zero chip = refl
last_in one other name (suc turn) chip =
    last_on one other name (spins (behind chip turn) name) (turns_in one name turn chip)
    (turns_in other name turn chip)
    (steps_seen (behind chip turn) (numbered turn (turn_of (side_of_turn turn))))
    (last_in one other name turn chip)

-- the turns behind the last step don't change it
last_at_end : (window : Window) (turns : NodeTurns) (state : Option State)
    → (with_end window turns state).last ≡ turns.last
last_at_end window turns None = refl
last_at_end window turns (Some state) = refl

last_same : (from end : ℕ) (chip : Chip) (index : ℕ) → index < 144
    → (get_or (up_to end chip) index NO_TURNS).last
    ≡ (get_or (watched from end chip) index NO_TURNS).last
unfolding ended watched
last_same from end chip index below =
    let name = name_at index in
    let window : Window = record { first = 0; end = end } in
    let here : 0 + index ≡ index = omega arith in
    let turns : ℕ → ℕ → NodeTurns = λ first at. turns_in first (name_at at) end chip in
    let all : ℕ → NodeTurns = λ at. with_end window (get_or (watched 0 end chip) at NO_TURNS)
    (state_of (chip_at_end window chip) (name_at at)) in
    ap (λ (t : NodeTurns). t.last)
    (get_or-map-range_with_len all 0 144 index index NO_TURNS below here)
    ∙ last_at_end window (get_or (watched 0 end chip) index NO_TURNS)
    (state_of (chip_at_end window chip) name)
    ∙ ap (λ (t : NodeTurns). t.last)
    (get_or-map-range_with_len (turns 0) 0 144 index index NO_TURNS below here)
    ∙ last_in 0 from name end chip
    ∙ sym (ap (λ (t : NodeTurns). t.last)
    (get_or-map-range_with_len (turns from) 0 144 index index NO_TURNS below here))

-- ---- the node of the last step

last_bound : (nodes : List NodeTurns) (count : ℕ) → count ≤ 144 → last_node nodes count < 144
last_bound nodes zero few = omega arith
last_bound nodes (suc count) few =
    by (is_later (get_or nodes (last_node nodes count) NO_TURNS).last
    (get_or nodes count NO_TURNS).last) (last_bound nodes count (omega arith)) (omega arith)
  where
    by : (b : Bool) → last_node nodes count < 144 → count < 144
        → (if b then last_node nodes count else count) < 144
    by true before here = before
    by false before here = here

same_node : (a b : List NodeTurns) (count : ℕ) → count ≤ 144
    → ((index : ℕ) → index < 144
    → (get_or a index NO_TURNS).last ≡ (get_or b index NO_TURNS).last)
    → last_node a count ≡ last_node b count
same_node a b zero few each = refl
same_node a b (suc count) few each =
    let here : count < 144 = omega arith in
    let before = same_node a b count (omega arith) each in
    ap₂ (λ one other. if is_later one other then last_node a count else count)
    (each (last_node a count) (last_bound a count (omega arith))) (each count here)
    ∙ ap (λ latest. later_of b latest count) before

-- that of any window with the same end
pub last_node_same : (from end : ℕ) (chip : Chip)
    → last_node (up_to end chip) 144 ≡ last_node (watched from end chip) 144
last_node_same from end chip =
    same_node (up_to end chip) (watched from end chip) 144 (omega arith) (last_same from end chip)
