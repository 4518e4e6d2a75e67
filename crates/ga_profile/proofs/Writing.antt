-- Texts that are written part by part.
use Rattle.std.proofs.Common.{◌≡◌, ◌∙◌, ℕ, ◌<◌, List, ◌++◌, ap, get_or, length}
use Rattle.std.specs.Prelude.{Option, None}
use Rattle.std.proofs.lemmas.List.{get_or_default}
pub use Rattle.ga_waits.proofs.Writing.{item_more, part_more}
use Rattle.ga_place.specs.Cell.{name_at}
use Rattle.ga_asm.specs.Image.{ImageView}
use Rattle.ga_chip.specs.Chip.{Chip, state_of}
use Rattle.ga_trace.specs.Depth.{BOTH_EMPTY}
use Rattle.ga_trace.specs.declared.depth.StackDepths.{StackDepths}
use Rattle.ga_profile.specs.declared.node_turns.NodeTurns.{NodeTurns}
use Rattle.ga_profile.specs.declared.window.Window.{Window}
use Rattle.ga_profile.specs.declared.node_pass.NodePass.{NodePass}
use Rattle.ga_profile.specs.Bottleneck.{works_at}
use Rattle.ga_profile.specs.NodeTurns.{NO_TURNS}
use Rattle.ga_profile.specs.Profile.{with_end}
use Rattle.ga_profile.specs.Rank.{ranked}
use Rattle.ga_profile.specs.Stacks.{fullness_at, fullness_if, stack_row_at, stack_row_if}
use Rattle.ga_profile.specs.Table.{row_at, row_if}

-- the line of a node, read at any default
pub row_read : (nodes : List NodeTurns) (passes : List (Option NodePass)) (path : List ℕ)
    (turns index name : ℕ) (other : NodeTurns) (pass : Option NodePass) (text new : List ℕ)
    → index < length nodes → index < length passes → name ≡ name_at index
    → new ≡ text ++ row_if (get_or nodes index other).began name (get_or nodes index other)
    (get_or passes index pass) (get_or path index 0) turns
    → new ≡ text ++ row_at nodes passes path turns index
row_read nodes passes path turns index name other pass text new within in_passes named wrote =
    let did = get_or nodes index NO_TURNS in
    let on_path = get_or path index 0 in
    wrote
    ∙ ap (λ (one : NodeTurns). text
    ++ row_if one.began name one (get_or passes index pass) on_path turns)
    (get_or_default nodes index other NO_TURNS within)
    ∙ ap (λ (p : Option NodePass). text ++ row_if did.began name did p on_path turns)
    (get_or_default passes index pass None in_passes)
    ∙ ap (λ n. text ++ row_if did.began n did (get_or passes index None) on_path turns) named

-- and in how many turns it works
pub works_read : (nodes : List NodeTurns) (index new : ℕ) (other : NodeTurns)
    → index < length nodes → new ≡ (get_or nodes index other).counts.works
    → new ≡ works_at nodes index
works_read nodes index new other within is =
    is
    ∙ ap (λ (one : NodeTurns). one.counts.works)
    (get_or_default nodes index other NO_TURNS within)

-- and the turns of a node with those behind its last step
pub end_read : (window : Window) (nodes : List NodeTurns) (index name : ℕ) (other : NodeTurns)
    (chip : Chip) (new : NodeTurns) → index < length nodes → name ≡ name_at index
    → new ≡ with_end window (get_or nodes index other) (state_of chip name)
    → new ≡ with_end window (get_or nodes index NO_TURNS) (state_of chip (name_at index))
end_read window nodes index name other chip new within named is =
    is
    ∙ ap (λ (one : NodeTurns). with_end window one (state_of chip name))
    (get_or_default nodes index other NO_TURNS within)
    ∙ ap (λ n. with_end window (get_or nodes index NO_TURNS) (state_of chip n)) named

-- how full the stacks of a node were, read at any default
pub fullness_read : (nodes : List NodeTurns) (depths : List StackDepths) (index : ℕ)
    (other : NodeTurns) (none : StackDepths) (new : ℕ) → index < length nodes
    → index < length depths
    → new ≡ fullness_if (get_or nodes index other).began (get_or depths index none)
    → new ≡ fullness_at nodes depths index
fullness_read nodes depths index other none new within in_depths is =
    is
    ∙ ap (λ (one : NodeTurns). fullness_if one.began (get_or depths index none))
    (get_or_default nodes index other NO_TURNS within)
    ∙ ap (λ (one : StackDepths). fullness_if (get_or nodes index NO_TURNS).began one)
    (get_or_default depths index none BOTH_EMPTY in_depths)

-- and the row of a rank
pub stack_row_read : (images : List (ℕ × ImageView)) (full : List ℕ) (depths : List StackDepths)
    (rank index name : ℕ) (none : StackDepths) (text new : List ℕ) → index < length depths
    → index ≡ ranked full rank → name ≡ name_at index
    → new ≡ text ++ stack_row_if images (get_or full index 0) name (get_or depths index none)
    → new ≡ text ++ stack_row_at images full depths rank
stack_row_read images full depths rank index name none text new within has_rank named wrote =
    wrote
    ∙ ap (λ (one : StackDepths). text ++ stack_row_if images (get_or full index 0) name one)
    (get_or_default depths index none BOTH_EMPTY within)
    ∙ ap (λ n. text ++ stack_row_if images (get_or full index 0) n (get_or depths index BOTH_EMPTY))
    named
    ∙ ap (λ i. text
    ++ stack_row_if images (get_or full i 0) (name_at i) (get_or depths i BOTH_EMPTY)) has_rank
