-- What is read of the nodes, at any default.
use Rattle.std.proofs.Common.{◌≡◌, ◌∙◌, ℕ, ◌+◌, ◌-◌, ◌*◌, ◌<◌, List, ◌++◌, ap, ap₂, arith, get_or, length, length-append, min}
use Rattle.std.specs.Prelude.{Option}
use Rattle.std.proofs.Math.Nat.{lt-div-mul-add, min-eq_right}
use Rattle.std.proofs.lemmas.List.{get_or_default}
use Rattle.std.proofs.lemmas.List.FromFn.{length-map-range_with_len}
use Rattle.ga_place.specs.Cell.{name_at}
use Rattle.ga_chip.specs.Chip.{Chip}
use Rattle.ga_profile.specs.declared.node_turns.NodeTurns.{NodeTurns}
use Rattle.ga_profile.specs.declared.window.Window.{Window}
use Rattle.ga_profile.specs.declared.node_turns.TurnCounts.{TurnCounts}
use Rattle.ga_profile.specs.NodeTurns.{NO_COUNTS, NO_TURNS}
use Rattle.ga_report.specs.declared.kind.Kind.{Kind}
use Rattle.ga_report.specs.declared.timeline.Timeline.{Timeline}
use Rattle.ga_report.specs.Ending.{kind_at_end}
use Rattle.ga_report.specs.Most.{between, most_of}
use Rattle.ga_report.specs.Picture.{node_at, node_box}
use Rattle.ga_report.specs.Rows.{row_at, row_if}
use Rattle.ga_profile.specs.Window.{length_of}
use Rattle.ga_report.specs.Columns.{bound, columns_of, stride_of}
use Rattle.ga_report.specs.Timeline.{column_in, counts_at, most_at, most_by, row_of, up_to}

-- a node of the picture
pub node_read : (chip : Chip) (nodes : List NodeTurns) (index name : ℕ) (other : NodeTurns)
    (kind : Kind) (text new : List ℕ) → index < length nodes → name ≡ name_at index
    → kind ≡ kind_at_end (get_or nodes index other) chip name
    → new ≡ text ++ node_box chip name kind → new ≡ text ++ node_at chip nodes index
node_read chip nodes index name other kind text new within named does wrote =
    wrote ∙ ap (λ (k : Kind). text ++ node_box chip name k) does
    ∙ ap (λ (did : NodeTurns). text ++ node_box chip name (kind_at_end did chip name))
    (get_or_default nodes index other NO_TURNS within)
    ∙ ap (λ n. text ++ node_box chip n (kind_at_end (get_or nodes index NO_TURNS) chip n)) named

-- a row of the timeline
pub row_read : (nodes : List NodeTurns) (timeline : Timeline) (shown : List Kind) (index name : ℕ)
    (other : NodeTurns) (counts none : TurnCounts) (path : List (Option ℕ)) (text new : List ℕ)
    → index < length nodes → index < length timeline.counts.items → name ≡ name_at index
    → counts ≡ get_or timeline.counts.items index none
    → shown ≡ row_of timeline.columns timeline.kinds.items index → path ≡ timeline.path.items
    → new ≡ text ++ row_if (get_or nodes index other).began name counts shown path
    → new ≡ text ++ row_at nodes timeline index
row_read nodes timeline shown index name other counts none path text new within in_counts named
    found is holds wrote =
    let did = get_or nodes index NO_TURNS in
    let all = timeline.counts.items in
    let own = get_or all index NO_COUNTS in
    wrote
    ∙ ap (λ (one : NodeTurns). text ++ row_if one.began name counts shown path)
    (get_or_default nodes index other NO_TURNS within)
    ∙ ap (λ (c : TurnCounts). text ++ row_if did.began name c shown path)
    (found ∙ get_or_default all index none NO_COUNTS in_counts)
    ∙ ap (λ n. text ++ row_if did.began n own shown path) named
    ∙ ap (λ (s : List Kind). text ++ row_if did.began (name_at index) own s path) is
    ∙ ap (λ (p : List (Option ℕ)). text ++ row_if did.began (name_at index) own
    (row_of timeline.columns timeline.kinds.items index) p) holds

-- and what it does in most turns of a column
pub most_read : (before after : List NodeTurns) (turns index : ℕ) (one other : NodeTurns)
    (kind : Kind) → index < length before → index < length after
    → kind ≡ most_of (between (get_or before index one).counts (get_or after index other).counts)
    turns
    → kind ≡ most_at before after turns index
most_read before after turns index one other kind in_before in_after is =
    is
    ∙ ap (λ (did : NodeTurns). most_of (between did.counts (get_or after index other).counts) turns)
    (get_or_default before index one NO_TURNS in_before)
    ∙ ap (λ (did : NodeTurns).
    most_of (between (get_or before index NO_TURNS).counts did.counts) turns)
    (get_or_default after index other NO_TURNS in_after)

-- in how many turns it does what
pub counts_read : (before after : List NodeTurns) (index : ℕ) (one other : NodeTurns)
    (counts : TurnCounts) → index < length before → index < length after
    → counts ≡ between (get_or before index one).counts (get_or after index other).counts
    → counts ≡ counts_at before after index
counts_read before after index one other counts in_before in_after is =
    is
    ∙ ap (λ (did : NodeTurns). between did.counts (get_or after index other).counts)
    (get_or_default before index one NO_TURNS in_before)
    ∙ ap (λ (did : NodeTurns). between (get_or before index NO_TURNS).counts did.counts)
    (get_or_default after index other NO_TURNS in_after)

-- what all nodes do in most turns of a column
pub column_read : (window : Window) (chip : Chip) (column begin end : ℕ)
    (before after : List NodeTurns) → begin ≡ bound window column
    → end ≡ bound window (column + 1) → before ≡ up_to (bound window column) chip
    → after ≡ up_to (bound window (column + 1)) chip
    → most_by before after (end - begin) ≡ column_in window chip column
unfolding column_in
column_read window chip column begin end before after begins ends is_before is_after =
    ap₂ (λ from to. most_by before after (to - from)) begins ends
    ∙ ap₂ (λ old new. most_by old new (bound window (column + 1) - bound window column))
    is_before is_after

-- each column has one kind for each node
pub column_count : (before after : List NodeTurns) (turns column : ℕ) (kinds new : List Kind)
    → length kinds ≡ column * 144 → new ≡ kinds ++ most_by before after turns
    → length new ≡ (column + 1) * 144
column_count before after turns column kinds new so_far is =
    let more = length-map-range_with_len (most_at before after turns) 0 144 in
    let one : column * 144 + 144 ≡ (column + 1) * 144 = omega arith in
    ap length is ∙ length-append kinds (most_by before after turns) ∙ ap₂ (λ a b. a + b) so_far more
    ∙ one

-- ---- the begin of the first column, and the end of the last one

pub first_begin : (window : Window) → bound window 0 ≡ min window.first window.end
first_begin window = omega arith

pub last_end : (window : Window) → bound window (columns_of window) ≡ window.end
last_end window =
    let turns = length_of window in
    let stride = stride_of window in
    let some : 0 < stride = omega arith in
    let enough : turns + (stride - 1) < columns_of window * stride + stride =
    lt-div-mul-add {a = turns + (stride - 1)} {b = stride} some in
    min-eq_right {n = window.end} {m = window.first + columns_of window * stride} (omega arith)
