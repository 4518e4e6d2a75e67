-- Parts of a step of the watch, one after another.
use Rattle.std.specs.Prelude.{ℕ, Bool, ◌&&◌, ◌||◌, not, ◌==◌, if◌then◌else◌, Option, Some, None, is_some}
use Rattle.std.specs.List.{list_any}
use Rattle.ga_place.specs.Cell.{read_cell}
use Rattle.ga_place.specs.Side.{SIDES, is_among, side_bit}
use Rattle.ga_place.specs.declared.side.Side.{Side}
use Rattle.ga_place.specs.declared.side.Sides.{Sides}
use Rattle.ga_race.specs.Clocks.{Clock, joined, with_clock}
use Rattle.ga_race.specs.Watch.{Watch, kept_for, put_for, reads_cell, with_count}

-- the watch with another clock of a node, of a cell's last post, and of its last take
abbrev pub node_put : ℕ → Clock → Watch → Watch
node_put name clock watch = record watch
    { clocks = record watch.clocks { nodes = with_clock name clock watch.clocks.nodes } }

abbrev pub post_put : ℕ → Clock → Watch → Watch
post_put cell clock watch = record watch
    { clocks = record watch.clocks { posts = with_clock cell clock watch.clocks.posts } }

abbrev pub take_put : ℕ → Clock → Watch → Watch
take_put cell clock watch = record watch
    { clocks = record watch.clocks { takes = with_clock cell clock watch.clocks.takes } }

-- a node's count is put into its clock
abbrev pub ticked : ℕ → ℕ → Watch → Watch
ticked name count watch = node_put name (with_count name count (watch.clocks.nodes name)) watch

-- a node's clock is joined with that of a cell's last post or take
abbrev pub post_joined : ℕ → ℕ → Watch → Watch
post_joined name cell watch =
    node_put name (joined (watch.clocks.nodes name) (watch.clocks.posts cell)) watch

abbrev pub take_joined : ℕ → ℕ → Watch → Watch
take_joined name cell watch =
    node_put name (joined (watch.clocks.nodes name) (watch.clocks.takes cell)) watch

-- a node's clock is kept for a cell into which it posts, or from which it takes
abbrev pub post_kept : ℕ → ℕ → Watch → Watch
post_kept name cell watch = post_put cell (watch.clocks.nodes name) watch

abbrev pub take_kept : ℕ → ℕ → Watch → Watch
take_kept name cell watch = take_put cell (watch.clocks.nodes name) watch

-- a cell gets a word, or loses it
abbrev pub word_put : ℕ → Option ℕ → Watch → Watch
word_put cell word watch = record watch { words = put_for (Some cell) word watch.words }

-- a race is found, or not
abbrev pub race_put : Bool → Watch → Watch
race_put found watch = record watch { race = watch.race || found }

-- a cell is left out by a take with this count
abbrev pub left_put : ℕ → ℕ → Watch → Watch
left_put cell count watch = record watch { left_at = put_for (Some cell) count watch.left_at }

-- a take of these sides leaves out this one
abbrev pub is_left : Sides → Side → Side → Bool
is_left sides taken side = is_among side sides && not (side_bit side == side_bit taken)

-- the watch after it is known whether a take leaves out one side
abbrev pub side_left : ℕ → Sides → Side → ℕ → Side → Watch → Watch
side_left name sides taken count side watch = record watch {
  left_at = λ cell. if is_left sides taken side && reads_cell name cell side then count
      else watch.left_at cell;
  race = watch.race || (is_left sides taken side
      && is_some (kept_for None watch.words (read_cell name side)));
}

-- and each side
abbrev pub all_left : ℕ → Sides → Side → ℕ → Watch → Watch
all_left name sides taken count watch = record watch {
  left_at = λ cell. if list_any (λ side. is_left sides taken side
      && reads_cell name cell side) SIDES then count else watch.left_at cell;
  race = watch.race || list_any (λ side. is_left sides taken side
      && is_some (kept_for None watch.words (read_cell name side))) SIDES;
}
