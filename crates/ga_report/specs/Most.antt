-- What a node does in most of some turns.
use Rattle.std.specs.Prelude.{ℕ, ◌-◌, nat_lt, if◌then◌else◌}
use Rattle.ga_profile.specs.declared.node_turns.TurnCounts.{TurnCounts}
use Rattle.ga_report.specs.declared.kind.Kind.{Kind}
use Rattle.ga_report.specs.declared.kind.Kind.TheVariants.{Works, AwaitsWord, AwaitsReader, Spins, Stopped, Boots, Idle}
use Rattle.ga_report.specs.declared.most.Tally.{Tally}

-- the counts up to some turns less those up to others
unfoldable pub between : TurnCounts → TurnCounts → TurnCounts
between before after = record {
  boots = after.boots - before.boots;
  works = after.works - before.works;
  word_waits = after.word_waits - before.word_waits;
  reader_waits = after.reader_waits - before.reader_waits;
  spins = after.spins - before.spins;
  stops = after.stops - before.stops;
}

abbrev pub tally_of : Kind → ℕ → Tally
tally_of kind turns = record { kind = kind; turns = turns }

-- the one with more turns, or else the first
abbrev pub more_of : Tally → Tally → Tally
more_of one other = if nat_lt one.turns other.turns then other else one

-- the most that a node moves, and the most that it waits
abbrev pub most_acts : TurnCounts → Tally
most_acts counts =
    more_of (more_of (tally_of Works counts.works) (tally_of Spins counts.spins))
    (tally_of Boots counts.boots)

abbrev pub most_waits : TurnCounts → Tally
most_waits counts =
    more_of (more_of (tally_of AwaitsWord counts.word_waits)
    (tally_of AwaitsReader counts.reader_waits)) (tally_of Stopped counts.stops)

-- in all other turns it is idle
abbrev pub idle_turns : TurnCounts → ℕ → ℕ
idle_turns counts turns =
    turns - counts.boots - counts.works - counts.word_waits - counts.reader_waits - counts.spins
    - counts.stops

-- What a node does in most of some turns; of two that are as many, moves come before waits, and
-- these before being idle.
unfoldable pub most_of : TurnCounts → ℕ → Kind
most_of counts turns =
    (more_of (more_of (most_acts counts) (most_waits counts))
    (tally_of Idle (idle_turns counts turns))).kind
