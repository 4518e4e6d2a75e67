-- What an observer keeps of the paths of a run.
use Rattle.std.specs.Prelude.{◌≡◌, ℕ, ◌<◌, List, get_or, length, reverse, set, Option, Some, None, replicate}
use Rattle.ga_observe.specs.declared.step.Step.{Step}
use Rattle.ga_profile.specs.declared.trail.Trail.{Trail}
use Rattle.ga_profile.specs.NodeTurns.{more}
use Rattle.ga_profile.specs.Path.{Path, last_turn, path_to, turns_of, turns_up_to}

abbrev pub NO_TRAIL : Trail
NO_TRAIL = record { last = None; turns = replicate 715 0 }

-- a trail with one more step, of a kind
abbrev pub lengthened : ℕ → Trail → ℕ → ℕ → Trail
lengthened from trail turn kind = record {
  last = Some turn;
  turns = set trail.turns kind
      (more (get_or trail.turns kind 0) (turns_up_to from trail.last turn));
}

abbrev pub trail_last : List Trail → ℕ → Option ℕ
trail_last trails mark = (get_or trails mark NO_TRAIL).last

-- A trail has the turn of the last step of a path, and the turns of each kind of step.
pub record IsTrailOf (kind_of : Step → ℕ) (path : Path) (trail : Trail) : Type 0 where
  pub last : trail.last ≡ last_turn path
  pub kinds : length trail.turns ≡ 715
  pub turns : (kind : ℕ) → kind < 715 → get_or trail.turns kind 0 ≡ turns_of kind_of kind path

-- The trails are those of the paths to the last steps with each mark.
pub record KeptTrails (from : ℕ) (kind_of : Step → ℕ) (trails : List Trail) (steps : List Step)
    : Type 0 where
  pub each : (mark : ℕ) → mark < 1296
      → IsTrailOf kind_of (path_to from mark (reverse steps)) (get_or trails mark NO_TRAIL)
