-- What a node is watched for: its breakpoints, and a pass.
use Rattle.std.specs.Prelude.{Bool, List}

pub record WatchView : Type 0 where
  -- which of the 512 addresses are breakpoints
  pub breaks : List Bool
  -- whether the next fetch passes a breakpoint
  pub pass : Bool
