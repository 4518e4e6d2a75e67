-- Turns until a node is held at an address.
use Rattle.std.specs.Prelude.{ℕ, zero, suc, ◌+◌, ◌-◌, ◌==◌, Bool, ◌&&◌, not, Option, Some, None, if◌then◌else◌}
use Rattle.ga_chip.specs.Chip.{Chip}
use Rattle.ga_chip.specs.Run.{ClearBreak, SetBreak, happened, has_break}
use Rattle.ga_trace.specs.Traced.{moved_in, turned}
use Rattle.ga_debug.specs.declared.until.Reached.{Reached}
use Rattle.ga_debug.specs.Breaks.{is_held_at}

-- a node that is held at an address isn't held there any more
abbrev pub let_go : ℕ → ℕ → Chip → Chip
let_go node at chip = if is_held_at chip node at then happened chip (ClearBreak node at) else chip

-- a node that was held at an address and went on has one pass less
abbrev pub passes_left : ℕ → ℕ → ℕ → Chip → Chip → ℕ
passes_left node at passes old new =
    if is_held_at old node at && not (is_held_at new node at) then passes - 1 else passes

-- The turn of a number, in which a node isn't held at an address, which is a breakpoint behind it:
-- how many passes are left and how many steps it makes, and the chip afterwards.
abbrev pub turn_past : ℕ → ℕ → ℕ → ℕ → Chip → (ℕ × ℕ) × Chip
turn_past node at passes turn chip =
    let free = let_go node at chip in
    let next = happened (turned turn free) (SetBreak node at) in
    ((passes_left node at passes chip next, moved_in turn free), next)

-- it is held there, and has passed as often as it should
abbrev pub is_there : ℕ → ℕ → ℕ → Chip → Bool
is_there node at passes chip = is_held_at chip node at && (passes == 0)

-- At most `left` turns, behind `turn` of them that moved nodes `moved` times: until a node is held
-- at an address, after as many passes as it should make.
abbrev pub until_from : ℕ → ℕ → ℕ → ℕ → ℕ → ℕ → Chip → Option Reached × Chip
until_from zero turn moved passes node at chip = (
  if is_there node at passes chip then Some (record { turns = turn; moved = moved }) else None,
  chip,
)
until_from (suc left) turn moved passes node at chip =
    let next = turn_past node at passes turn chip in
    if is_there node at passes chip then (Some (record { turns = turn; moved = moved }), chip)
    else until_from left (suc turn) (moved + next.0.1) next.0.0 node at next.1

-- How many turns it took and how often they moved nodes, if the node was held there; and the chip
-- afterwards. The address is a breakpoint for that time, and afterwards if it was one before.
unfoldable pub until_done : ℕ → ℕ → ℕ → ℕ → Chip → Option Reached × Chip
until_done node at passes count chip =
    let end = until_from count 0 0 passes node at (happened chip (SetBreak node at)) in
    (end.0, if has_break chip node at then end.1 else happened end.1 (ClearBreak node at))
