-- What the chip has of one node, what a try of the node asks for, and what the node is afterwards.
use Rattle.std.specs.Prelude.{◌≡◌, ℕ, ◌+◌, ◌%◌, ◌^◌, Bool, true, false, ◌&&◌, not, if◌then◌else◌, List, [], ◌∷◌, get_or, Option, Some, None}
use Rattle.ga_place.specs.Cell.{cell_of, read_cell}
use Rattle.ga_place.specs.Side.{is_among, one_side}
use Rattle.ga_place.specs.declared.side.Side.{Side}
use Rattle.ga_place.specs.declared.side.Side.TheVariants.{Right, Down, Left, Up}
use Rattle.ga_place.specs.declared.side.Sides.{Sides}
use Rattle.ga_node.specs.State.{State, is_fetch}
use Rattle.ga_node.specs.Need.{need_of, stop_of}
use Rattle.ga_node.specs.Slot.{step}
use Rattle.ga_node.specs.declared.need.Need.{Need}
use Rattle.ga_node.specs.declared.need.Need.TheVariants as need
use Rattle.ga_node.specs.declared.place.Place.TheVariants.{Fetch}
use Rattle.ga_chip.specs.declared.outcome.Outcome.{Outcome}
use Rattle.ga_chip.specs.declared.outcome.Outcome.TheVariants.{Moved, Waits, Held, Stopped}

-- a number for each side
pub record Counts : Type 0 where
  pub right : ℕ
  pub down : ℕ
  pub left : ℕ
  pub up : ℕ

-- the number at a side
abbrev pub count_at : Side → Counts → ℕ
count_at Right counts = counts.right
count_at Down counts = counts.down
count_at Left counts = counts.left
count_at Up counts = counts.up

-- one more at a side
abbrev pub counted : Side → Counts → Counts
counted Right counts = record counts { right = counts.right + 1 }
counted Down counts = record counts { down = counts.down + 1 }
counted Left counts = record counts { left = counts.left + 1 }
counted Up counts = record counts { up = counts.up + 1 }

-- a node's part of the chip
pub record Part : Type 0 where
  pub state : State
  -- which of the 512 addresses are breakpoints
  pub breaks : List Bool
  -- whether the next fetch passes a breakpoint
  pub pass : Bool
  -- the words left of the node's stream, if one was given or opened
  pub stream : Option (List ℕ)
  -- whether the stream was opened, so that it goes on in pieces
  pub opened : Bool
  -- how many words the node has written at each side, and how many it has read there
  pub written : Counts
  pub read : Counts

-- What a try asks for.
pub data Asks : Type 0 where
  -- nothing: it is known that the node waits, is held or is stopped
  Nothing : Outcome → Asks
  -- the node's own work
  Own : Asks
  -- to take the next word of the node's stream
  Feed : ℕ → Asks
  -- to post a word at a side, in a cell
  Post : Side → ℕ → ℕ → Asks
  -- to take the word of a cell at a side
  Take : Side → ℕ → Asks
  -- to see that the word posted at a side, in a cell, was read
  Check : Side → ℕ → Asks

-- The side at which a take looks: its one side, or of several the one that the try names. At a side
-- that isn't one of several it doesn't look.
abbrev pub looked_at : Option Side → Sides → Side → Option Side
looked_at (Some only) sides side = Some only
looked_at None sides side = if is_among side sides then Some side else None

-- what a try asks for at a cell; at a side without a neighbour there is none, and the node waits
abbrev pub at_cell : (ℕ → Asks) → Option ℕ → Asks
at_cell ask (Some cell) = ask cell
at_cell ask None = Nothing Waits

abbrev pub take_from : ℕ → Option Side → Asks
take_from name (Some side) = at_cell (Take side) (read_cell name side)
take_from name None = Nothing Waits

-- the next word of the stream; without one the node waits
abbrev pub input_of : Option (List ℕ) → Asks
input_of (Some (word ∷ rest)) = Feed word
input_of (Some []) = Nothing Waits
input_of None = Nothing Waits

-- what a try asks for by the node's need, its name, its stream and the side that the try names
abbrev pub asks_by : Need → ℕ → Option (List ℕ) → Side → Asks
asks_by need.Own name stream side = Own
asks_by (need.Take sides) name stream side = take_from name (looked_at (one_side sides) sides side)
asks_by (need.Post to word) name stream side = at_cell (λ cell. Post to cell word) (cell_of name to)
asks_by (need.Check to) name stream side = at_cell (Check to) (cell_of name to)
asks_by need.Input name stream side = input_of stream
asks_by (need.Stopped stop) name stream side = Nothing Stopped

-- a node at a breakpoint asks for nothing; it is held, unless it is stopped
abbrev pub held_by : Need → Asks
held_by (need.Stopped stop) = Nothing Stopped
held_by _ = Nothing Held

-- A breakpoint holds the node: it is about to fetch, the low nine bits of P are a breakpoint, and
-- it has no pass. It may be stopped, too.
abbrev pub is_held : Part → Bool
is_held part =
    (is_fetch part.state.place)
    && ((not part.pass) && (get_or part.breaks (part.state.p % 2 ^ 9) false))

-- So a try is held if and only if its node isn't stopped, is about to fetch, the low nine bits of P
-- are a breakpoint, and it has no pass.
pub record StandsAtBreak (part : Part) : Type 0 where
  pub runs : stop_of (need_of part.state) ≡ None
  pub fetches : part.state.place ≡ Fetch
  pub breaks : get_or part.breaks (part.state.p % 2 ^ 9) false ≡ true
  pub unpassed : part.pass ≡ false

abbrev pub asks_if : Bool → Part → Side → Asks
asks_if true part side = held_by (need_of part.state)
asks_if false part side = asks_by (need_of part.state) part.state.node part.stream side

-- What a try of a node that names a side asks for.
unfoldable pub asks : Part → Side → Asks
asks part side = asks_if (is_held part) part side

-- the side that the try names, if the need is a multiport read; otherwise it doesn't count
abbrev pub picked_of : Option Side → Side → List Side
picked_of (Some only) side = []
picked_of None side = side ∷ []

abbrev pub picked_by : Need → Side → List Side
picked_by (need.Take sides) side = picked_of (one_side sides) side
picked_by _ side = []

-- the node makes a step with the word that it got, if it got one; a fetch ends a pass
abbrev pub stepped : Option ℕ → Part → Part
stepped word part = record part
    { state = step part.state word; pass = part.pass && not (is_fetch part.state.place) }

-- the stream without its next word
abbrev pub rest_of : Option (List ℕ) → Option (List ℕ)
rest_of (Some (word ∷ rest)) = Some rest
rest_of (Some []) = Some []
rest_of None = None

-- The outcome of a try and the node's part afterwards, by what the try asks for and the word that
-- it found pending in that cell. A check goes on if it finds nothing, and a take if it finds a
-- word.
abbrev pub after_asked : Asks → Option ℕ → Part → Outcome × Part
after_asked (Nothing outcome) found part = (outcome, part)
after_asked Own found part = (Moved, stepped None part)
after_asked (Feed fed) found part =
    (Moved, stepped (Some fed) (record part { stream = rest_of part.stream }))
after_asked (Post side cell word) found part =
    (Moved, stepped None (record part { written = counted side part.written }))
after_asked (Check side cell) None part = (Moved, stepped None part)
after_asked (Check side cell) (Some word) part = (Waits, part)
after_asked (Take side cell) (Some word) part =
    (Moved, stepped (Some word) (record part { read = counted side part.read }))
after_asked (Take side cell) None part = (Waits, part)

-- The outcome of a try that names a side, and the node's part afterwards, if the try found this
-- word pending in the cell that it asks for.
unfoldable pub after : Part → Side → Option ℕ → Outcome × Part
after part side found = after_asked (asks part side) found part
