-- What a waveform shows of a node in a turn.
use Rattle.std.specs.Prelude.{ℕ, ◌==◌, Bool, ◌&&◌, not, Option, Some, unwrap_or, if◌then◌else◌}
use Rattle.std.specs.Option.{option_and_then}
use Rattle.ga_place.specs.Address.{where_is}
use Rattle.ga_place.specs.Cell.{cell_of}
use Rattle.ga_place.specs.Side.{side_bit}
use Rattle.ga_place.specs.declared.side.Side.{Side}
use Rattle.ga_place.specs.declared.side.Side.TheVariants.{Right, Down, Left, Up}
use Rattle.ga_node.specs.Need.{need_of}
use Rattle.ga_node.specs.State.{State, reset_state}
use Rattle.ga_chip.specs.Chip.{Chip, pending, state_of}
use Rattle.ga_chip.specs.Run.{stands_held}
use Rattle.ga_trace.specs.At.{at_word}
use Rattle.ga_trace.specs.Rest.{spins}
use Rattle.ga_wave.specs.declared.deed.Did.{Did}
use Rattle.ga_wave.specs.declared.deed.Did.TheVariants.{Held, Spins}
use Rattle.ga_wave.specs.declared.deed.Intent.{Intent}
use Rattle.ga_wave.specs.declared.deed.Intent.TheVariants.{Post}
use Rattle.ga_wave.specs.declared.sample.Ports.{Ports}
use Rattle.ga_wave.specs.declared.sample.Registers.{Registers}
use Rattle.ga_wave.specs.declared.sample.Sample.{Sample}
use Rattle.ga_wave.specs.declared.sample.Stand.{Stand}
use Rattle.ga_wave.specs.Deed.{intent_of, rest_did, step_did}
use Rattle.ga_wave.specs.Work.{work_of}

-- the state of a node (each node of a chip has one)
abbrev pub state_at : Chip → ℕ → State
state_at chip name = unwrap_or (state_of chip name) (reset_state name)

-- ---- before the turn

abbrev pub address_of : State → ℕ
address_of state = at_word state.place state.p state.word

-- where a node stands: what it is about to do, whether it is held, whether it spins, its steps, the
-- address of the word in execution, and what it runs
abbrev pub stand_by : Bool → Bool → State → Stand
stand_by held spinning state = record {
  intent = intent_of (need_of state);
  held = held;
  spins = spinning;
  steps = state.steps;
  address = address_of state;
  reaches = where_is (address_of state);
  work = work_of state.place state.word;
}

abbrev pub stand_in : Chip → ℕ → Stand
stand_in chip name =
    stand_by (stands_held chip name) (spins chip name) (state_at chip name)

-- ---- in the turn

-- what the node did, by whether it made a step; a step of a node that spins is no work
abbrev pub did_of : Side → Stand → Bool → Did
did_of side stand moved =
    if moved && stand.spins then Spins
    else if moved then step_did side stand.intent
    else if stand.held then Held else rest_did stand.intent

-- ---- behind the turn

abbrev pub registers_of : State → Registers
registers_of state = record {
  p = state.p;
  t = state.t;
  s = state.s;
  r = state.r;
  a = state.a;
  b = state.b;
  io = state.io;
}

-- the word that a node posted at a side and that isn't read
abbrev pub pending_at : Chip → ℕ → Side → Option ℕ
pending_at chip name side = option_and_then (λ cell. pending chip cell) (cell_of name side)

-- The same behind a turn, by what the node was about to do. A word that was posted in the turn is
-- shown even if it was read in it.
abbrev pub word_at : Intent → Bool → Chip → ℕ → Side → Option ℕ
word_at (Post at word) moved chip name side =
    if moved && (side_bit at == side_bit side) then Some word else pending_at chip name side
word_at intent moved chip name side = pending_at chip name side

abbrev pub ports_of : Intent → Bool → Chip → ℕ → Ports
ports_of intent moved chip name = record {
  right = word_at intent moved chip name Right;
  down = word_at intent moved chip name Down;
  left = word_at intent moved chip name Left;
  up = word_at intent moved chip name Up;
}

-- What a turn with a side shows of a node, by where it stood before it and by the chip behind it. A
-- node whose count of steps grew made a step.
unfoldable pub sample_of : Side → Stand → Chip → ℕ → Sample
sample_of side stand chip name =
    let moved = not ((state_at chip name).steps == stand.steps) in record {
      stand = stand;
      did = did_of side stand moved;
      busy = moved && not stand.spins;
      registers = registers_of (state_at chip name);
      ports = ports_of stand.intent moved chip name;
    }
