-- What a step on the table enters.
use Rattle.std.specs.Prelude.{◌≡◌, ◌≢◌, ℕ, zero, suc, ◌-◌, ◌*◌, ◌==◌, ◌<◌, ◌≤◌, ◌^◌, if◌then◌else◌, List, [], ◌∷◌, drop, get_or, Option, Some, None}
use Rattle.atomic_table.specs.Table.{Me}
use Rattle.ga_chip.specs.declared.outcome.Try.{Try}
use Rattle.ga_port.specs.declared.seat.Holding.{Holding}
use Rattle.ga_port.specs.Seat.{tried_in}

-- a cell is empty, or holds a word of 18 bits and a bit above it
abbrev pub IsCellWord : ℕ → Type 0
IsCellWord held = (held < 2 ^ 19) × (held ≢ 0 → 262144 ≤ held)

-- the word pending in a cell that holds this
abbrev pub pending_of : ℕ → Option ℕ
pending_of held = if held == 0 then None else Some (held - 262144)

-- where the table has the word of a cell
abbrev pub place_of : ℕ → ℕ
place_of cell = 8 * cell

-- the words pending in as many cells, by the words of the table
abbrev pub pending_cells : ℕ → List ℕ → List (Option ℕ)
pending_cells zero words = []
pending_cells (suc count) words =
    pending_of (get_or words 0 0) ∷ pending_cells count (drop 8 words)

-- a step enters a try that found nothing
abbrev pub Enters : Try → Me ℕ (List (Option Holding)) → Me ℕ (List (Option Holding)) → Type 0
Enters what old new = new ≡ (tried_in old.0 what None, old.1)

-- a step enters a try that found what the cell held
abbrev pub EntersFound : Try → ℕ → Me ℕ (List (Option Holding)) → Me ℕ (List (Option Holding))
    → Type 0
EntersFound what held old new =
    IsCellWord held × (new ≡ (tried_in old.0 what (pending_of held), old.1))

-- a step enters a try that found nothing if the cell was empty, else none
abbrev pub EntersEmpty : Try → ℕ → Me ℕ (List (Option Holding)) → Me ℕ (List (Option Holding))
    → Type 0
EntersEmpty what held old new =
    IsCellWord held × (new ≡ (if held == 0 then tried_in old.0 what None else old.0, old.1))
