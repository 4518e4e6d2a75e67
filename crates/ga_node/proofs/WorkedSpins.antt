-- Worked values of spins: a node that jumps to itself spins, with a period of two steps.
use Rattle.std.proofs.Common.{◌≡◌, ℕ, zero, suc, ◌<◌, [], ◌∷◌, None, true, refl, arith}
use Rattle.ga_word.specs.Op.{op_with}
use Rattle.ga_pack.specs.Decoded.{reading_of}
use Rattle.ga_node.specs.State.{State, loaded_state}
use Rattle.ga_node.specs.Need.{wants}
use Rattle.ga_node.specs.Slot.{row, step}
use Rattle.ga_node.specs.declared.need.Need.TheVariants.{Own}
use Rattle.ga_node.specs.Running.{own_run}
use Rattle.ga_node.specs.Spins.{Spins, is_spinning}
use Rattle.ga_node.proofs.Spun.{spinning_Decides}
use Rattle.ga_node.proofs.Uncounted.{spins_next}

-- the word at address 0 is a jump to address 0, and was fetched before
abbrev jumping : State
jumping = record (loaded_state 0 (0x10000 ∷ []) 0) { word = 0x10000 }

-- the fetch and the jump are the node's own work
own : (steps : ℕ) → steps < 2 → wants (own_run steps jumping) ≡ Own
unfolding step row reading_of op_with
own zero below = refl
own (suc zero) below = refl
own (suc (suc steps)) below = absurd (omega arith)

-- they lead back
spins : Spins jumping
unfolding step row reading_of op_with
spins = record { period = 2; some = omega arith; own = own; back = refl }

-- it still spins between the fetch and the jump
between : Spins (step jumping None)
between = spins_next jumping spins

-- it is seen to spin
seen : is_spinning jumping ≡ true
unfolding spins
seen = (spinning_Decides jumping).1 (spins, omega arith)

-- the word at address 0 is `. jump 0`, and was fetched before
abbrev pausing : State
pausing = record (loaded_state 0 (0x2D700 ∷ []) 0) { word = 0x2D700 }

own_pausing : (steps : ℕ) → steps < 3 → wants (own_run steps pausing) ≡ Own
unfolding step row reading_of op_with
own_pausing zero below = refl
own_pausing (suc zero) below = refl
own_pausing (suc (suc zero)) below = refl
own_pausing (suc (suc (suc steps))) below = absurd (omega arith)

-- it spins, too, with a period of three steps
spins_pausing : Spins pausing
unfolding step row reading_of op_with
spins_pausing = record { period = 3; some = omega arith; own = own_pausing; back = refl }

seen_pausing : is_spinning pausing ≡ true
unfolding spins_pausing
seen_pausing = (spinning_Decides pausing).1 (spins_pausing, omega arith)
