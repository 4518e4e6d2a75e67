-- A node that spins goes on spinning, and reads no port.
use Rattle.std.proofs.Common.{◌≡◌, ◌∙◌, ap, ap₂, Bool, true, false, None, refl, sym, subst}
use Rattle.std.proofs.Common.{◌⊎◌, inl, inr}
use Rattle.std.specs.Prelude.{◌==◌, ◌-◌, ◌^◌, if◌then◌else◌, slice_index, unwrap_or}
use Rattle.ga_word.specs.Op.{op_with}
use Rattle.ga_word.specs.declared.op.Op.TheVariants as op
use Rattle.ga_pack.specs.Decoded.{reading_of}
use Rattle.ga_place.specs.Address.{where_is}
use Rattle.ga_node.specs.State.{State, dest_of, op_at, op_of, to_fetch}
use Rattle.ga_node.specs.Need.{need_at, need_of, op_need, read_need, slot_need, wants}
use Rattle.ga_node.specs.Fetch.{fetched, word_at}
use Rattle.ga_node.specs.Slot.{jumped, moved, row, slot_step, step, step_at, target_of}
use Rattle.ga_node.specs.declared.need.Need.{Need}
use Rattle.ga_node.specs.declared.need.Need.TheVariants as need
use Rattle.ga_node.specs.declared.need.Stop.TheVariants.{Counted}
use Rattle.ga_node.specs.declared.place.Place.TheVariants.{Fetch, Slot0}
use Rattle.ga_law_examples.specs.Spinning.{JUMP_000}

-- about to fetch the jump, or about to make it
abbrev StandsBefore : State → Type 0
StandsBefore state =
    ((state.place ≡ Fetch) × (state.p ≡ 0)) ⊎ ((state.place ≡ Slot0) × (state.word ≡ JUMP_000))

pub record Spins (state : State) : Type 0 where
  pub unposted : state.posted ≡ None
  -- the jump is at address 000
  pub jump : slice_index state.ram 0 ≡ JUMP_000
  pub stands : StandsBefore state

-- ---- its need

its_op : op_at Slot0 JUMP_000 ≡ op.Jump
unfolding op_with reading_of
its_op = refl

jumps : (state : State) → state.place ≡ Slot0 → state.word ≡ JUMP_000 → op_of state ≡ op.Jump
jumps state at word = ap₂ op_at at word ∙ its_op

wants_own : (state : State) → Spins state → wants state ≡ need.Own
wants_own state spins = by spins.stands
  where
    by : StandsBefore state → wants state ≡ need.Own
    by (inl (at, p)) = ap (λ pl. need_at pl state) at ∙ ap (λ a. read_need (where_is a)) p
    by (inr (at, word)) =
        ap (λ pl. need_at pl state) at
        ∙ ap (λ post. slot_need post (op_of state) state) spins.unposted
        ∙ ap (λ o. op_need o state) (jumps state at word)

-- its own work, or none at the end of the count of steps
abbrev pub IsOwn : Need → Type 0
IsOwn n = (n ≡ need.Own) ⊎ (n ≡ need.Stopped Counted)

pub need_own : (state : State) → Spins state → IsOwn (need_of state)
unfolding need_of
need_own state spins = by (state.steps == 2 ^ 64 - 1)
  where
    by : (last : Bool) → IsOwn (if last then need.Stopped Counted else wants state)
    by true = inr refl
    by false = inl (wants_own state spins)

-- ---- its step

its_dest : (state : State) → state.word ≡ JUMP_000 → dest_of state ≡ 0
unfolding op_with reading_of
its_dest state word = ap (λ w. unwrap_or (reading_of w).dest 0) word

-- the step without its count, as it is counted
counted : (state next : State) → Spins next → moved state None ≡ next → Spins (step state None)
unfolding step
counted state next spins is =
    let same = subst Spins (sym is) spins in
    record { unposted = same.unposted; jump = same.jump; stands = same.stands }

pub step_spins : (state : State) → Spins state → Spins (step state None)
unfolding row
step_spins state spins = by spins.stands
  where
    by : StandsBefore state → Spins (step state None)
    by (inl (at, p)) =
        counted state (fetched state None)
        (record {
          unposted = spins.unposted;
          jump = spins.jump;
          stands = inr (refl, ap (λ a. word_at a state None) p ∙ spins.jump);
        })
        (ap (λ pl. step_at pl state None) at)
    by (inr (at, word)) =
        counted state (to_fetch (jumped state))
        (record {
          unposted = spins.unposted;
          jump = spins.jump;
          stands = inl
              (refl, ap (λ pl. target_of pl state.p (dest_of state)) at ∙ its_dest state word);
        })
        (ap (λ pl. step_at pl state None) at
        ∙ ap (λ post. slot_step post state None) spins.unposted
        ∙ ap (λ o. row o state None) (jumps state at word))
