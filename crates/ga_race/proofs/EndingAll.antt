-- Each name is that of a node that was looked at, or of no node.
use Rattle.std.proofs.Common.{◌≡◌, ◌<◌, ◌⊎◌, ℕ, Bool, true, List, Option, Some, None, ap, inl, inr, refl, subst, sym, ◌∙◌}
use Rattle.std.specs.Prelude.{get_or, false, option_map}
use Rattle.std.specs.Option.{option_map_or}
use Rattle.std.proofs.lemmas.Option.{none-some, same_Some, slice_get_within}
use Rattle.ga_place.specs.Cell.{index_of}
use Rattle.ga_place.proofs.Cells.{name_back}
use Rattle.ga_node.specs.State.{State}
use Rattle.ga_chip.specs.declared.outcome.Outcome.TheVariants.{Waits}
use Rattle.ga_chip.specs.Part.{Part}
use Rattle.ga_chip.specs.Chip.{Chip, part_of, state_of, tried}
use Rattle.ga_chip.specs.Legal.{IsLegal}
use Rattle.ga_chip.proofs.Tries.{tried_none}
use Rattle.ga_race.specs.Rounds.{HasNoBreaks}
use Rattle.ga_race.specs.Spins.{IsRestOrSpins, IsResting, IsSpinning, RestsOrSpins, ShowsSpins}
use Rattle.ga_node.specs.Spins.{Spins}

-- a name of no node rests
none_rests : (chip : Chip) (name : ℕ) → part_of chip name ≡ None → IsResting chip name
none_rests chip name e side =
    let waits : (tried chip name side).0 ≡ Waits = ap (λ r. r.0) (tried_none chip name side e) in
    (λ moved. cc (waits, moved), λ held. cc (waits, held))

-- if a list shows that each node rests or spins, so does each name
pub all_names : (chip : Chip) (spins : List Bool) → IsLegal chip → ShowsSpins chip spins
    → IsRestOrSpins chip
all_names chip spins legal each name = by (part_of chip name) refl
  where
    one : (does : Bool) → RestsOrSpins chip name does → IsResting chip name ⊎ IsSpinning chip name
    one true spin = inr spin
    one false rest = inl rest

    by : (o : Option Part) → part_of chip name ≡ o → IsResting chip name ⊎ IsSpinning chip name
    by None e = inl (none_rests chip name e)
    by (Some part) e =
        let within : index_of name < 144 =
        subst (λ n. index_of name < n) legal.parts
        (slice_get_within chip.parts (index_of name) part e) in
        one (get_or spins (index_of name) false)
        (subst (λ n. RestsOrSpins chip n (get_or spins (index_of name) false))
        (name_back name within) (each (index_of name) within))

-- a node has no breakpoint if none has
pub unbroken_part : (chip : Chip) (name : ℕ) (part : Part) → part_of chip name ≡ Some part
    → HasNoBreaks chip → (address : ℕ) → get_or part.breaks address false ≡ false
unbroken_part chip name part e free address =
    sym (ap (λ o. option_map_or (λ (p : Part). get_or p.breaks address false) o false) e)
    ∙ free name address

-- a node whose state spins, if it has no breakpoint
pub spins_here : (chip : Chip) (name : ℕ) (state : State) → Some state ≡ state_of chip name
    → Spins state → HasNoBreaks chip → IsSpinning chip name
spins_here chip name state is spins free = by (part_of chip name) refl
  where
    by : (o : Option Part) → part_of chip name ≡ o → IsSpinning chip name
    by None e =
        absurd (none-some state (sym (is ∙ ap (option_map (λ (part : Part). part.state)) e)))
    by (Some part) e =
        let same : state ≡ part.state =
        same_Some state part.state (is ∙ ap (option_map (λ (part : Part). part.state)) e) in
        record {
          part = part;
          there = e;
          spins = subst Spins same spins;
          unbroken = unbroken_part chip name part e free;
        }
