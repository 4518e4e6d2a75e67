-- What the law of stuck nodes promises for a node's state.
use Rattle.std.proofs.Common.{◌≡◌, ◌∙◌, ap, ℕ, Bool, false, true, List, Option, Some, None}
use Rattle.std.proofs.Common.{refl, sym}
use Rattle.std.specs.Prelude.{option_map}
use Rattle.std.specs.Option.{option_map_or}
use Rattle.std.proofs.lemmas.Bool.{false≢true}
use Rattle.ga_chip.specs.Part.{Part}
use Rattle.ga_chip.specs.Chip.{Chip, part_of, state_of}
use Rattle.ga_chip.specs.Run.{Event, ran}
use Rattle.ga_chip.specs.Stuck.{IsClosed, LeavesStuck, is_stuck}

-- a node of a closed set has a part
has_part : (chip : Chip) (inside : ℕ → Bool) (name : ℕ) → IsClosed chip inside → inside name ≡ true
    → (part : Part) × (part_of chip name ≡ Some part)
has_part chip inside name closed member = by (part_of chip name) refl
  where
    by : (o : Option Part) → part_of chip name ≡ o → (part : Part) × (part_of chip name ≡ Some part)
    by None there =
        let no = ap (λ o. option_map_or (is_stuck inside chip.cells) o false) there in
        absurd (false≢true (sym no ∙ closed name member))
    by (Some part) there = (part, there)

pub state_kept : (chip : Chip) (events : List Event) (inside : ℕ → Bool) (name : ℕ)
    → IsClosed chip inside → LeavesStuck chip events inside → inside name ≡ true
    → state_of (ran chip events) name ≡ state_of chip name
state_kept chip events inside name closed left member =
    let old = has_part chip inside name closed member in
    let now = has_part (ran chip events) inside name left.closed member in
    ap (option_map (λ part. part.state)) now.1
    ∙ ap Some (left.parts name old.0 now.0 member old.1 now.1).state
    ∙ sym (ap (option_map (λ part. part.state)) old.1)
