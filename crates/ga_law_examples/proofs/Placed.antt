-- Placing images sets no breakpoint.
use Rattle.std.proofs.Common.{◌≡◌, ◌∙◌, ap, sym, refl, ℕ, zero, suc, Bool, false, List, [], ◌∷◌, map, replicate, slice_get, Option, Some, None}
use Rattle.std.specs.Prelude.{get_or, option_map}
use Rattle.std.specs.List.{range_with_len}
use Rattle.std.specs.Option.{option_map_or}
use Rattle.std.proofs.lemmas.Option.{slice_get-map}
use Rattle.std.proofs.Math.Seq.{map-set_same}
use Rattle.ga_place.specs.Cell.{index_of, name_at}
use Rattle.ga_path.specs.Stream.{Images}
use Rattle.ga_chip.specs.declared.error.ChipError.{ChipError}
use Rattle.ga_chip.specs.Part.{Part}
use Rattle.ga_chip.specs.Chip.{Chip, given, part_of, placed, refusal, reset_chip, reset_part, unless_refused, with_changed}
use Rattle.ga_chip.specs.Run.{has_break}
use Rattle.ga_debug.specs.Beginning.{all_placed}
use Rattle.ga_race.specs.Rounds.{HasNoBreaks}

-- the breakpoints of the nodes, by index
abbrev breaks_of : Chip → List (List Bool)
breaks_of chip = map (λ part. part.breaks) chip.parts

-- the breakpoint that is looked up, in those of a node if it is there
abbrev break_in : ℕ → Option (List Bool) → Bool
break_in at breaks = option_map_or (λ there. get_or there at false) breaks false

looked_up : (at : ℕ) (part : Option Part)
    → option_map_or (λ (p : Part). get_or p.breaks at false) part false
    ≡ break_in at (option_map (λ (p : Part). p.breaks) part)
looked_up at None = refl
looked_up at (Some part) = refl

by_breaks : (chip : Chip) (name at : ℕ)
    → has_break chip name at ≡ break_in at (slice_get (breaks_of chip) (index_of name))
by_breaks chip name at =
    looked_up at (part_of chip name)
    ∙ ap (break_in at) (sym (slice_get-map (λ (p : Part). p.breaks) chip.parts (index_of name)))

-- ---- a chip after reset has none

none_kept : (count at : ℕ) → get_or (replicate count false) at false ≡ false
none_kept zero at = refl
none_kept (suc count) zero = refl
none_kept (suc count) (suc at) = none_kept count at

none_after : (at : ℕ) (index : Option ℕ)
    → option_map_or (λ (p : Part). get_or p.breaks at false)
    (option_map (λ i. reset_part (name_at i)) index) false ≡ false
none_after at None = refl
none_after at (Some index) = none_kept 512 at

reset_none : HasNoBreaks reset_chip
unfolding reset_chip
reset_none name at =
    ap (λ o. option_map_or (λ (p : Part). get_or p.breaks at false) o false)
    (slice_get-map (λ i. reset_part (name_at i)) (range_with_len 0 144) (index_of name))
    ∙ none_after at (slice_get (range_with_len 0 144) (index_of name))

-- ---- placing keeps them

found : (parts : List Part) (index : ℕ) (part : Part) → slice_get parts index ≡ Some part
    → get_or parts index part ≡ part
found [] index part is = refl
found (first ∷ parts) zero part is = cc
found (first ∷ parts) (suc index) part is = found parts index part is

placed_keeps : (chip : Chip) (name : ℕ) (words : List ℕ) (entry : ℕ)
    → breaks_of (placed chip name words entry) ≡ breaks_of chip
unfolding placed
placed_keeps chip name words entry = by (part_of chip name) refl
  where
    by : (part : Option Part) → part_of chip name ≡ part
        → breaks_of (with_changed (given words entry) (part_of chip name) chip name)
        ≡ breaks_of chip
    by None is = ap (λ o. breaks_of (with_changed (given words entry) o chip name)) is
    by (Some part) is =
        ap (λ o. breaks_of (with_changed (given words entry) o chip name)) is
        ∙ map-set_same (λ (p : Part). p.breaks) chip.parts (index_of name)
        (given words entry part) part
        (ap (λ (p : Part). p.breaks) (sym (found chip.parts (index_of name) part is)))

unless_keeps : (refused : Option ChipError) (changed chip : Chip)
    → breaks_of changed ≡ breaks_of chip
    → breaks_of (unless_refused refused changed chip) ≡ breaks_of chip
unless_keeps None changed chip same = same
unless_keeps (Some fault) changed chip same = refl

all_keep : (images : Images) (chip : Chip) → breaks_of (all_placed images chip) ≡ breaks_of chip
all_keep [] chip = refl
all_keep (image ∷ images) chip =
    let next = placed chip image.0 image.1.words image.1.entry in
    all_keep images (unless_refused (refusal chip image.0) next chip)
    ∙ unless_keeps (refusal chip image.0) next chip
    (placed_keeps chip image.0 image.1.words image.1.entry)

pub placed_unbroken : (images : Images) (chip : Chip) → chip ≡ all_placed images reset_chip
    → HasNoBreaks chip
placed_unbroken images chip is name at =
    by_breaks chip name at
    ∙ ap (λ breaks. break_in at (slice_get breaks (index_of name)))
    (ap breaks_of is ∙ all_keep images reset_chip)
    ∙ sym (by_breaks reset_chip name at) ∙ reset_none name at
