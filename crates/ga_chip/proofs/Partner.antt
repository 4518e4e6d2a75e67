-- The neighbour with which a try has to do, by what the try asks for.
use Rattle.std.proofs.Common.{◌≡◌, ℕ, List, [], ◌∷◌, Option, Some, None, ap, refl}
use Rattle.std.specs.Option.{option_and_then}
use Rattle.ga_place.specs.Cell.{cell_of, read_cell}
use Rattle.ga_place.specs.Side.{neighbour_of, one_side}
use Rattle.ga_place.specs.declared.side.Side.{Side}
use Rattle.ga_node.specs.declared.need.Need.{Need}
use Rattle.ga_node.specs.declared.need.Need.TheVariants as need
use Rattle.ga_chip.specs.Asks.{told_as}
use Rattle.ga_chip.specs.Part.{Check, Post, Take, asks_by, at_cell, input_of, looked_at, take_from}
use Rattle.ga_chip.specs.inner.Partner.{HasPartner}

pub partner_told : (n : Need) (name : ℕ) (stream : Option (List ℕ)) (side : Side)
    → HasPartner (told_as (asks_by n name stream side)) name n side
partner_told need.Own name stream side = refl
partner_told (need.Take sides) name stream side =
    looking (looked_at (one_side sides) sides side) refl
  where
    there : (from : Side) → looked_at (one_side sides) sides side ≡ Some from → (o : Option ℕ)
        → HasPartner (told_as (at_cell (Take from) o)) name (need.Take sides) side
    there from is None = λ moved. cc
    there from is (Some cell) = ap (option_and_then (neighbour_of name)) is

    looking : (at : Option Side) → looked_at (one_side sides) sides side ≡ at
        → HasPartner (told_as (take_from name at)) name (need.Take sides) side
    looking None is = λ moved. cc
    looking (Some from) is = there from is (read_cell name from)
partner_told (need.Post to word) name stream side = there (cell_of name to)
  where
    there : (o : Option ℕ)
        → HasPartner (told_as (at_cell (λ cell. Post to cell word) o)) name (need.Post to word) side
    there None = λ moved. cc
    there (Some cell) = refl
partner_told (need.Check to) name stream side = there (cell_of name to)
  where
    there : (o : Option ℕ)
        → HasPartner (told_as (at_cell (Check to) o)) name (need.Check to) side
    there None = λ moved. cc
    there (Some cell) = refl
partner_told need.Input name stream side = fed stream
  where
    fed : (words : Option (List ℕ))
        → HasPartner (told_as (input_of words)) name need.Input side
    fed None = λ moved. cc
    fed (Some []) = λ moved. cc
    fed (Some (word ∷ words)) = refl
partner_told (need.Stopped stop) name stream side = λ moved. cc
