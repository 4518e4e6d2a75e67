-- The image of one node, and its first fault.
use Rattle.std.specs.Prelude.{◌≡◌, ◌≢◌, ℕ, List, [], ◌∷◌, ◌++◌, length}
use Rattle.ga_pack.specs.Model.Layout.{names_in}
use Rattle.ga_pack.specs.Model.LayoutFault.{AllPass, fault_place}
use Rattle.ga_pack.specs.Model.Program.{PlacedItem}
use Rattle.ga_pack.specs.Model.Source.{Item}
use Rattle.ga_pack.specs.Model.Text.{Place}
use Rattle.ga_pack.specs.declared.error_kind.AsmErrorKind.TheVariants.{Memory}
use Rattle.ga_asm.specs.Image.{ImageView, IsImage}
use Rattle.ga_pack.specs.declared.error_kind.AsmErrorKind.{AsmErrorKind}

-- an image of items without a fault
pub record IsFaultless (items : List Item) (image : ImageView) : Type 0 where
  pub image_is : IsImage items image
  pub passed : AllPass (names_in items) [] items

-- the place at which a fault of the item with this index is reported
pub record IsPlaceOf (items : List PlacedItem) (at : ℕ) (place : Place) : Type 0 where
  pub front : List PlacedItem
  pub item : PlacedItem
  pub back : List PlacedItem
  pub split : items ≡ front ++ item ∷ back
  pub at_is : at ≡ length front
  pub place_is : place ≡ fault_place item

-- a fault of the item with this index is reported, unless it is out of memory
abbrev pub IsReported : List PlacedItem → ℕ → AsmErrorKind → AsmErrorKind → Place → Type 0
IsReported items at kind reported place =
    reported ≢ Memory → (kind ≡ reported) × IsPlaceOf items at place
