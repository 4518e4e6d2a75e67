-- P as an offset from a label of the node's image.
use Rattle.std.specs.Prelude.{ℕ, ◌-◌, ◌==◌, ◌&&◌, nat_le, nat_lt, List, [], ◌∷◌, ◌++◌, Option, Some, None, if◌then◌else◌}
use Rattle.std.specs.Borrow.{Bor}
use Rattle.std.specs.Fmt.{decimal}
use Rattle.std.specs.Option.{option_map_or}
use Rattle.ga_place.specs.declared.address.Where.{Where}
use Rattle.ga_place.specs.declared.address.Where.TheVariants.{Ram}
use Rattle.ga_pack.specs.Model.Layout.{Labels}
use Rattle.ga_asm.specs.Image.{ImageView, label_at}

-- the images whose labels are shown, or none
abbrev pub images_in : Option (Bor (List (ℕ × ImageView))) → List (ℕ × ImageView)
images_in None = []
images_in (Some images) = images.now

-- the address found so far, or that of one more label, if that is at or before an index and behind
-- the one found
abbrev pub nearer : ℕ → Option ℕ → ℕ → Option ℕ
nearer index None at = if nat_le at index then Some at else None
nearer index (Some found) at = if nat_le at index && nat_lt found at then Some at else Some found

abbrev pub nearest_from : ℕ → Option ℕ → Labels → Option ℕ
nearest_from index found [] = found
nearest_from index found (label ∷ labels) = nearest_from index (nearer index found label.1) labels

-- the greatest address of a label at or before an index
abbrev pub nearest : Labels → ℕ → Option ℕ
nearest labels index = nearest_from index None labels

-- the last label at or before an index of RAM, behind a blank, and how far the index is behind it
unfoldable pub label_text : Labels → ℕ → List ℕ
label_text labels index =
    elim (nearest labels index) [
      | None ↦ []
      | Some at ↦
          option_map_or (λ name. 32 ∷ name ++ (if index - at == 0 then []
          else 43 ∷ decimal (index - at))) (label_at labels at) []
    ]

-- only an address of RAM of a node that has an image has one
abbrev pub label_in : Option ImageView → Where → List ℕ
label_in (Some image) (Ram index) = label_text image.labels index
label_in image at = []
