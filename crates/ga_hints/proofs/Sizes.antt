-- Labels that have no address.
use Rattle.std.proofs.Common.{◌≡◌, ◌||◌, ℕ, Bool, true, false, List, [], ◌∷◌, Some, refl, if◌then◌else◌}
use Rattle.std.specs.Option.{is_some}
use Rattle.std.specs.Str.{bytes_eq}
use Rattle.ga_pack.specs.Model.Layout.{Labels, address_of}
use Rattle.ga_pack.specs.Model.Source.{is_among}
use Rattle.ga_asm.specs.inner.Layout.{names_of}

not_among_by : (name : List ℕ) (label : List ℕ × ℕ) (labels : Labels) (b : Bool)
    → (is_some (address_of labels name) ≡ false → is_among name (names_of labels) ≡ false)
    → is_some (if b then Some label.1 else address_of labels name) ≡ false
    → (b || is_among name (names_of labels)) ≡ false
not_among_by name label labels true rest none = absurd (cc)
not_among_by name label labels false rest none = rest none

pub not_among : (name : List ℕ) (labels : Labels) → is_some (address_of labels name) ≡ false
    → is_among name (names_of labels) ≡ false
not_among name [] none = refl
not_among name (label ∷ labels) none =
    not_among_by name label labels (bytes_eq name label.0) (not_among name labels) none
