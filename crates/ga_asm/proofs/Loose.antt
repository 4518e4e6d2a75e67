-- Items outside brackets define no labels, and are no `data`.
use Rattle.std.proofs.Common.{◌≡◌, ℕ, true, Option, arith}
use Rattle.std.proofs.lemmas.Grind.{common_steps}
use Rattle.ga_pack.specs.Model.Layout.{Labels, fits, is_loose}
use Rattle.ga_pack.specs.Model.Source.{Item}
use Rattle.ga_asm.specs.inner.Layout.{data_after, joins_open, labels_with, Open}

pub loose_labels : (labels : Labels) (address : ℕ) (x : Item) → is_loose x ≡ true
    → labels_with labels address x ≡ labels
loose_labels labels address x h = grind (arith, common_steps)

pub loose_data : (start : Option ℕ) (address : ℕ) (x : Item) → is_loose x ≡ true
    → data_after start address x ≡ start
loose_data start address x h = grind (arith, common_steps)

pub joins_loose : (labels : Labels) (word : Open) (x : Item) → joins_open labels word x ≡ true
    → is_loose x ≡ true
unfolding fits
joins_loose labels word x h = grind (arith, common_steps)
