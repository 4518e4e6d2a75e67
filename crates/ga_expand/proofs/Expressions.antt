-- The value of an expression in a form of its own, and of one without parts.
use Rattle.std.proofs.Common.{◌≡◌, ◌∙◌, ℕ, zero, suc, List, Option, Some, None, Ok, refl, sym, ap}
use Rattle.std.specs.Option.{option_map_or}
use Rattle.ga_expand.specs.Constants.{Constants}
use Rattle.ga_expand.specs.Expression.{behind_sign, by_parts, form_of, inside, parted, plain_operand, value_within}
use Rattle.ga_expand.specs.declared.value.Operand.{Operand}

by_form : (levels : ℕ) (constants : Constants) (text : List ℕ) (form : Option Operand)
    → form_of text ≡ form → value_within (suc levels) constants text
    ≡ option_map_or Ok form (by_parts constants text (value_within levels constants)
    (parted text) (inside text) (behind_sign text))
by_form levels constants text form is =
    ap (λ o. option_map_or Ok o (by_parts constants text (value_within levels constants)
    (parted text) (inside text) (behind_sign text))) is

pub in_form : (levels : ℕ) (constants : Constants) (text : List ℕ) (operand : Operand)
    → (levels ≡ 0 → ⊥) → form_of text ≡ Some operand
    → Ok operand ≡ value_within levels constants text
in_form zero constants text operand some is = absurd (some refl)
in_form (suc levels) constants text operand some is =
    sym (by_form levels constants text (Some operand) is)

pub without_parts : (levels : ℕ) (constants : Constants) (text : List ℕ) → (levels ≡ 0 → ⊥)
    → form_of text ≡ None → parted text ≡ None → inside text ≡ None → behind_sign text ≡ None
    → plain_operand constants text ≡ value_within levels constants text
without_parts zero constants text some form undivided bare unsigned = absurd (some refl)
without_parts (suc levels) constants text some form undivided bare unsigned =
    sym (by_form levels constants text None form ∙ rw (undivided, bare, unsigned) refl)
