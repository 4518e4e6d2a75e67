-- Values that are read, one word at a time.
use Rattle.std.proofs.Common.{◌≡◌, ◌∙◌, ℕ, suc, ◌+◌, ◌-◌, ◌<◌, List, ◌∷◌, ap, arith, sym}
use Rattle.std.specs.Prelude.{Option, Some, set}
use Rattle.std.specs.Option.{option_and_then}
use Rattle.ga_path.specs.Stream.{Images}
use Rattle.ga_trace.specs.declared.what.Value.{Value}
use Rattle.ga_trace.specs.declared.what.What.{What}
use Rattle.ga_debug.specs.Command.{Words, values_from}
use Rattle.ga_debug.specs.Values.{value_in}

-- one value more
pub value_next : (images : Images) (node : ℕ) (what : What) (most index : ℕ)
    (values : List (Option Value)) (words rest : Words) (word : List ℕ) (value : Value)
    (whole : Option (List (Option Value) × Words)) → index < most → words ≡ word ∷ rest
    → value_in images node what word ≡ Some value
    → values_from images node what (most - index) index values words ≡ whole
    → values_from images node what (most - (index + 1)) (index + 1) (set values index (Some value))
    rest ≡ whole
value_next images node what most index values words rest word value whole within is reads so_far =
    let left = most - (index + 1) in
    let more : most - index ≡ suc left = omega (arith, within) in
    let one : index + 1 ≡ suc index = omega arith in
    ap (λ n. values_from images node what left n (set values index (Some value)) rest) one
    ∙ ap (λ (o : Option Value). option_and_then (λ v. values_from images node what left (suc index)
    (set values index (Some v)) rest) o) (sym reads)
    ∙ ap (λ ws. values_from images node what (suc left) index values ws) (sym is)
    ∙ ap (λ n. values_from images node what n index values words) (sym more) ∙ so_far
