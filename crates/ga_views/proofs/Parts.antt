-- A text to which parts are added.
use Rattle.std.proofs.Common.{◌≡◌, ◌∙◌, ℕ, List, [], ◌∷◌, ◌++◌, ap, append-nil, append_assoc, arith, sym}
use Rattle.std.specs.List.{concat}

pub two_parts : (old first then mid new : List ℕ) → mid ≡ old ++ first → new ≡ mid ++ then
    → new ≡ old ++ concat (first ∷ then ∷ [])
two_parts old first then mid new one two =
    two ∙ ap (λ t. t ++ then) one ∙ append_assoc old first then
    ∙ ap (λ t. old ++ (first ++ t)) (sym (append-nil then))

-- from an empty text on
pub six_parts : (start a b c d e f one two three four five : List ℕ) → start ≡ []
    → one ≡ start ++ a ++ b → two ≡ one ++ c → three ≡ two ++ d → four ≡ three ++ e
    → five ≡ four ++ f → five ≡ concat (a ∷ b ∷ c ∷ d ∷ e ∷ f ∷ [])
six_parts start a b c d e f one two three four five none is_one is_two is_three is_four is_five =
    grind (arith, append_assoc, append-nil)
