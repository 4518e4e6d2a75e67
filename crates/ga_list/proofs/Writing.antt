-- A line is written part by part.
use Rattle.std.proofs.Common.{◌≡◌, ◌∙◌, ℕ, List, [], ◌∷◌, ◌++◌, Option, Some, None, sym, ap, append_assoc, append-nil}
use Rattle.std.specs.Option.{option_map_or}
use Rattle.ga_word.specs.Hex.{hex_digits}
use Rattle.ga_word.specs.declared.op.Op.{Op}
use Rattle.ga_pack.specs.Model.Layout.{Labels}
use Rattle.ga_asm.specs.Image.{label_at}
use Rattle.ga_disasm.specs.Printing.{behind_spaces, number_text, spare_texts}
use Rattle.ga_disasm.proofs.Writing.{behind_spaces-append}
use Rattle.ga_list.specs.Reading.{target as means}
use Rattle.ga_list.specs.Reading.{dest_text, dest_texts}

-- the field of a destination that means no label
pub by_number : (labels : Labels) (target dest : ℕ) (old new digits : List ℕ)
    → None ≡ label_at labels target → digits ≡ hex_digits 5 dest → new ≡ old ++ 32 ∷ 36 ∷ digits
    → new ≡ old ++ behind_spaces (dest_text labels target dest ∷ [])
by_number labels target dest old new digits none is e =
    e ∙ ap (λ t. old ++ 32 ∷ 36 ∷ t) (is ∙ sym (append-nil (hex_digits 5 dest)))
    ∙ ap (λ o. old ++ 32 ∷ (option_map_or (λ name. name) o (number_text dest) ++ [])) none

-- the text of a destination, if there is one
pub no_dest : (labels : Labels) (address : ℕ) (ops : List Op) (dest : Option ℕ) (spare : ℕ)
    (old new : List ℕ) → dest ≡ None → new ≡ old
    → new ≡ old ++ behind_spaces (dest_texts labels address ops dest spare)
no_dest labels address ops dest spare old new none e = rw (none, append-nil old) e

pub some_dest : (labels : Labels) (address target : ℕ) (ops : List Op) (dest : Option ℕ)
    (field spare : ℕ) (old mid new : List ℕ) → dest ≡ Some field → target ≡ means address ops field
    → mid ≡ old ++ behind_spaces (dest_text labels target field ∷ [])
    → new ≡ mid ++ behind_spaces (spare_texts spare)
    → new ≡ old ++ behind_spaces (dest_texts labels address ops dest spare)
some_dest labels address target ops dest field spare old mid new some is e f =
    let spares = spare_texts spare in
    let told = λ (t : ℕ). dest_text labels t field ∷ [] in
    f ∙ ap (λ t. t ++ behind_spaces spares) e
    ∙ append_assoc old (behind_spaces (told target)) (behind_spaces spares)
    ∙ ap (λ t. old ++ t) (sym (behind_spaces-append (told target) spares))
    ∙ ap (λ t. old ++ behind_spaces (told t ++ spares)) is
    ∙ ap (λ d. old ++ behind_spaces (dest_texts labels address ops d spare)) (sym some)
