-- A line is written part by part.
use Rattle.std.proofs.Common.{◌≡◌, ◌∙◌, ℕ, zero, suc, Bool, false, List, [], ◌∷◌, ◌++◌, Option, Some, None, map, refl, sym, ap, append_assoc, append-nil}
use Rattle.std.specs.Prelude.{codes}
use Rattle.std.specs.Fmt.{decimal}
use Rattle.ga_word.specs.Hex.{hex_digits}
use Rattle.ga_word.specs.Op.{name_of}
use Rattle.ga_word.specs.declared.op.Op.{Op}
use Rattle.ga_disasm.specs.Disassembling.{ItemView}
use Rattle.ga_disasm.specs.Printing.{behind_spaces, field_texts, item_lines, line, text_of}

pub behind_spaces-append : (texts more : List (List ℕ))
    → behind_spaces (texts ++ more) ≡ behind_spaces texts ++ behind_spaces more
behind_spaces-append [] more = refl
behind_spaces-append (text ∷ texts) more =
    ap (λ (t : List ℕ). 32 ∷ (text ++ t)) (behind_spaces-append texts more) ∙ ap
    (λ (t : List ℕ). 32 ∷ t) (sym (append_assoc text (behind_spaces texts) (behind_spaces more)))

-- ---- a field

pub field_alone : (old new digits : List ℕ) (dest spare : ℕ) → digits ≡ hex_digits 5 dest
    → spare ≡ 0 → new ≡ old ++ 32 ∷ 36 ∷ digits
    → new ≡ old ++ behind_spaces (field_texts (Some dest) spare)
field_alone old new digits dest spare is none e = rw (none, append-nil (hex_digits 5 dest), ← is) e

pub field_and_spare : (old middle new digits : List ℕ) (dest spare : ℕ) → digits ≡ hex_digits 5 dest
    → (spare ≡ 0 → ⊥) → middle ≡ old ++ 32 ∷ 36 ∷ digits
    → new ≡ middle ++ 32 ∷ 47 ∷ 32 ∷ decimal spare
    → new ≡ old ++ behind_spaces (field_texts (Some dest) spare)
field_and_spare old middle new digits dest zero is some e f = absurd (some refl)
field_and_spare old middle new digits dest (suc n) is some e f =
    f ∙ ap (λ (t : List ℕ). t ++ 32 ∷ 47 ∷ 32 ∷ decimal (suc n))
    (e ∙ ap (λ (t : List ℕ). old ++ 32 ∷ 36 ∷ t) is)
    ∙ append_assoc old (32 ∷ 36 ∷ hex_digits 5 dest) (32 ∷ 47 ∷ 32 ∷ decimal (suc n))
    ∙ ap (λ (t : List ℕ). old ++ 32 ∷ 36 ∷ (hex_digits 5 dest ++ 32 ∷ 47 ∷ 32 ∷ t))
    (sym (append-nil (decimal (suc n))))

-- ---- a word in brackets

pub no_field : (old new : List ℕ) (dest : Option ℕ) (spare : ℕ) → dest ≡ None → new ≡ old
    → new ≡ old ++ behind_spaces (field_texts dest spare)
no_field old new dest spare none e = rw (none, append-nil old) e

pub some_field : (old new : List ℕ) (dest : Option ℕ) (field spare : ℕ) → dest ≡ Some field
    → new ≡ old ++ behind_spaces (field_texts (Some field) spare)
    → new ≡ old ++ behind_spaces (field_texts dest spare)
some_field old new dest field spare some e = rw some e

-- the names of opcodes, and the text of a destination
pub word_line : (old begun named fielded new : List ℕ) (ops : List Op) (field : List (List ℕ))
    → begun ≡ old ++ 91 ∷ [] → named ≡ begun ++ behind_spaces (map name_of ops)
    → fielded ≡ named ++ behind_spaces field → new ≡ fielded ++ 32 ∷ 93 ∷ 10 ∷ []
    → new ≡ old ++ line (codes "[") (map name_of ops ++ field ++ codes "]" ∷ [])
word_line old begun named fielded new ops field e f g h =
    let names = map name_of ops in
    let inside : behind_spaces (names ++ field ++ codes "]" ∷ [])
    ≡ (behind_spaces names ++ behind_spaces field) ++ 32 ∷ 93 ∷ [] =
    behind_spaces-append (names ++ field) (codes "]" ∷ [])
    ∙ ap (λ (t : List ℕ). t ++ 32 ∷ 93 ∷ []) (behind_spaces-append names field) in
    let ends : (t : List ℕ) → (t ++ 32 ∷ 93 ∷ []) ++ 10 ∷ [] ≡ t ++ 32 ∷ 93 ∷ 10 ∷ [] =
    λ t. append_assoc t (32 ∷ 93 ∷ []) (10 ∷ []) in
    rw (h, g, f, e, inside, ends) (simp append_assoc)

-- ---- all lines

pub all_written : (items rest : List ItemView) (in_data : Bool) (text : List ℕ) → rest ≡ []
    → text ++ item_lines in_data rest ≡ item_lines false items → text ≡ text_of items
unfolding text_of
all_written items rest in_data text none e = sym (append-nil text) ∙ rw none at e
