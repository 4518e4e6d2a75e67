use Rattle.std.proofs.Common.{◌≡◌, ℕ, List, [], ◌∷◌, ◌++◌, append_assoc}
use Rattle.std.specs.Prelude.{codes}
use Rattle.ga_word.specs.Hex.{hex_digits}
use Rattle.ga_pack.specs.Model.Layout.{Labels}
use Rattle.ga_disasm.specs.Disassembling.{ItemView}
use Rattle.ga_list.specs.Reading.{reading_line}
use Rattle.ga_list.specs.Row.{blanks_before, mark_text, row_text}
use Rattle.ga_list.proofs.row.push_row.Goals as goal

-- the parts of a line, one behind the other
parts : (old number word mark blanks name reading : List ℕ)
    → (old ++ (number ++ 32 ∷ 32 ∷ (word ++ 32 ∷ 32 ∷ (mark ++ 32 ∷ (blanks
    ++ (name ++ 32 ∷ 32 ∷ [])))))) ++ reading
    ≡ old ++ (number ++ codes "  " ++ word ++ codes "  " ++ mark ++ codes " " ++ blanks ++ name
    ++ codes "  " ++ reading)
parts old number word mark blanks name reading = simp append_assoc

written : (labels : Labels) (address word : ℕ) (item : ItemView)
    (name old mid new mark blanks : List ℕ) (number : ℕ)
    → mid ≡ old ++ (hex_digits 3 number ++ 32 ∷ 32 ∷ (hex_digits 5 word ++ 32 ∷ 32 ∷ (mark ++ 32
    ∷ (blanks ++ (name ++ 32 ∷ 32 ∷ []))))) → new ≡ mid ++ reading_line labels address item
    → number ≡ address → mark ≡ mark_text item → blanks ≡ blanks_before name
    → new ≡ old ++ row_text labels address word item name
unfolding row_text
written labels address word item name old mid new mark blanks number mid_is new_is number_is mark_is
    blanks_are =
    rw (new_is, mid_is, number_is, mark_is, blanks_are)
    (parts old (hex_digits 3 address) (hex_digits 5 word) (mark_text item) (blanks_before name) name
    (reading_line labels address item))

pub returns : goal.returns
returns c =
    written _ c.args.address c.args.word _ _ _ _ _ _ _ _ c.in_ok-write.ensures.bytes
    c.in_ok-push_reading.ensures c.new-number.ensures c.mark-mark.ensures
    c.blanks_before-blanks.ensures
