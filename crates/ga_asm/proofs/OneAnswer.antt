-- A text has one answer: its images, or its first fault.
use Rattle.std.proofs.Common.{◌≡◌, ◌∙◌, ℕ, List, Ok, Err, sym, ap, subst}
use Rattle.ga_pack.specs.Model.LayoutFault.{ProgramFault}
use Rattle.ga_pack.specs.Model.Program.{PlacedSection}
use Rattle.ga_pack.specs.Model.Text.{Place}
use Rattle.ga_pack.proofs.OneFault.{one_program_fault}
use Rattle.ga_pack.proofs.OneSource.{one_program}
use Rattle.ga_pack.proofs.OneTextFault.{one_text_fault}
use Rattle.ga_pack.proofs.RightTexts.{right_text}
use Rattle.ga_source.specs.declared.error.SourceError.{SourceError}
use Rattle.ga_pack.specs.declared.error_kind.SourceErrorKind.{SourceErrorKind}
use Rattle.ga_source.specs.Error as source
use Rattle.ga_asm.specs.declared.error.AsmError.{AsmError}
use Rattle.ga_pack.specs.declared.error_kind.AsmErrorKind.{AsmErrorKind}
use Rattle.ga_asm.specs.declared.text.TextError.{TextError}
use Rattle.ga_asm.specs.declared.text.TextError.TheVariants.{Source, Asm, Memory}
use Rattle.ga_asm.specs.Assembling.{IsAssembled}
use Rattle.ga_asm.specs.Error as assembly
use Rattle.ga_asm.specs.Image.{ImageView}
use Rattle.ga_asm.specs.Text.{AtMostOne, HasImages, IsImagesOf, IsTextFault}
use Rattle.ga_asm.proofs.Sections.{one_assembled}

-- ---- the kind and the place of a fault tell it

same_source : (one other : SourceError) → one.kind ≡ other.kind
    → source.error_place one ≡ source.error_place other → one ≡ other
same_source one other kind place =
    let line : one.line ≡ other.line = ap (λ (p : Place). p.line) place in
    let column : one.column ≡ other.column = ap (λ (p : Place). p.column) place in
    ap (λ (k : SourceErrorKind). record one { kind = k }) kind
    ∙ ap (λ (l : ℕ). record { kind = other.kind; line = l; column = one.column }) line
    ∙ ap (λ (c : ℕ). record { kind = other.kind; line = other.line; column = c }) column

same_asm : (one other : AsmError) → one.kind ≡ other.kind → one.node ≡ other.node
    → assembly.error_place one ≡ assembly.error_place other → one ≡ other
same_asm one other kind node place =
    let line : one.line ≡ other.line = ap (λ (p : Place). p.line) place in
    let column : one.column ≡ other.column = ap (λ (p : Place). p.column) place in
    ap (λ (k : AsmErrorKind). record one { kind = k }) kind
    ∙ ap
    (λ (n : ℕ). record { kind = other.kind; node = n; line = one.line; column = one.column }) node
    ∙ ap
    (λ (l : ℕ). record { kind = other.kind; node = other.node; line = l; column = one.column }) line
    ∙ ap (λ (c : ℕ). record { kind = other.kind; node = other.node; line = other.line; column = c })
    column

-- ---- of each two answers

one_source : (s : List ℕ) (one other : SourceError) → IsTextFault s (Source one)
    → IsTextFault s (Source other) → one ≡ other
one_source s one other p q = let same = one_text_fault s p q in same_source one other same.0 same.1

one_asm : (s : List ℕ) (one other : AsmError) → IsTextFault s (Asm one) → IsTextFault s (Asm other)
    → one ≡ other
one_asm s one other (program, is, first) (program', is', first') =
    let same_program = one_program s program' program is' is in
    let there = subst (λ (l : List PlacedSection).
    ProgramFault l other.node (assembly.error_place other) other.kind) same_program first' in
    let same = one_program_fault first there in
    same_asm one other same.2 same.0 same.1

one_images : (s : List ℕ) (one other : List (ℕ × ImageView)) → HasImages s one → HasImages s other
    → one ≡ other
one_images s one other p q =
    let is = one_program s q.program p.program q.program_is p.program_is in
    sym (one_assembled p.program one other p.assembled
    (subst (λ (l : List PlacedSection). IsAssembled l other) is q.assembled))

program_or_fault : (s : List ℕ) (images : List (ℕ × ImageView)) (fault : TextError)
    → HasImages s images → IsTextFault s fault → ⊥
program_or_fault s images (Source error) p q =
    right_text s p.program error.kind (source.error_place error) p.program_is q
program_or_fault s images (Asm error) p (program, is, first) =
    let same = one_program s program p.program is p.program_is in
    p.faultless error.node (assembly.error_place error) error.kind
    (subst (λ (l : List PlacedSection).
    ProgramFault l error.node (assembly.error_place error) error.kind) same first)
program_or_fault s images Memory p q = q

one_fault : (s : List ℕ) (one other : TextError) → IsTextFault s one → IsTextFault s other
    → one ≡ other
one_fault s (Source one) (Source other) p q = ap Source (one_source s one other p q)
one_fault s (Source one) (Asm other) p q =
    absurd (right_text s q.0 one.kind (source.error_place one) q.1 p)
one_fault s (Source one) Memory p q = absurd q
one_fault s (Asm one) (Source other) p q =
    absurd (right_text s p.0 other.kind (source.error_place other) p.1 q)
one_fault s (Asm one) (Asm other) p q = ap Asm (one_asm s one other p q)
one_fault s (Asm one) Memory p q = absurd q
one_fault s Memory other p q = absurd p

pub one_answer : (s : List ℕ) → AtMostOne (IsImagesOf s)
one_answer s (Ok one) (Ok other) p q = ap Ok (one_images s one other p q)
one_answer s (Ok one) (Err fault) p q = absurd (program_or_fault s one fault p q)
one_answer s (Err fault) (Ok other) p q = absurd (program_or_fault s other fault q p)
one_answer s (Err one) (Err other) p q = ap Err (one_fault s one other p q)
