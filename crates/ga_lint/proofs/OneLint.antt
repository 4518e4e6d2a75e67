-- A text has one list of warnings, or one first fault.
use Rattle.std.proofs.Common.{◌≡◌, ◌∙◌, ℕ, List, Ok, Err, sym, ap}
use Rattle.ga_pack.proofs.OneSource.{one_program}
use Rattle.ga_asm.specs.Image.{ImageView}
use Rattle.ga_asm.specs.Text.{AtMostOne, HasImages}
use Rattle.ga_asm.proofs.OneAnswer.{one_answer}
use Rattle.ga_lint.specs.Linting.{IsLintOf, warnings_from}

same_images : (text : List ℕ) (one other : List (ℕ × ImageView)) → HasImages text one
    → HasImages text other → one ≡ other
same_images text one other p q =
    let same : Ok one ≡ Ok other = one_answer text (Ok one) (Ok other) p q in cc

pub one_lint : (text : List ℕ) → AtMostOne (IsLintOf text)
one_lint text (Ok one) (Ok other) p q =
    let program = one_program text q.images_are.program p.images_are.program q.images_are.program_is
    p.images_are.program_is in
    let images = same_images text p.images q.images p.images_are q.images_are in
    ap Ok (p.warnings_are ∙ ap (λ l. warnings_from l 0 p.images) (sym program)
    ∙ ap (warnings_from q.images_are.program 0) images ∙ sym q.warnings_are)
one_lint text (Ok one) (Err fault) p q =
    absurd (let none : Ok p.images
    ≡ Err fault = one_answer text (Ok p.images) (Err fault) p.images_are q in cc)
one_lint text (Err fault) (Ok other) p q =
    absurd (let none : Err fault
    ≡ Ok q.images = one_answer text (Err fault) (Ok q.images) p q.images_are in cc)
one_lint text (Err one) (Err other) p q =
    let same : Err one ≡ Err other = one_answer text (Err one) (Err other) p q in cc
