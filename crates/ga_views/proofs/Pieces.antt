-- A text that is written piece by piece.
use Rattle.std.proofs.Common.{◌≡◌, ◌∙◌, ℕ, List, ◌++◌, Option, ap, append_assoc, drop, length, subst, sym, take, take-append-drop}
use Rattle.std.proofs.Math.Seq.{take-append_seam}
use Rattle.std.specs.Io.KnownBytes.{Appends}
use Rattle.std.proofs.KnownBytes.{Appends-trans}
use Rattle.ga_input.specs.Writing.{AppendsPart}
use Rattle.ga_input.specs.Writing.{Leaves}

-- a prefix of a text was written
front_part : (old new : Option (List ℕ)) (front rest text : List ℕ) → text ≡ front ++ rest
    → Appends old new front → AppendsPart old new text
front_part old new front rest text is wrote = (
  length front,
  subst (Appends old new)
      (sym (ap (take (length front)) is ∙ take-append_seam front rest)) wrote,
)

module _ (old now : Option (List ℕ)) (done piece so_far : List ℕ) (wrote : Appends old now done)
    (are : done ++ piece ≡ so_far) where
  -- what was written before a piece
  pub without_piece : (rest text : List ℕ) → text ≡ so_far ++ rest → AppendsPart old now text
  without_piece rest text is =
      front_part old now done (piece ++ rest) text
      (is ∙ ap (λ t. t ++ rest) (sym are) ∙ append_assoc done piece rest) wrote

  -- and a part of the piece
  pub with_part : (new : Option (List ℕ)) (count : ℕ) (rest text : List ℕ) → text ≡ so_far ++ rest
      → Appends now new (take count piece) → AppendsPart old new text
  with_part new count rest text is more =
      let front = done ++ take count piece in
      let whole : so_far ≡ front ++ drop count piece =
      sym are ∙ ap (λ t. done ++ t) (sym (take-append-drop count piece))
      ∙ sym (append_assoc done (take count piece) (drop count piece)) in
      front_part old new front (drop count piece ++ rest) text
      (is ∙ ap (λ t. t ++ rest) whole ∙ append_assoc front (drop count piece) rest)
      (Appends-trans old now new done (take count piece) wrote more)

  -- and the front of the piece, of which the rest is left
  pub with_front : (new : Option (List ℕ)) (left : List ℕ) → Leaves now new piece left
      → (more : List ℕ) × Appends old new more × (more ++ left ≡ so_far)
  with_front new left (front, written, is) = (
    done ++ front,
    Appends-trans old now new done front wrote written,
    append_assoc done front left ∙ ap (λ t. done ++ t) is ∙ are,
  )
