use Rattle.std.proofs.Common.{◌≡◌, ◌∙◌, ℕ, Option, Some, None, ap, arith, refl, sym}
use Rattle.std.specs.Bool.{Decides}
use Rattle.std.specs.Option.{option_eq}
use Rattle.std.specs.Prelude.{nat_eq}
use Rattle.std.proofs.lemmas.Bool.{false≢true}
use Rattle.std.proofs.lemmas.Bool.Decides.{Decides-eqb}
use Rattle.std.proofs.lemmas.Option.{same_Some}
use Rattle.std.proofs.lemmas.Slice.Eq.{slice_eq-Decides}
use Rattle.ga_race.proofs.ending.KeptChip.is_again.Goals as goal

-- whether two cells hold the same
same_word : (one two : Option ℕ) → Decides (option_eq nat_eq one two) (one ≡ two)
same_word None None = (λ yes. refl, λ same. refl)
same_word None (Some word) = (λ yes. absurd (false≢true yes), λ same. cc)
same_word (Some word) None = (λ yes. absurd (false≢true yes), λ same. cc)
same_word (Some word) (Some other) = (
  λ yes. ap Some ((Decides-eqb word other).0 yes),
  λ same. (Decides-eqb word other).1 (same_Some word other same),
)

pub returns : goal.returns
returns c same = record {
  cells = sym (c.words.ensures.words ∙ c.cells.ensures)
      ∙ (slice_eq-Decides same_word _ _ _ c.eq.ensures).0 same
      ∙ (c.words-2.ensures.words ∙ c.cells-2.ensures);
  nodes = λ index below. c.loop-index.invariant index (omega arith);
}
