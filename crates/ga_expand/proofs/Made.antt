-- An expansion is made as the answer of a text says.
use Rattle.std.proofs.Common.{◌≡◌, ◌≢◌, ◌∙◌, ℕ, List, ap, sym, Ok, Err, Result}
use Rattle.std.specs.Prelude.{IfErr, IfOk}
use Rattle.ga_expand.specs.declared.error.ExpandError.{ExpandError}
use Rattle.ga_expand.specs.declared.error.ExpandErrorKind.TheVariants.{Memory}
use Rattle.ga_expand.specs.declared.expansion.Expansion.{Expansion}
use Rattle.ga_expand.specs.Bodies.{unfolded}
use Rattle.ga_expand.specs.Error.{fault_of}
use Rattle.ga_expand.specs.Expanding.{Piece, pieces_of}
use Rattle.ga_expand.specs.NodeLists.{spread}
use Rattle.ga_expand.specs.Texts.{IsExpansion, expanded, expansion}
use Rattle.ga_expand.specs.inner.Making.{Made}

module _ (text : List ℕ) (pieces : List Piece) (are : pieces ≡ pieces_of text) where
  answer : expanded (spread (unfolded pieces)) ≡ expansion text
  unfolding expansion
  answer = ap (λ (ps : List Piece). expanded (spread (unfolded ps))) are

  pub expansion_made : (result : Result Expansion ExpandError)
      → Made (expanded (spread (unfolded pieces))) result
      → IfOk result (λ made. IsExpansion text made)
  expansion_made (Ok made) h = record {
    pieces = h.pieces;
    is = sym answer ∙ h.is;
    tokens = h.tokens;
    places = h.places;
  }
  expansion_made (Err error) h = tt

  pub expansion_failed : (result : Result Expansion ExpandError)
      → Made (expanded (spread (unfolded pieces))) result
      → IfErr result (λ error. error.kind ≢ Memory → expansion text ≡ Err (fault_of error))
  expansion_failed (Ok made) h = tt
  expansion_failed (Err error) h = λ some. sym answer ∙ h some
