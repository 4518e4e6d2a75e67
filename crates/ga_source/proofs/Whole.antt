-- The parser accepts exactly the texts, and its fault is that of the definition.
use Rattle.std.proofs.Common.{◌≡◌, false, List, [], ◌∷◌, ◌++◌, length, reverse, Result, Ok, Err, refl, sym, subst}
use Rattle.ga_pack.specs.Model.Token.{Token, end}
use Rattle.ga_pack.specs.Model.Source.{Section, Source}
use Rattle.ga_pack.specs.Model.SourceFault.{SourceFault}
use Rattle.ga_source.specs.inner.Machine.{State, nothing, finished, take}
use Rattle.std.proofs.lemmas.List.{reverse-append}
use Rattle.ga_source.proofs.Exact.{Stands, stands_first, stands_next, refused, accepted}
use Rattle.ga_source.proofs.FaultKinds.{Shape, HasShape, shaped, is_finished}
use Rattle.ga_pack.specs.declared.error_kind.SourceErrorKind.{SourceErrorKind}

-- ---- the invariant of a loop over the tokens

pub record ReadSoFar (front : List Token) (s : State) : Type 0 where
  pub stands : Stands front s
  pub shape : Shape s (reverse front)

pub at_first : ReadSoFar [] nothing
at_first = record { stands = stands_first; shape = refl }

module _ (front : List Token) (s : State) (t : Token) (a : ReadSoFar front s) where
  shaped_by : (answer : Result State SourceErrorKind) → take s t ≡ answer
      → HasShape s (reverse front) t answer
  shaped_by answer e =
      subst (HasShape s (reverse front) t) e (shaped s (reverse front) t a.stands.good a.shape)

  -- a token that is taken
  pub at_next : (s' : State) → take s t ≡ Ok s' → ReadSoFar (front ++ t ∷ []) s'
  at_next s' e = record {
    stands = stands_next front (reverse front) s s' t a.stands (shaped_by (Ok s') e) e;
    shape = subst (Shape s') (sym (reverse-append front (t ∷ []))) (shaped_by (Ok s') e);
  }

  -- a token that is refused, the end or another
  pub at_fault : (rest : List Token) (k : SourceErrorKind) → is_finished s ≡ false
      → take s t ≡ Err k → SourceFault (front ++ t ∷ rest) (length front) k
  unfolding SourceFault
  at_fault rest k more e = (
    front,
    t,
    rest,
    refl,
    refl,
    a.stands.goes,
    refused front s t k a.stands e,
    shaped_by (Err k) e more,
  )

-- the end is taken
pub at_end : (front : List Token) (s : State) (p : List Section) → ReadSoFar front s
    → take s end ≡ Ok (finished p)
    → Source (front ++ end ∷ []) p × ((q : List Section) → Source (front ++ end ∷ []) q → q ≡ p)
at_end front s p a e =
    accepted (front ++ end ∷ []) p
    (stands_next front (reverse front) s (finished p) end a.stands tt e)
