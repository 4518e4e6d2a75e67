-- The cells at which the tries of nodes look, as far as they are known.
use Rattle.std.proofs.Common.{◌≡◌, ℕ, zero, suc, ◌⊎◌, inl, inr, List, replicate, set, slice_get, Option, Some, None, sym, ap, ◌∙◌, subst}
use Rattle.ga_place.specs.declared.side.Side.TheVariants.{Right}
use Rattle.ga_chip.specs.declared.asks.Asks.TheVariants as call
use Rattle.ga_chip.specs.Asks.{asked_of, look_at, look_of}
use Rattle.ga_chip.proofs.Found.{look_there}
use Rattle.std.proofs.lemmas.Bool.{cases_eq}
use Rattle.std.proofs.lemmas.Option.{none-some, same_Some}
use Rattle.ga_chip.specs.Part.{Part}
use Rattle.ga_chip.proofs.Lists.{get-set_else, get-set_here}
use Rattle.ga_group.specs.inner.Work.{AreKnown, IsKnown}

-- nothing is known of a node
pub known_none : (part : Part) → IsKnown part None
known_none part looks e = absurd (none-some looks e)

-- nor of one that does work of its own
pub known_own : (part new : Part) (known : Option (List (Option ℕ)))
    → asked_of part Right ≡ call.Own → IsKnown part known → IsKnown new known
known_own part new known own is looks e =
    absurd (none-some (look_at looks Right)
    (ap look_of (sym own) ∙ look_there part looks Right (is looks e)))

none_at : (count index : ℕ) (one : Option (List (Option ℕ)))
    → slice_get (replicate count None) index ≡ Some one → one ≡ None
none_at zero index one e = absurd (none-some one e)
none_at (suc count) zero one e = sym (same_Some None one e)
none_at (suc count) (suc index) one e = none_at count index one e

-- nor of any
pub none_known : (parts : List Part) (count : ℕ) → AreKnown parts (replicate count None)
none_known parts count =
    record {
      at = λ index part one there known. subst (IsKnown part)
          (sym (none_at count index one known)) (known_none part);
    }

-- one node was tried
pub known_set : (parts : List Part) (known : List (Option (List (Option ℕ)))) (index : ℕ)
    (part new : Part) (one next : Option (List (Option ℕ))) → AreKnown parts known
    → slice_get parts index ≡ Some part → slice_get known index ≡ Some one → IsKnown new next
    → AreKnown (set parts index new) (set known index next)
known_set parts known index part new one next all there was is =
    record { at = λ at other look e f. by at other look (cases_eq index at) e f }
  where
    by : (at : ℕ) (other : Part) (look : Option (List (Option ℕ))) → (index ≡ at) ⊎ (index ≡ at → ⊥)
        → slice_get (set parts index new) at ≡ Some other
        → slice_get (set known index next) at ≡ Some look → IsKnown other look
    by at other look (inl same) e f =
        subst (λ p. IsKnown p look)
        (same_Some new other (sym (get-set_here parts index new part there)
        ∙ ap (slice_get (set parts index new)) same ∙ e))
        (subst (IsKnown new) (same_Some next look (sym (get-set_here known index next one was)
        ∙ ap (slice_get (set known index next)) same ∙ f)) is)
    by at other look (inr apart) e f =
        all.at at other look (sym (get-set_else parts index at new apart)
        ∙ e) (sym (get-set_else known index at next apart) ∙ f)
