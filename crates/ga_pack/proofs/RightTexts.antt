-- A text that has a program has no fault.
use Rattle.std.proofs.Common.{◌≡◌, ◌∙◌, ◌⊎◌, inl, inr, ℕ, Bool, List, [], ◌∷◌, ◌++◌, refl, sym, ap, subst, append_assoc}
use Rattle.ga_pack.specs.Model.Text.{Place, texts_of}
use Rattle.ga_pack.specs.Model.Token.{Token, is_node, meaning_at, meanings}
use Rattle.ga_pack.specs.Model.Source.{Section, Source}
use Rattle.ga_pack.specs.Model.SourceFault.{GoesOn, SourceFault, ends_in_node}
use Rattle.ga_pack.specs.Model.Program.{IsFault, IsProgram, PlacedSection, tokens_of}
use Rattle.ga_pack.specs.declared.error_kind.SourceErrorKind.{SourceErrorKind}

ends_behind : (t : Token) (front : List Token) (last : Token)
    → ends_in_node (t ∷ (front ++ last ∷ [])) ≡ ends_in_node (front ++ last ∷ [])
ends_behind t [] last = refl
ends_behind t (u ∷ front) last = refl

pub no_cut : (front : List Token) (t : Token) (rest : List Token) → [] ≡ front ++ t ∷ rest → ⊥
no_cut [] t rest e = cc
no_cut (u ∷ front) t rest e = cc

-- behind some tokens of a text is the text's end, or what further tokens are written as
abbrev pub GoesOnBy : List Token → Token → List Token → Type 0
GoesOnBy front t rest =
    (rest ≡ [])
    ⊎ ((texts : List (List ℕ)) × (rest ≡ meanings (ends_in_node (front ++ t ∷ [])) texts))

pub cut_tokens : (behind : Bool) (texts : List (List ℕ)) (front : List Token) (t : Token)
    (rest : List Token) → meanings behind texts ≡ front ++ t ∷ rest → GoesOnBy front t rest
unfolding meanings
cut_tokens behind [] [] t rest e = inl (cc)
cut_tokens behind [] (u ∷ front) t rest e = absurd (no_cut front t rest (cc))
cut_tokens behind (text ∷ texts) [] t rest e =
    let same : meaning_at behind text ≡ t = cc in
    let more : meanings (is_node (meaning_at behind text)) texts ≡ rest = cc in
    inr (texts, sym more ∙ ap (λ (u : Token). meanings (is_node u) texts) same)
cut_tokens behind (text ∷ texts) (u ∷ front) t rest e =
    let more : meanings (is_node (meaning_at behind text)) texts ≡ front ++ t ∷ rest = cc in
    elim (cut_tokens (is_node (meaning_at behind text)) texts front t rest more) [
      | inl none ↦ inl none
      | inr some ↦
          inr (some.0, some.1 ∙ ap (λ (b : Bool). meanings b some.0) (sym (ends_behind u front t)))
    ]

goes_on : (ts : List Token) (sections : List Section) (front : List Token) (t : Token)
    (rest : List Token) → Source ts sections → ts ≡ front ++ t ∷ rest → GoesOnBy front t rest
    → GoesOn (front ++ t ∷ [])
unfolding GoesOn
goes_on ts sections front t rest source e (inl none) =
    inl (inl (
      sections,
      subst (λ (l : List Token). Source l sections)
          (e ∙ ap (λ (l : List Token). front ++ t ∷ l) none) source,
    ))
goes_on ts sections front t rest source e (inr some) =
    inl (inr (
      some.0,
      sections,
      subst (λ (l : List Token). Source l sections) (e ∙ sym (append_assoc front (t ∷ []) rest)
          ∙ ap (λ (l : List Token). (front ++ t ∷ []) ++ l) some.1) source,
    ))

-- a text with a program has no fault
pub right_text : (text : List ℕ) (program : List PlacedSection) (kind : SourceErrorKind)
    (place : Place) → IsProgram text program → IsFault text kind place → ⊥
unfolding IsProgram IsFault SourceFault tokens_of
right_text text program kind place
    (sections, source, is) (at, (front, t, rest, cut, at_is, goes, stops, kind_is), place_is) =
    stops (goes_on (tokens_of text) sections front t rest source cut
    (cut_tokens _ (texts_of text) front t rest cut))
