-- What is made of an input is one thing, if what is made of its text is.
use Rattle.std.proofs.Common.{◌≡◌, ◌∙◌, inl, inr, ℕ, List, Result, Ok, Err, ap, subst, sym}
use Rattle.ga_asm.specs.Text.{AtMostOne, IsImagesOf}
use Rattle.ga_asm.proofs.OneAnswer.{one_answer}
use Rattle.ga_path.specs.Stream.{Images}
use Rattle.ga_input.specs.Fault.{fault_of_text}
use Rattle.ga_input.specs.Source.{IsImagesIn, IsOfImages}
use Rattle.ga_input.specs.Text.{IsInText, IsMade, text_in}
use Rattle.ga_input.specs.declared.fault.ServeError.{ServeError}

-- an input is one text
one_text : (input text text' : List ℕ) → text_in input ≡ Ok text → text_in input ≡ Ok text'
    → text ≡ text'
one_text input text text' p q = cc

-- if each text has one result, each input has one result
module _ {A E : Type 0} (told : List ℕ → E → ServeError) (Is : List ℕ → Result A E → Type 0)
    (one_of : (text : List ℕ) → AtMostOne (Is text)) (input : List ℕ) where
  same : (text text' : List ℕ) (one other : Result A E) → text_in input ≡ Ok text
      → text_in input ≡ Ok text' → Is text one → Is text' other → one ≡ other
  same text text' one other p q is is' =
      one_of text' one other
      (subst (λ (t : List ℕ). Is t one) (one_text input text text' p q) is) is'

  pub one_in : AtMostOne (IsInText told Is input)
  one_in (Ok one) (Ok other) (text, p, is) (text', q, is') =
      cc (same text text' (Ok one) (Ok other) p q is is')
  one_in (Ok one) (Err other) (text, p, is) (inl q) = cc
  one_in (Ok one) (Err other) (text, p, is) (inr (text', error, q, is', t)) =
      absurd (cc (same text text' (Ok one) (Err error) p q is is'))
  one_in (Err one) (Ok other) (inl p) (text, q, is) = cc
  one_in (Err one) (Ok other) (inr (text, error, p, is, t)) (text', q, is') =
      absurd (cc (same text text' (Err error) (Ok other) p q is is'))
  one_in (Err one) (Err other) (inl p) (inl q) = cc
  one_in (Err one) (Err other) (inl p) (inr (text, error, q, is, t)) = cc
  one_in (Err one) (Err other) (inr (text, error, p, is, t)) (inl q) = cc
  one_in (Err one) (Err other) (inr (text, error, p, is, t)) (inr (text', error', q, is', t')) =
      cc (one_text input text text' p q, same text text' (Err error) (Err error') p q is is')

pub one_images : (input : List ℕ) → AtMostOne (IsImagesIn input)
one_images input = one_in (λ text. fault_of_text) IsImagesOf one_answer input

-- what a function makes of one thing is one thing
pub one_made : {A B E : Type 0} (Is : Result A E → Type 0) (make : A → B) → AtMostOne Is
    → AtMostOne (IsMade Is make)
unfolding IsMade
one_made Is make only (Ok one) (Ok other) (found, p, is) (found', q, is') =
    let same : found ≡ found' = cc (only (Ok found) (Ok found') p q) in
    ap Ok (is ∙ ap make same ∙ sym is')
one_made Is make only (Ok one) (Err other) (found, p, is) q =
    absurd (cc (only (Ok found) (Err other) p q))
one_made Is make only (Err one) (Ok other) p (found, q, is) =
    absurd (cc (only (Err one) (Ok found) p q))
one_made Is make only (Err one) (Err other) p q =
    let same : one ≡ other = cc (only (Err one) (Err other) p q) in ap Err same

abbrev Answer : Type 0
Answer = Result (List ℕ) ServeError

-- Answers from the images of an input are alike, if equal ones are, and those from the same images.
module _ (Makes : Images → Answer → Type 0) (Alike : Answer → Answer → Type 0)
    (equal : (one other : Answer) → one ≡ other → Alike one other)
    (of : (images : Images) (one other : Answer) → Makes images one → Makes images other
    → Alike one other) (input : List ℕ) where
  both : (images images' : Images) (one other : Answer) → images ≡ images' → Makes images one
      → Makes images' other → Alike one other
  both images images' one other same p q =
      of images one other p (subst (λ i. Makes i other) (sym same) q)

  pub alike : (one other : Answer) → IsOfImages Makes input one → IsOfImages Makes input other
      → Alike one other
  alike (Ok one) (Ok other) (images, p, is) (images', q, is') =
      both images images' (Ok one) (Ok other)
      (cc (one_images input (Ok images) (Ok images') p q)) is is'
  alike (Ok one) (Err other) (images, p, is) (inl q) =
      absurd (cc (one_images input (Ok images) (Err other) p q))
  alike (Ok one) (Err other) (images, p, is) (inr (images', q, is')) =
      both images images' (Ok one) (Err other)
      (cc (one_images input (Ok images) (Ok images') p q)) is is'
  alike (Err one) (Ok other) (inl p) (images, q, is) =
      absurd (cc (one_images input (Err one) (Ok images) p q))
  alike (Err one) (Ok other) (inr (images, p, is)) (images', q, is') =
      both images images' (Err one) (Ok other)
      (cc (one_images input (Ok images) (Ok images') p q)) is is'
  alike (Err one) (Err other) (inl p) (inl q) =
      let same : one ≡ other = cc (one_images input (Err one) (Err other) p q) in
      equal (Err one) (Err other) (ap Err same)
  alike (Err one) (Err other) (inl p) (inr (images, q, is)) =
      absurd (cc (one_images input (Err one) (Ok images) p q))
  alike (Err one) (Err other) (inr (images, p, is)) (inl q) =
      absurd (cc (one_images input (Ok images) (Err other) p q))
  alike (Err one) (Err other) (inr (images, p, is)) (inr (images', q, is')) =
      both images images' (Err one) (Err other)
      (cc (one_images input (Ok images) (Ok images') p q)) is is'
