-- The loop over the tokens of a text.
use Rattle.std.proofs.Common.{◌≡◌, ◌≢◌, ℕ, zero, suc, ◌+◌, ◌≤◌, Bool, false, List, [], ◌∷◌, ◌++◌, length, length-append, length-drop, drop, Ok, Err, refl, sym, ap, ◌∙◌, subst, arith}
use Rattle.ga_pack.specs.Model.Text.{Place, places_of, texts_of}
use Rattle.ga_pack.specs.Model.Token.{Token, end, is_node, meaning_at, meanings}
use Rattle.ga_pack.specs.Model.Source.{Section, Sections, Source}
use Rattle.ga_pack.specs.Model.SourceFault.{SourceFault}
use Rattle.ga_pack.specs.Model.Program.{IsFault, IsProgram, PlacedSection, place_at, placed_sections, tokens_of}
use Rattle.ga_source.specs.declared.parser.Parser as the
use Rattle.ga_source.specs.declared.parser.Position.{Position}
use Rattle.ga_source.specs.declared.parser.Position.TheVariants as position
use Rattle.ga_source.specs.inner.Machine.{State, IsConsistent, nothing, finished, take}
use Rattle.ga_source.specs.inner.Parser.{at_position, state_of}
use Rattle.ga_source.specs.Program.{HasNoProgram}
use Rattle.ga_source.specs.inner.Program.{IsReported}
use Rattle.ga_source.specs.Error.{error_place}
use Rattle.ga_pack.specs.declared.error_kind.SourceErrorKind.TheVariants.{Memory}
use Rattle.ga_source.specs.declared.error.SourceError.{SourceError}
use Rattle.ga_pack.specs.declared.error_kind.SourceErrorKind.{SourceErrorKind}
use Rattle.ga_source.proofs.Exact.{regroup}
use Rattle.ga_source.proofs.Consistent.{ConsistentBy, take_consistent}
use Rattle.ga_source.proofs.Steps.{Right, take_right}
use Rattle.ga_source.proofs.Walking.{few_texts}
use Rattle.ga_source.proofs.FaultKinds.{is_finished}
use Rattle.ga_source.proofs.Whole.{ReadSoFar, at_end, at_fault, at_first, at_next}

-- i tokens were read, the last of which was `node` or not
pub record Reading (text : List ℕ) (i : ℕ) (behind : Bool) (s : State) : Type 0 where
  pub front : List Token
  pub cut : tokens_of text ≡ front ++ meanings behind (drop i (texts_of text))
  pub count : length front ≡ i
  pub reads : ReadSoFar front s
  pub consistent : IsConsistent s

pub reading_first : (text : List ℕ) → Reading text 0 false nothing
unfolding tokens_of
reading_first text =
    record { front = []; cut = refl; count = refl; reads = at_first; consistent = tt }

cut_more : (text : List ℕ) (i : ℕ) (behind : Bool) (front : List Token) (t : List ℕ)
    (rest : List (List ℕ)) → tokens_of text ≡ front ++ meanings behind (drop i (texts_of text))
    → drop i (texts_of text) ≡ t ∷ rest
    → tokens_of text ≡ front ++ meaning_at behind t ∷ meanings (is_node (meaning_at behind t)) rest
unfolding meanings
cut_more text i behind front t rest e f = e ∙ ap (λ ts. front ++ meanings behind ts) f

-- a token is taken
pub reading_next : (text : List ℕ) (i : ℕ) (behind : Bool) (s s' : State) (t : List ℕ)
    → Reading text i behind s → drop i (texts_of text) ≡ t ∷ drop (suc i) (texts_of text)
    → take s (meaning_at behind t) ≡ Ok s' → Reading text (suc i) (is_node (meaning_at behind t)) s'
reading_next text i behind s s' t r f e =
    let m = meaning_at behind t in
    let count : length (r.front ++ m ∷ []) ≡ suc i =
    omega (arith, length-append r.front (m ∷ []), r.count) in
    record {
      front = r.front ++ m ∷ [];
      cut = cut_more text i behind r.front t (drop (suc i) (texts_of text)) r.cut f
          ∙ sym (regroup r.front m (meanings (is_node m) (drop (suc i) (texts_of text))));
      count = count;
      reads = at_next r.front s m r.reads s' e;
      consistent = subst ConsistentBy e (take_consistent s m r.consistent);
    }

fault_is : (text : List ℕ) (i : ℕ) (front rest : List Token) (s : State) (t : Token)
    (k : SourceErrorKind) (place : Place) → tokens_of text ≡ front ++ t ∷ rest → length front ≡ i
    → ReadSoFar front s → is_finished s ≡ false → take s t ≡ Err k
    → place ≡ place_at (places_of text) i → IsFault text k place
unfolding IsFault
fault_is text i front rest s t k place e c r more f p = (
  i,
  subst (λ n. SourceFault (tokens_of text) n k) c (subst (λ ts. SourceFault ts (length front) k)
      (sym e) (at_fault front s t r rest k more f)),
  p,
)

no_program : (text : List ℕ) (front rest : List Token) (s : State) (t : Token) (k : SourceErrorKind)
    → tokens_of text ≡ front ++ t ∷ rest → ReadSoFar front s → take s t ≡ Err k
    → (program : List PlacedSection) → IsProgram text program → ⊥
unfolding IsProgram
no_program text front rest s t k e r f program (sections, src, at) =
    let right : Right s t (Err k) = subst (Right s t) f (take_right s t r.stands.good) in
    right rest sections (r.stands.to (t ∷ rest) sections (subst (λ ts. Source ts sections) e src))

-- a token is refused
pub reading_fault : (text : List ℕ) (i : ℕ) (behind : Bool) (s : State) (t : List ℕ)
    (k : SourceErrorKind) (place : Place) → Reading text i behind s → is_finished s ≡ false
    → drop i (texts_of text) ≡ t ∷ drop (suc i) (texts_of text)
    → place ≡ place_at (places_of text) i → take s (meaning_at behind t) ≡ Err k
    → IsFault text k place × HasNoProgram text
reading_fault text i behind s t k place r more f p e =
    let rest = meanings (is_node (meaning_at behind t)) (drop (suc i) (texts_of text)) in
    let cut = cut_more text i behind r.front t (drop (suc i) (texts_of text)) r.cut f in (
      fault_is text i r.front rest s (meaning_at behind t) k place cut r.count r.reads more e p,
      no_program text r.front rest s (meaning_at behind t) k cut r.reads e,
    )

cut_end : (text : List ℕ) (i : ℕ) (behind : Bool) (front : List Token)
    → tokens_of text ≡ front ++ meanings behind (drop i (texts_of text))
    → drop i (texts_of text) ≡ [] → tokens_of text ≡ front ++ end ∷ []
unfolding meanings
cut_end text i behind front e f = e ∙ ap (λ ts. front ++ meanings behind ts) f

-- the text's end is refused
pub reading_fault_end : (text : List ℕ) (i : ℕ) (behind : Bool) (s : State) (k : SourceErrorKind)
    (place : Place) → Reading text i behind s → is_finished s ≡ false → drop i (texts_of text) ≡ []
    → place ≡ place_at (places_of text) i → take s end ≡ Err k
    → IsFault text k place × HasNoProgram text
reading_fault_end text i behind s k place r more f p e =
    let cut = cut_end text i behind r.front r.cut f in (
      fault_is text i r.front [] s end k place cut r.count r.reads more e p,
      no_program text r.front [] s end k cut r.reads e,
    )

-- the text's program, which is the only one, by its sections
pub record Whole (text : List ℕ) (sections : List Section) : Type 0 where
  pub is : IsProgram text (placed_sections (places_of text) sections)
  pub only : (other : List PlacedSection) → IsProgram text other
      → other ≡ placed_sections (places_of text) sections
  pub right : Sections [] sections

source_right : (ts : List Token) (sections : List Section) → Source ts sections
    → Sections [] sections
unfolding Source
source_right ts [] h = absurd h
source_right ts (s ∷ ss) h = h.1

-- the text's end is taken
pub reading_end : (text : List ℕ) (i : ℕ) (behind : Bool) (s : State) (sections : List Section)
    → Reading text i behind s → drop i (texts_of text) ≡ [] → take s end ≡ Ok (finished sections)
    → Whole text sections
unfolding IsProgram
reading_end text i behind s sections r f e =
    let (src, only) = at_end r.front s sections r.reads e in
    let tokens : tokens_of text ≡ r.front ++ end ∷ [] = cut_end text i behind r.front r.cut f in
    let source : Source (tokens_of text) sections =
    subst (λ ts. Source ts sections) (sym tokens) src in
    record {
      is = (sections, source, refl);
      only = λ other (others, src', at). at ∙ ap (placed_sections (places_of text))
          (only others (subst (λ ts. Source ts others) tokens src'));
      right = source_right (tokens_of text) sections source;
    }

-- ---- the tokens that are left

-- i tokens were taken, and the others are left; before the first the parser has no section
pub record Taking (text : List ℕ) (i : ℕ) (behind : Bool) (p : the.Parser)
    (left : List (List ℕ)) : Type 0 where
  pub reading : Reading text i behind (state_of p)
  pub left_is : drop i (texts_of text) ≡ left
  pub empty : i ≡ 0 → p.sections.entries ≡ []

pub taking_first : (text : List ℕ) (p : the.Parser) → state_of p ≡ nothing → p.sections.entries ≡ []
    → Taking text 0 false p (texts_of text)
taking_first text p e none = record {
  reading = subst (Reading text 0 false) (sym e) (reading_first text);
  left_is = refl;
  empty = λ z. none;
}

left_behind : {X : Type 0} (xs : List X) (i : ℕ) (x : X) (left : List X) → drop i xs ≡ x ∷ left
    → drop (suc i) xs ≡ left
left_behind [] zero x left e = absurd (cc)
left_behind [] (suc i) x left e = absurd (cc)
left_behind (y ∷ xs) zero x left e = cc
left_behind (y ∷ xs) (suc i) x left e = left_behind xs i x left e

-- the parser's state is never behind the text's end
is_open : (at : Position) (p : the.Parser) → is_finished (at_position at p) ≡ false
is_open position.Nothing p = refl
is_open _ p = refl

module _ (text : List ℕ) (i : ℕ) (behind : Bool) (p : the.Parser) (left : List (List ℕ))
    (t : Taking text i behind p left) where
  -- the text's end is refused
  pub end_fault : left ≡ [] → (kind : SourceErrorKind) (error : SourceError)
      → (kind ≢ Memory → take (state_of p) end ≡ Err kind) → IsReported text i kind error
      → error.kind ≢ Memory → IsFault text error.kind (error_place error) × HasNoProgram text
  end_fault all kind error e reported some =
      let (is, at) = reported some in
      reading_fault_end text i behind (state_of p) error.kind (error_place error) t.reading
      (is_open p.position p) (t.left_is ∙ all) at (e (λ none. some (is ∙ none)) ∙ ap Err (sym is))

  -- the text's end is taken
  pub end_taken : left ≡ [] → (sections : List Section)
      → take (state_of p) end ≡ Ok (finished sections) → Whole text sections
  end_taken all sections e =
      reading_end text i behind (state_of p) sections t.reading (t.left_is ∙ all) e

module _ (text : List ℕ) (i : ℕ) (behind : Bool) (p : the.Parser) (run : List ℕ)
    (others : List (List ℕ)) (t : Taking text i behind p (run ∷ others)) where
  next : drop i (texts_of text) ≡ run ∷ drop (suc i) (texts_of text)
  next =
      t.left_is ∙ ap (λ left. run ∷ left) (sym (left_behind (texts_of text) i run others t.left_is))

  pub taking_low : i ≤ length text
  taking_low = omega (arith, ap length t.left_is, length-drop i (texts_of text), few_texts text)

  -- the next one is taken
  pub taking_next : (behind' : Bool) (p' : the.Parser)
      → take (state_of p) (meaning_at behind run) ≡ Ok (state_of p')
      → behind' ≡ is_node (meaning_at behind run) → Taking text (i + 1) behind' p' others
  taking_next behind' p' e b =
      let more : suc i ≡ i + 1 = omega arith in
      record {
        reading = subst (λ k. Reading text k behind' (state_of p')) more
            (subst (λ y. Reading text (suc i) y (state_of p')) (sym b)
            (reading_next text i behind (state_of p) (state_of p') run t.reading next e));
        left_is = ap (λ k. drop k (texts_of text)) (sym more)
            ∙ left_behind (texts_of text) i run others t.left_is;
        empty = λ z. absurd (omega (arith, z));
      }

  -- it is refused
  pub taking_fault : (kind : SourceErrorKind) (error : SourceError)
      → (kind ≢ Memory → take (state_of p) (meaning_at behind run) ≡ Err kind)
      → IsReported text i kind error → error.kind ≢ Memory
      → IsFault text error.kind (error_place error) × HasNoProgram text
  taking_fault kind error e reported some =
      let (is, at) = reported some in
      reading_fault text i behind (state_of p) run error.kind (error_place error) t.reading
      (is_open p.position p) next at (e (λ none. some (is ∙ none)) ∙ ap Err (sym is))
