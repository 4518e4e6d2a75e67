-- A root that was given its stream, or is fed it in pieces.
use Rattle.std.proofs.Common.{◌≡◌, ◌∙◌, inl, inr, ℕ, true, false, List, [], ◌∷◌, ◌++◌, Option, Some, None, refl, sym, ap, ap₂, subst, append-nil}
use Rattle.std.specs.Option.{option_map_or}
use Rattle.std.proofs.lemmas.Option.{none-some, same_Some}
use Rattle.ga_place.specs.Node.{IsNodeName}
use Rattle.ga_chip.specs.Chip.{Chip, part_of, pending_in}
use Rattle.ga_chip.specs.Laws.{IsPrefix}
use Rattle.ga_chip.specs.Legal.{DifferInBreaks}
use Rattle.ga_chip.specs.Part.{Part}
use Rattle.ga_chip.specs.Run.{ClearBreak, Event, PassBreak, Piece, SetBreak, Try, is_open, pieces, words_fed, words_left}
use Rattle.ga_chip.proofs.Differing.{bare_part, differ_back, legal_alike}
use Rattle.ga_chip.proofs.Streams.{open_there}
use Rattle.ga_boot.specs.Boot.{IsSupplied}
use Rattle.ga_boot.specs.inner.TreePlan.{IsGiven}
use Rattle.ga_boot.proofs.Given.{from_opened, from_streamed, is_given, root_chip, root_part, root_there}

-- what the root had and is fed is a prefix of the words
abbrev pub IsFedOf : Chip → ℕ → List ℕ → List Event → Type 0
IsFedOf chip root words events =
    (part : Part) → part_of chip root ≡ Some part
    → IsPrefix (words_left part.stream ++ words_fed chip events root) words

-- a stream that wasn't opened is fed nothing
pub none_fed : (name : ℕ) (events : List Event) → pieces false name events ≡ []
none_fed name [] = refl
none_fed name (Try other side ∷ events) = none_fed name events
none_fed name (SetBreak other at ∷ events) = none_fed name events
none_fed name (ClearBreak other at ∷ events) = none_fed name events
none_fed name (PassBreak other ∷ events) = none_fed name events
none_fed name (Piece other words ∷ events) = none_fed name events

pub fed_closed : (root : ℕ) (words : List ℕ) (events : List Event) → IsNodeName root
    → words_fed (root_chip root (Some words) false) events root ≡ []
fed_closed root words events named =
    ap (λ o. pieces o root events) (open_there (root_chip root (Some words) false) root
    (root_part root (Some words) false) (root_there root (Some words) false named))
    ∙ none_fed root events

given_fed : (root : ℕ) (given words : List ℕ) (events : List Event) → IsNodeName root
    → IsPrefix given words → IsFedOf (root_chip root (Some given) false) root words events
given_fed root given words events named (rest, e) part there =
    let is : part ≡ root_part root (Some given) false = same_Some part
    (root_part root (Some given) false) (sym there ∙ root_there root (Some given) false named) in (
      rest,
      e ∙ ap (λ l. l ++ rest) (sym (ap₂ (λ p l. words_left p.stream ++ l) is
          (fed_closed root given events named) ∙ append-nil given)),
    )

opened_fed : (root : ℕ) (words : List ℕ) (events : List Event) → IsNodeName root
    → IsPrefix (words_fed (root_chip root (Some []) true) events root) words
    → IsFedOf (root_chip root (Some []) true) root words events
opened_fed root words events named (rest, e) part there =
    let is : part ≡ root_part root (Some []) true = same_Some part (root_part root (Some []) true)
    (sym there ∙ root_there root (Some []) true named) in (
      rest,
      e ∙ ap (λ p. (words_left p.stream ++ words_fed (root_chip root (Some []) true) events root)
          ++ rest) (sym is),
    )

-- ---- a chip that differs in breakpoints

module _ (one two : Chip) (differ : DifferInBreaks one two) where
  given_alike : (root : ℕ) → IsGiven root one → IsGiven root two
  given_alike root g = record {
    legal = legal_alike one two differ g.legal;
    empty = λ cell. ap (λ cells. pending_in cells cell) (sym differ.cells) ∙ g.empty cell;
    booting = λ part there. let b = bare_part one two root part differ there in
        ap (λ (p : Part). p.state) (sym b.bare) ∙ g.booting b.old b.there;
    others = λ name part there apart. let b = bare_part one two name part differ there in
        ap (λ (p : Part). p.state) (sym b.bare) ∙ g.others name b.old b.there apart;
  }

  open_alike : (name : ℕ) → is_open two name ≡ is_open one name
  open_alike name = by (part_of two name) refl (part_of one name) refl
    where
      by : (new : Option Part) → part_of two name ≡ new → (old : Option Part)
          → part_of one name ≡ old → is_open two name ≡ is_open one name
      by (Some part) e old f =
          let b = bare_part one two name part differ e in
          open_there two name part e ∙ ap (λ (p : Part). p.opened) (sym b.bare)
          ∙ sym (open_there one name b.old b.there)
      by None e (Some part) f =
          let b = bare_part two one name part (differ_back one two differ) f in
          absurd (none-some b.old (sym e ∙ b.there))
      by None e None f = ap (λ o. option_map_or (λ (p : Part). p.opened) o false) (e ∙ sym f)

  -- the same events feed the same words
  pub fed_alike : (events : List Event) (name : ℕ)
      → words_fed two events name ≡ words_fed one events name
  fed_alike events name = ap (λ opened. pieces opened name events) (open_alike name)

  fed_of_alike : (root : ℕ) (words : List ℕ) (events : List Event) → IsFedOf one root words events
      → IsFedOf two root words events
  fed_of_alike root words events fed part there =
      let b = bare_part one two root part differ there in
      subst (λ l. IsPrefix l words) (ap₂ (λ (p : Part) l. words_left p.stream ++ l) b.bare
      (sym (fed_alike events root))) (fed b.old b.there)

-- So apart from breakpoints and the root, which is fed the words, the chip is as after reset.
pub supplied : (chip : Chip) (root : ℕ) (words : List ℕ) (events : List Event) → IsNodeName root
    → IsSupplied chip root words events → IsGiven root chip × IsFedOf chip root words events
supplied chip root words events named (inl (given, e, front)) =
    let base = root_chip root (Some given) false in
    let differ : DifferInBreaks base chip = differ_back chip base
    (subst (DifferInBreaks chip) (from_streamed root (Some given) false named given) e) in (
      given_alike base chip differ root (is_given root (Some given) false named),
      fed_of_alike base chip differ root words events
          (given_fed root given words events named front),
    )
supplied chip root words events named (inr (e, front)) =
    let base = root_chip root (Some []) true in
    let differ : DifferInBreaks base chip =
    differ_back chip base (subst (DifferInBreaks chip) (from_opened root (Some []) true named) e) in
    let fed : IsPrefix (words_fed base events root) words =
    subst (λ l. IsPrefix l words) (fed_alike base chip differ events root) front in (
      given_alike base chip differ root (is_given root (Some []) true named),
      fed_of_alike base chip differ root words events (opened_fed root words events named fed),
    )
