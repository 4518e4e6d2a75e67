-- Runs that feed a node's stream, one behind the other.
use Rattle.std.proofs.Common.{◌≡◌, ◌∙◌, ◌++◌, ◌<◌, ℕ, List, [], ◌∷◌, Option, Some, None}
use Rattle.std.proofs.Common.{true, refl, sym, ap, ap₂, subst, append-nil, get_or, length, arith}
use Rattle.std.specs.Prelude.{map, set}
use Rattle.std.proofs.lemmas.Grind.{common_steps}
use Rattle.std.proofs.lemmas.List.{map-set, set-get_or}
use Rattle.std.proofs.lemmas.Option.{get_or_from_slice_get, slice_get-get_or}
use Rattle.ga_place.specs.Cell.{index_of}
use Rattle.ga_place.specs.Node.{IsNodeName}
use Rattle.ga_chip.specs.Chip.{Chip, part_of, reset_part, with_changed}
use Rattle.ga_chip.specs.Joining.{RunsJoin}
use Rattle.ga_chip.specs.Legal.{DifferInBreaks, IsLegal, unbroken}
use Rattle.ga_chip.specs.Part.{Part}
use Rattle.ga_chip.specs.Run.{Event, Piece, SetBreak, break_set, happened, is_open, ran, words_fed}
use Rattle.ga_chip.specs.Stream.{feed_refusal}
use Rattle.ga_law_examples.specs.Pieces.{IsFed}

-- a chip that gets a breakpoint
pub broken : (chip : Chip) (name at : ℕ) → DifferInBreaks (happened chip (SetBreak name at)) chip
unfolding happened
broken chip name at = by (part_of chip name) refl
  where
    by : (o : Option Part) → part_of chip name ≡ o
        → DifferInBreaks (with_changed (break_set at) o chip name) chip
    by None e = record { parts = refl; cells = refl }
    by (Some part) e =
        let index = index_of name in
        let is = get_or_from_slice_get chip.parts index part part e in
        let same = ap (set chip.parts index) (sym is) ∙ set-get_or chip.parts index part in
        record {
          parts =
              map-set unbroken chip.parts index (break_set at part)
              ∙ sym (map-set unbroken chip.parts index part) ∙ ap (map unbroken) same;
          cells = refl;
        }

-- a legal chip has each node
pub there : (chip : Chip) (name : ℕ) → IsLegal chip → IsNodeName name
    → (part : Part) × (part_of chip name ≡ Some part)
there chip name legal named =
    let index = index_of name in
    let below : index < 144 = grind (arith, common_steps) in
    let within : index < length chip.parts = omega (arith, below, legal.parts) in
    let none = reset_part name in
    (get_or chip.parts index none, slice_get-get_or chip.parts index none within)

-- a piece that is accepted
pub piece_fed : (chip : Chip) (name : ℕ) (words : List ℕ) → IsLegal chip → IsNodeName name
    → feed_refusal chip name ≡ None → words_fed chip (Piece name words ∷ []) name ≡ words
piece_fed chip name words legal named accepted =
    let is = (there chip name legal named).1 in
    let opened : is_open chip name ≡ true = grind (arith, common_steps, is) in
    grind (arith, common_steps, append-nil)

-- More happens to a chip: it was fed the words before, and is fed these.
pub fed_more : RunsJoin → (chip : Chip) (name : ℕ) (given more : List ℕ) (events : List Event)
    → IsFed chip name given → words_fed chip events name ≡ more
    → IsFed (ran chip events) name (given ++ more)
fed_more joined chip name given more events fed feeds =
    let both = joined fed.first fed.events events fed.legal in
    let feeds_more = subst (λ c. words_fed c events name ≡ more) fed.leads feeds in
    record {
      first = fed.first;
      legal = fed.legal;
      opened = fed.opened;
      events = fed.events ++ events;
      leads = ap (λ c. ran c events) fed.leads ∙ sym both.leads;
      fed = both.fed name ∙ ap₂ (λ a b. a ++ b) fed.fed feeds_more;
    }

pub fed_none : RunsJoin → (chip : Chip) (name : ℕ) (given : List ℕ) (events : List Event)
    → IsFed chip name given → words_fed chip events name ≡ [] → IsFed (ran chip events) name given
fed_none joined chip name given events fed feeds =
    subst (IsFed (ran chip events) name) (append-nil given)
    (fed_more joined chip name given [] events fed feeds)
