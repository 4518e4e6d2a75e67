-- What the calls that open and feed a stream make of the chip.
use Rattle.std.proofs.Common.{◌≡◌, ◌<◌, ◌∙◌, ℕ, List, Some, None, ap, get_or, length, refl, set, subst, sym}
use Rattle.std.specs.Option.{option_and_then}
use Rattle.ga_place.specs.Cell.{index_of}
use Rattle.ga_chip.specs.declared.error.ChipError.{ChipError}
use Rattle.ga_chip.specs.Part.{Part}
use Rattle.ga_chip.specs.Chip.{Chip, opening, part_of, stream_opened, unless_refused, with_changed}
use Rattle.ga_chip.specs.Legal.{IsLegal}
use Rattle.ga_chip.specs.Run.{Piece, happened, piece_come}
use Rattle.ga_chip.specs.Stream.{feed_refusal, part_feed_refusal}
use Rattle.ga_chip.proofs.Kept.{legal_kept}
use Rattle.ga_chip.proofs.Lists.{set-get}
use Rattle.ga_chip.proofs.Tries.{part_at}
use Rattle.ga_chip.proofs.Uses.{changed_at}

pub opened_is : (chip : Chip) (name : ℕ)
    → stream_opened chip name ≡ with_changed opening (part_of chip name) chip name
unfolding stream_opened
opened_is chip name = refl

-- a part that is put back as it was
pub same_part : (chip : Chip) (name index : ℕ) (part next : Part) → IsLegal chip
    → index ≡ index_of name → index < 144 → part ≡ get_or chip.parts index part → next ≡ part
    → record chip { parts = set chip.parts index next } ≡ chip
same_part chip name index part next legal is below read same =
    ap (λ p. record chip { parts = set chip.parts index p }) same
    ∙ ap (λ ps. record chip { parts = ps }) (ap (λ i. set chip.parts i part) is ∙ set-get chip.parts
    (index_of name) part (part_at chip name index part legal.parts is below read))

-- what the code leaves if it refuses a piece
pub feed_refused_at : (chip changed : Chip) (name index : ℕ) (part : Part) (fault : ChipError)
    → IsLegal chip → index ≡ index_of name → index < 144 → part ≡ get_or chip.parts index part
    → part_feed_refusal part ≡ Some fault → (feed_refusal chip name ≡ Some fault) × (record chip
    { parts = set chip.parts index part } ≡ unless_refused (feed_refusal chip name) changed chip)
feed_refused_at chip changed name index part fault legal is below read refused =
    let there = part_at chip name index part legal.parts is below read in
    let yes : feed_refusal chip name ≡ Some fault =
    ap (option_and_then part_feed_refusal) there ∙ refused in (
      yes,
      same_part chip name index part part legal is below read refl
          ∙ sym (ap (λ r. unless_refused r changed chip) yes),
    )

piece_at : (chip : Chip) (name index : ℕ) (part next : Part) (words : List ℕ)
    → length chip.parts ≡ 144 → index ≡ index_of name → index < 144
    → part ≡ get_or chip.parts index part → next ≡ piece_come words part
    → record chip { parts = set chip.parts index next } ≡ happened chip (Piece name words)
unfolding happened
piece_at chip name index part next words full is below read e =
    changed_at (piece_come words) chip name index part next full is below read e

-- and if it takes one
pub fed_at : (chip : Chip) (name index : ℕ) (part next : Part) (words : List ℕ) → IsLegal chip
    → index ≡ index_of name → index < 144 → part ≡ get_or chip.parts index part
    → part_feed_refusal part ≡ None → next ≡ piece_come words part
    → (feed_refusal chip name ≡ None) × (record chip { parts = set chip.parts index next }
    ≡ unless_refused (feed_refusal chip name) (happened chip (Piece name words)) chip)
    × IsLegal (record chip { parts = set chip.parts index next })
fed_at chip name index part next words legal is below read free gives =
    let there = part_at chip name index part legal.parts is below read in
    let no : feed_refusal chip name ≡ None = ap (option_and_then part_feed_refusal) there ∙ free in
    let leads = piece_at chip name index part next words legal.parts is below read gives in (
      no,
      leads ∙ sym (ap (λ r. unless_refused r (happened chip (Piece name words)) chip) no),
      subst IsLegal (sym leads) (legal_kept chip (Piece name words) legal),
    )
