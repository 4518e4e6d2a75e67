-- A try at a part that is there, and that only Moved changes anything.
use Rattle.std.proofs.Common.{◌≡◌, ℕ, ◌<◌, length, slice_get, List, set, get_or, Option, Some, None, refl, sym, ap, ap₂, ◌∙◌}
use Rattle.std.proofs.lemmas.List.{set-get_or}
use Rattle.std.proofs.lemmas.Option.{slice_get_read}
use Rattle.ga_place.specs.declared.side.Side.{Side}
use Rattle.ga_place.specs.Cell.{index_of}
use Rattle.ga_chip.specs.declared.outcome.Outcome.{Outcome}
use Rattle.ga_chip.specs.declared.outcome.Outcome.TheVariants.{Moved, Waits}
use Rattle.ga_chip.specs.Part.{Part, Asks, Nothing, Own, Feed, Post, Take, Check, asks, after, after_asked, stepped}
use Rattle.ga_chip.specs.Chip.{Chip, part_of, found_by, cells_after, tried, tried_at, tried_by}
use Rattle.ga_chip.specs.Run.{happened, Try}
use Rattle.ga_chip.specs.Legal.{IsLegal}
use Rattle.ga_chip.proofs.Kept.{legal_kept}
use Rattle.ga_chip.proofs.Plain.{after_by, cells_by}
use Rattle.ga_chip.proofs.Lists.{set-get}
use Rattle.ga_chip.proofs.Parts.{still_after}

pub tried_there : (chip : Chip) (name : ℕ) (side : Side) (part : Part)
    → part_of chip name ≡ Some part → tried chip name side
    ≡ tried_by chip name (asks part side) (after part side (found_by (asks part side) chip.cells))
unfolding tried
tried_there chip name side part there = ap (λ o. tried_at o chip name side) there

pub tried_none : (chip : Chip) (name : ℕ) (side : Side) → part_of chip name ≡ None
    → tried chip name side ≡ (Waits, chip)
unfolding tried
tried_none chip name side e = ap (λ o. tried_at o chip name side) e

still_cells : (q : Asks) (cells : List (Option ℕ)) (part : Part)
    → ((after_asked q (found_by q cells) part).0 ≡ Moved → ⊥) → cells_after q cells ≡ cells
still_cells (Nothing outcome) cells part still = refl
still_cells Own cells part still = refl
still_cells (Feed fed) cells part still = refl
still_cells (Post side cell word) cells part still = absurd (still refl)
still_cells (Check side cell) cells part still = refl
still_cells (Take side cell) cells part still = go (get_or cells cell None) refl
  where
    go : (o : Option ℕ) → get_or cells cell None ≡ o → set cells cell None ≡ cells
    go None e = ap (set cells cell) (sym e) ∙ set-get_or cells cell None
    go (Some word) e = absurd (still (ap (λ o. (after_asked (Take side cell) o part).0) e))

pub still_at : (part : Part) (side : Side) (cells : List (Option ℕ))
    → ((after part side (found_by (asks part side) cells)).0 ≡ Moved → ⊥)
    → cells_after (asks part side) cells ≡ cells
unfolding after
still_at part side cells still = still_cells (asks part side) cells part still

-- a try that isn't Moved changes nothing
pub tried_still : (chip : Chip) (name : ℕ) (side : Side) → ((tried chip name side).0 ≡ Moved → ⊥)
    → (tried chip name side).1 ≡ chip
tried_still chip name side still = by (part_of chip name) refl
  where
    by : (o : Option Part) → part_of chip name ≡ o → (tried chip name side).1 ≡ chip
    by None e = ap (λ r. r.1) (tried_none chip name side e)
    by (Some part) e =
        let there = tried_there chip name side part e in
        let stays : (after part side (found_by (asks part side) chip.cells)).0 ≡ Moved → ⊥ =
        λ f. still (ap (λ r. r.0) there ∙ f) in
        ap (λ r. r.1) there
        ∙ ap₂ (λ ps cs. record { parts = ps; cells = cs })
        (ap (set chip.parts (index_of name)) (still_after part side
        (found_by (asks part side) chip.cells) stays) ∙ set-get chip.parts (index_of name) part e)
        (still_at part side chip.cells stays)

-- a legal chip stays legal
pub legal_tried : (chip : Chip) (name : ℕ) (side : Side) → IsLegal chip
    → IsLegal (tried chip name side).1
unfolding happened
legal_tried chip name side legal = legal_kept chip (Try name side) legal

pub part_at : (chip : Chip) (name index : ℕ) (part : Part) → length chip.parts ≡ 144
    → index ≡ index_of name → index < 144 → part ≡ get_or chip.parts index part
    → part_of chip name ≡ Some part
part_at chip name index part full is below read =
    ap (slice_get chip.parts) (sym is)
    ∙ slice_get_read chip.parts 144 index part (sym full) below read

-- A try as the code makes it: it tries the part with the cells, and puts back the result.
pub attempt_at : (chip : Chip) (name index : ℕ) (side : Side) (part next : Part) (outcome : Outcome)
    (left : List (Option ℕ)) → IsLegal chip → index ≡ index_of name → index < 144
    → part ≡ get_or chip.parts index part → ◌≡◌ {A = Outcome
    × Part} (outcome, next) (after part side (found_by (asks part side) chip.cells))
    → left ≡ cells_after (asks part side) chip.cells → ◌≡◌ {A = Outcome × Chip}
    (outcome, record { parts = set chip.parts index next; cells = left }) (tried chip name side)
attempt_at chip name index side part next outcome left legal is below read done put =
    let there : part_of chip name ≡ Some part =
    part_at chip name index part legal.parts is below read in
    ap₂ (λ r cs. (r.0, record { parts = set chip.parts index r.1; cells = cs })) done put
    ∙ ap (λ i. (
      (after part side (found_by (asks part side) chip.cells)).0,
      record {
        parts = set chip.parts i (after part side (found_by (asks part side) chip.cells)).1;
        cells = cells_after (asks part side) chip.cells;
      },
    )) is
    ∙ sym (tried_there chip name side part there)

-- a try that is the node's own work
pub own_at : (chip : Chip) (name index : ℕ) (side : Side) (part next : Part) → IsLegal chip
    → index ≡ index_of name → index < 144 → part ≡ get_or chip.parts index part
    → asks part side ≡ Own → next ≡ stepped None part → ◌≡◌ {A = Outcome
    × Chip} (Moved, record chip { parts = set chip.parts index next }) (tried chip name side)
own_at chip name index side part next legal is below read own step =
    let there : part_of chip name ≡ Some part =
    part_at chip name index part legal.parts is below read in
    ap₂ (λ i p. (Moved, record chip { parts = set chip.parts i p })) is step
    ∙ ap (λ r. (r.0, record chip { parts = set chip.parts (index_of name) r.1 }))
    (after_by part side chip.cells Own (Moved, stepped None part) own refl)
    ∙ ap (λ cs. (
      (after part side (found_by (asks part side) chip.cells)).0,
      record {
        parts = set chip.parts (index_of name)
            (after part side (found_by (asks part side) chip.cells)).1;
        cells = cs;
      },
    )) (cells_by part side chip.cells chip.cells Own own refl)
    ∙ sym (tried_there chip name side part there)
