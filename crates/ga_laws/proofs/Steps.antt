-- A try that is Moved makes the row of its node.
use Rattle.std.proofs.Common.{◌≡◌, ◌∙◌, ◌<◌, ℕ, Option, Some, None, option_map, set, refl, sym, ap}
use Rattle.std.proofs.lemmas.Option.{none-some}
use Rattle.ga_place.specs.Cell.{index_of}
use Rattle.ga_place.specs.declared.side.Side.{Side}
use Rattle.ga_place.proofs.Cells.{index_below, one_place}
use Rattle.ga_node.specs.State.{State}
use Rattle.ga_node.specs.Slot.{step}
use Rattle.ga_chip.specs.Chip.{Chip, cells_after, found_by, part_of, tried, tried_at}
use Rattle.ga_chip.specs.Legal.{IsLegal}
use Rattle.ga_chip.specs.Part.{Asks, Check, Feed, Nothing, Own, Part, Post, Take, after, asks}
use Rattle.ga_chip.specs.Run.{ran}
use Rattle.ga_chip.specs.declared.outcome.Outcome.TheVariants.{Moved, Waits}
use Rattle.ga_chip.proofs.Kept.{has_name, legal_ran}
use Rattle.ga_chip.proofs.Lists.{get-set_else, get-set_here}
use Rattle.ga_chip.proofs.Parts.{Passes, passed_after, stand_after, stands_after}
use Rattle.ga_laws.specs.Laws.{MakesRow, StepsAreRows, got}

-- a step by what its try asked for is the row
row_by : (q : Asks) (found : Option ℕ) (state : State) → Passes q found
    → stand_after q found state ≡ step state (got q found)
row_by (Nothing outcome) found state passed = absurd passed
row_by Own found state passed = refl
row_by (Feed word) found state passed = refl
row_by (Post side cell word) found state passed = refl
row_by (Check side cell) None state passed = refl
row_by (Check side cell) (Some word) state passed = cc
row_by (Take side cell) None state passed = absurd (none-some passed.0 passed.1)
row_by (Take side cell) (Some word) state passed = refl

makes_row : (chip : Chip) (name : ℕ) (side : Side) → IsLegal chip → (tried chip name side).0 ≡ Moved
    → MakesRow chip name side
unfolding tried
makes_row chip name side legal moved = by (part_of chip name) refl moved
  where
    low : (part : Part) → part_of chip name ≡ Some part → index_of name < 144
    low part there = index_below name (has_name chip name part legal there)

    by : (o : Option Part) → part_of chip name ≡ o → (tried_at o chip name side).0 ≡ Moved
        → MakesRow chip name side
    by None e m = let no : Waits ≡ Moved = m in cc
    by (Some part) e m =
        let asked = asks part side in
        let found = found_by asked chip.cells in
        let next : Part = (after part side found).1 in
        let leads : (tried_at (part_of chip name) chip name side).1 ≡ record
        { parts = set chip.parts (index_of name) next; cells = cells_after asked chip.cells } =
        ap (λ o. (tried_at o chip name side).1) e in
        let stands : next.state ≡ step part.state (got asked found) = stands_after part side found
        ∙ row_by asked found part.state (passed_after part side found m) in
        record {
          part = part;
          there = e;
          row = ap (λ c. option_map (λ p. p.state) (part_of c name)) leads
              ∙ ap (option_map (λ p. p.state)) (get-set_here chip.parts (index_of name) next part e)
              ∙ ap Some stands;
          others = λ other apart. ap (λ c. part_of c other) leads
              ∙ get-set_else chip.parts (index_of name) (index_of other) next
              (λ same. apart (sym (one_place name other (low part e) same)));
        }

pub steps_are_rows : StepsAreRows
steps_are_rows chip events name side legal moved =
    makes_row (ran chip events) name side (legal_ran chip events legal) moved
