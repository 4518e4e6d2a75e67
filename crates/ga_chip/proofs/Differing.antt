-- Chips that differ in breakpoints and passes at most.
use Rattle.std.proofs.Common.{◌≡◌, ◌∙◌, ◌+◌, ◌≤◌, ℕ, length, Option, Some, None, option_map, slice_get, refl, sym, ap, ap₂, subst}
use Rattle.std.specs.Option.{option_to_list}
use Rattle.std.proofs.lemmas.List.{length-map}
use Rattle.std.proofs.lemmas.Option.{none-some, same_Some, slice_get-map}
use Rattle.ga_place.specs.Cell.{index_of}
use Rattle.ga_chip.specs.Part.{Part, count_at}
use Rattle.ga_chip.specs.Chip.{Chip, part_of, pending_in}
use Rattle.ga_chip.specs.Legal.{DifferInBreaks, IsLegal, StandsAtCheck, unbroken}

pub differ_back : (one two : Chip) → DifferInBreaks one two → DifferInBreaks two one
differ_back one two differ = record { parts = sym differ.parts; cells = sym differ.cells }

pub differ_not : (chip : Chip) → DifferInBreaks chip chip
differ_not chip = record { parts = refl; cells = refl }

-- The other chip's part of a node.
pub record IsBare (one : Chip) (name : ℕ) (part : Part) : Type 0 where
  pub old : Part
  pub there : part_of one name ≡ Some old
  pub bare : unbroken old ≡ unbroken part

pub bare_part : (one two : Chip) (name : ℕ) (part : Part) → DifferInBreaks one two
    → part_of two name ≡ Some part → IsBare one name part
bare_part one two name part differ there = by (part_of one name) refl
  where
    same : option_map unbroken (part_of one name) ≡ Some (unbroken part)
    same =
        sym (slice_get-map unbroken one.parts (index_of name))
        ∙ ap (λ ps. slice_get ps (index_of name)) differ.parts
        ∙ slice_get-map unbroken two.parts (index_of name) ∙ ap (option_map unbroken) there

    by : (o : Option Part) → part_of one name ≡ o → IsBare one name part
    by (Some old) e = record {
      old = old;
      there = e;
      bare = same_Some (unbroken old) (unbroken part) (sym (ap (option_map unbroken) e) ∙ same);
    }
    by None e = absurd (none-some (unbroken part) (sym (ap (option_map unbroken) e) ∙ same))

-- so if one is legal, both are
pub legal_alike : (one two : Chip) → DifferInBreaks one two → IsLegal one → IsLegal two
legal_alike one two differ legal = record {
  parts = sym (length-map two.parts unbroken) ∙ ap length (sym differ.parts)
      ∙ length-map one.parts unbroken ∙ legal.parts;
  cells = ap length (sym differ.cells) ∙ legal.cells;
  named = λ name part there.
      let b = bare_part one two name part differ there in
      ap (λ (p : Part). p.state.node) (sym b.bare) ∙ legal.named name b.old b.there;
  balanced = λ name other cell side writer reader at near there read.
      let w = bare_part one two name writer differ there in
      let r = bare_part one two other reader differ read in
      ap (λ (p : Part). count_at side p.written) (sym w.bare)
      ∙ legal.balanced name other cell side w.old r.old at near w.there r.there
      ∙ ap₂ (λ (p : Part) cells. count_at side p.read
      + length (option_to_list (pending_in cells cell))) r.bare differ.cells;
  checked = λ name cell word side writer at there full.
      let w = bare_part one two name writer differ there in
      subst (λ (p : Part). StandsAtCheck p.state side) w.bare (legal.checked name cell word side
      w.old at w.there (ap (λ cells. pending_in cells cell) differ.cells ∙ full));
  within_steps = λ name side writer there.
      let w = bare_part one two name writer differ there in
      subst (λ (p : Part). count_at side p.written ≤ p.state.steps) w.bare
      (legal.within_steps name side w.old w.there);
}
