-- The text of the firmware has the image that was worked out by hand, and the law's conditions of a
-- boot hold for it.
use Rattle.std.proofs.Common.{◌≡◌, ℕ, List, [], ◌∷◌, None, Ok, refl}
use Rattle.std.specs.List.{IsDistinct}
use Rattle.std.specs.Prelude.{codes}
use Rattle.std.proofs.lemmas.List.Sorted.{IsPermutation-refl}
use native.Mathlib.Bridge.{IsLe, le_by_compare}
use Rattle.ga_word.specs.declared.op.Op.TheVariants.{Nop}
use Rattle.ga_pack.specs.Model.LayoutFault.{AllPass, AllRight, IsRight, fault_behind}
use Rattle.ga_pack.specs.Model.Token.{meaning_at, meaning_of, meanings}
use Rattle.ga_pack.specs.Model.Program.{IsProgram, PlacedSection, placed_items, placed_sections, tokens_of}
use Rattle.ga_pack.specs.Model.Source.{Code, Instruction, Items, Sections, Source, is_item, part_after}
use Rattle.ga_pack.specs.Model.Text.{end_of, lexemes, places_of, texts_of}
use Rattle.ga_pack.specs.Model.Layout.{Arrangement}
use Rattle.ga_pack.proofs.OneFault.{right_program}
use Rattle.ga_place.specs.Node.{IsNodeName}
use Rattle.ga_asm.specs.Assembling.{IsAssembled}
use Rattle.ga_asm.specs.Text.{AtMostOne, HasImages, IsImagesOf}
use Rattle.ga_asm.proofs.WorkedImages.{is_dots_image}
use Rattle.ga_path.specs.Stream.{Images}
use Rattle.ga_path.specs.Tree.{IsSound}
use Rattle.ga_law_examples.specs.Firmware.{firmware, fork}

abbrev pub text : List ℕ
text = codes "node 708 . node 709 . node 608 ."

-- three nodes with one item each, `.`
abbrev dot_at : ℕ → ℕ → PlacedSection
dot_at name column = record {
  name = name;
  items = record
      { item = Instruction Nop; place = record { line = 1; column = column }; name_place = None }
      ∷ [];
}

abbrev program : List PlacedSection
program = dot_at 708 10 ∷ dot_at 709 21 ∷ dot_at 608 32 ∷ []

is_program : IsProgram text program
unfolding IsProgram tokens_of texts_of places_of lexemes end_of meanings meaning_at meaning_of
    Source Sections Items is_item part_after placed_sections placed_items
is_program = (
  record { name = 708; items = Instruction Nop ∷ [] }
      ∷ record { name = 709; items = Instruction Nop ∷ [] }
      ∷ record { name = 608; items = Instruction Nop ∷ [] }
      ∷ [],
  (
    refl,
    (
      refl,
      (Code 0, refl, refl, refl, refl),
      (refl, (Code 0, refl, refl, refl, refl), (refl, (Code 0, refl, refl, refl, refl), tt)),
    ),
  ),
  refl,
)

assembled : IsAssembled program firmware
unfolding IsAssembled
assembled = (refl, is_dots_image, (refl, is_dots_image, (refl, is_dots_image, tt)))

-- each section is laid, and none of its items has a fault
dot_right : IsRight (Instruction Nop ∷ [])
unfolding AllPass Arrangement fault_behind
dot_right = record {
  words = 0x2C9B2 ∷ [];
  labels = [];
  code_len = 1;
  laid = is_dots_image.laid;
  passed = (
    record { groups = []; stand_in = record { in_order = refl; arranged = tt }; fault_is = refl },
    tt,
  );
}

all_right : AllRight program
unfolding AllRight
all_right = (dot_right, (dot_right, (dot_right, tt)))

pub has_firmware : HasImages text firmware
has_firmware = record {
  program = program;
  program_is = is_program;
  faultless = λ node place kind. right_program all_right;
  assembled = assembled;
}

-- so the text's images are these
pub is_firmware : (images : Images) → AtMostOne (IsImagesOf text) → HasImages text images
    → images ≡ firmware
is_firmware images only h = let same = only (Ok images) (Ok firmware) h has_firmware in cc

-- what a boot asks for
pub first_named : IsNodeName 708
unfolding IsLe
first_named = (le_by_compare 8 8 tt, le_by_compare 9 18 tt)

pub fork_sound : IsSound fork
unfolding IsDistinct
fork_sound = record {
  edge = refl;
  near = (refl, tt, (refl, tt, tt));
  once = ((refl, (refl, tt)), ((refl, tt), (tt, tt)));
  nodes = IsPermutation-refl fork.nodes;
}
