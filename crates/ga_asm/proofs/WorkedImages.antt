-- Images, and a fault's text, that were worked out by hand.
use Rattle.std.proofs.Common.{◌≡◌, ℕ, List, [], ◌∷◌, None, refl, ap, arith, lit<}
use Rattle.std.specs.Prelude.{codes}
use Rattle.std.specs.Fmt.{digits}
use Rattle.ga_word.specs.Word.{bits}
use Rattle.ga_word.specs.declared.op.Op.TheVariants.{Nop, Dup, Drop}
use Rattle.ga_pack.specs.Reading.{no_dest, slot_key, stored, stored_upper, xor_bits}
use Rattle.ga_pack.specs.Model.Layout.{Shared, Alone, Arrangement, GroupWords, Words, fits}
use Rattle.ga_pack.specs.Model.Program.{PlacedSection}
use Rattle.ga_pack.specs.Model.Source.{Here, Instruction}
use Rattle.ga_asm.specs.Assembling.{IsAssembled}
use Rattle.ga_asm.specs.Error.{error_text}
use Rattle.ga_asm.specs.Image.{ImageView, IsImage}
use Rattle.ga_pack.specs.declared.error_kind.AsmErrorKind.TheVariants.{UndefinedLabel}
use Rattle.ga_asm.proofs.Sections.{one_assembled}

-- `node 709 .`
abbrev dots : PlacedSection
dots = record {
  name = 709;
  items =
      record { item = Instruction Nop; place = record { line = 1; column = 10 }; name_place = None }
      ∷ [];
}

abbrev pub dots_image : ImageView
dots_image =
    record { words = 0x2_C9B2 ∷ []; code_len = 1; entry = 0; labels = []; item_counts = 1 ∷ [] }

pub is_dots_image : IsImage (Instruction Nop ∷ []) dots_image
unfolding Words GroupWords Arrangement fits bits stored stored_upper slot_key xor_bits
is_dots_image = record {
  laid = record {
    groups = Shared (Instruction Nop) [] ∷ [];
    stand_in = record { in_order = refl; arranged = (refl, refl, tt) };
    labels_are = refl;
    all_defined = refl;
    in_reach = refl;
    words_are = (
      0x2_C9B2 ∷ [],
      [],
      (
        0x2_C9B2,
        record { below = lit< tt; reads = no_dest Nop Nop Nop Nop refl refl refl refl },
        refl,
      ),
      refl,
      refl,
    );
    code_is = refl;
  };
  entry_is = refl;
  counts_are = refl;
}

pub one_nop : IsAssembled (dots ∷ []) ((709, dots_image) ∷ [])
unfolding IsAssembled
one_nop = (refl, is_dots_image, tt)

-- it has no other image, as one that begins at another address
first_entry : List (ℕ × ImageView) → ℕ
first_entry [] = 0
first_entry (image ∷ images) = image.1.entry

pub one_nop-entry : IsAssembled (dots ∷ []) ((709, record dots_image { entry = 1 }) ∷ []) → ⊥
unfolding first_entry
one_nop-entry other =
    let same = one_assembled (dots ∷ []) ((709, dots_image) ∷ [])
    ((709, record dots_image { entry = 1 }) ∷ []) one_nop other in
    let entry : 1 ≡ 0 = ap first_entry same in
    absurd (omega (arith, entry))

-- `dup main: drop`: the label begins a word, and is the entry
pub main_second : IsImage (Instruction Dup ∷ Here (codes "main") ∷ Instruction Drop ∷ []) (record {
  words = 0x2_49B2 ∷ 0x3_A9B2 ∷ [];
  code_len = 2;
  entry = 1;
  labels = (codes "main", 1) ∷ [];
  item_counts = 1 ∷ 1 ∷ 1 ∷ [];
})
unfolding Words GroupWords Arrangement fits bits stored stored_upper slot_key xor_bits
main_second = record {
  laid = record {
    groups = Shared (Instruction Dup) [] ∷ Alone (Here (codes "main"))
        ∷ Shared (Instruction Drop) [] ∷ [];
    stand_in = record { in_order = refl; arranged = (refl, refl, (refl, (refl, refl, tt))) };
    labels_are = refl;
    all_defined = refl;
    in_reach = refl;
    words_are = (
      0x2_49B2 ∷ [],
      0x3_A9B2 ∷ [],
      (
        0x2_49B2,
        record { below = lit< tt; reads = no_dest Dup Nop Nop Nop refl refl refl refl },
        refl,
      ),
      (
        [],
        0x3_A9B2 ∷ [],
        refl,
        (
          0x3_A9B2 ∷ [],
          [],
          (
            0x3_A9B2,
            record { below = lit< tt; reads = no_dest Drop Nop Nop Nop refl refl refl refl },
            refl,
          ),
          refl,
          refl,
        ),
        refl,
      ),
      refl,
    );
    code_is = refl;
  };
  entry_is = refl;
  counts_are = refl;
}

-- `node 000 jump x`
pub undefined_text : error_text (record { kind = UndefinedLabel; node = 0; line = 1; column = 15 })
    ≡ codes "000 1:15 UndefinedLabel"
unfolding digits
undefined_text = refl
