-- Words that were worked out by hand: these are laid, and wrong ones are not.
use Rattle.std.proofs.Common.{◌≡◌, ℕ, true, List, [], ◌∷◌, None, refl, ap, lit<}
use Rattle.std.specs.List.{list_all}
use Rattle.std.specs.Prelude.{codes}
use Rattle.std.specs.Option.{unwrap_or}
use Rattle.ga_word.specs.Word.{bits}
use Rattle.ga_word.specs.declared.op.Op.{Op}
use Rattle.ga_word.specs.declared.op.Op.TheVariants.{Return, Jump, Call, Micronext, FetchP, FetchB, StorePlus, Store, Plus, Drop, Dup, Nop, Push, AStore}
use Rattle.ga_pack.specs.Reading.{dest_after_slot0, dest_after_slot1, dest_after_slot2, no_dest, slot_key, stored, stored_upper, xor_bits}
use Rattle.ga_pack.specs.Model.Layout.{Labels, Group, Shared, Alone, Arrangement, GroupWords, IsWord, Laid, Words, address_of, all_in_reach, code_end, fits, is_defined, items_of, labels_after, names_in}
use Rattle.ga_pack.specs.Model.Source.{Item, Number, Label, Instruction, Transfer, Literal, Here, Word, Plain, Data}
use Rattle.ga_pack.proofs.OneLayout.{one_laid}

-- items are laid in these groups, with all computed except their places and the words
laid_in : {items : List Item} {words : List ℕ} {labels : Labels} {code_len : ℕ}
    (groups : List Group) → (items_of groups ≡ items) × (labels ≡ labels_after [] 0 groups)
    × (list_all (is_defined (names_in items)) items ≡ true) × (all_in_reach labels 0 groups ≡ true)
    × (code_len ≡ code_end 0 groups) → Arrangement [] 0 groups → Words labels groups words
    → Laid items words labels code_len
laid_in groups computed stand words_are = record {
  groups = groups;
  stand_in = record { in_order = computed.0; arranged = stand };
  labels_are = computed.1;
  all_defined = computed.2;
  in_reach = computed.3;
  words_are = words_are;
  code_is = computed.4;
}

-- ---- one word in brackets

abbrev OneBracket : List Op → ℕ → Type 0
OneBracket ops word = Laid (Word ops ∷ []) (word ∷ []) [] 1

one_bracket : (ops : List Op) (word : ℕ) → IsWord word ops None 0 → OneBracket ops word
unfolding Words GroupWords Arrangement
one_bracket ops word reads =
    laid_in (Alone (Word ops) ∷ []) (refl, refl, refl, refl, refl) (refl, tt)
    (word ∷ [], [], (word, reads, refl), refl, refl)

-- `[ . . . . ]`, `[ @p a! @p . ]`, `[ push ]` with three fillers, `[ @p !+ unext . ]` and `[ @p !
-- unext . ]`
fillers : OneBracket (Nop ∷ Nop ∷ Nop ∷ Nop ∷ []) 0x2_C9B2
    × OneBracket (FetchP ∷ AStore ∷ FetchP ∷ Nop ∷ []) 0x0_4A12
    × OneBracket (Push ∷ []) 0x2_E9B2
    × OneBracket (FetchP ∷ StorePlus ∷ Micronext ∷ Nop ∷ []) 0x0_5872
    × OneBracket (FetchP ∷ Store ∷ Micronext ∷ Nop ∷ []) 0x0_5A72
unfolding bits stored stored_upper slot_key xor_bits
fillers = (
  one_bracket (Nop ∷ Nop ∷ Nop ∷ Nop ∷ []) 0x2_C9B2
      (record { below = lit< tt; reads = no_dest Nop Nop Nop Nop refl refl refl refl }),
  one_bracket (FetchP ∷ AStore ∷ FetchP ∷ Nop ∷ []) 0x0_4A12
      (record { below = lit< tt; reads = no_dest FetchP AStore FetchP Nop refl refl refl refl }),
  one_bracket (Push ∷ []) 0x2_E9B2
      (record { below = lit< tt; reads = no_dest Push Nop Nop Nop refl refl refl refl }),
  one_bracket (FetchP ∷ StorePlus ∷ Micronext ∷ Nop ∷ []) 0x0_5872 (record
      { below = lit< tt; reads = no_dest FetchP StorePlus Micronext Nop refl refl refl refl }),
  one_bracket (FetchP ∷ Store ∷ Micronext ∷ Nop ∷ []) 0x0_5A72
      (record { below = lit< tt; reads = no_dest FetchP Store Micronext Nop refl refl refl refl }),
)

-- ---- slots outside brackets

-- `dup dup dup dup`: slot 3 takes `dup`
pub slot3-dup : Laid (Instruction Dup ∷ Instruction Dup ∷ Instruction Dup ∷ Instruction Dup ∷ [])
    (0x2_4D93 ∷ []) [] 1
unfolding Words GroupWords Arrangement fits bits stored stored_upper slot_key xor_bits
slot3-dup =
    laid_in (Shared (Instruction Dup) (Instruction Dup ∷ Instruction Dup ∷ Instruction Dup ∷ [])
    ∷ []) (refl, refl, refl, refl, refl) (refl, refl, tt) (
      0x2_4D93 ∷ [],
      [],
      (
        0x2_4D93,
        record { below = lit< tt; reads = no_dest Dup Dup Dup Dup refl refl refl refl },
        refl,
      ),
      refl,
      refl,
    )

-- `dup dup dup drop`: slot 3 doesn't take `drop`, which begins the next word
pub slot3-drop : Laid (Instruction Dup ∷ Instruction Dup ∷ Instruction Dup ∷ Instruction Drop ∷ [])
    (0x2_4D92 ∷ 0x3_A9B2 ∷ []) [] 2
unfolding Words GroupWords Arrangement fits bits stored stored_upper slot_key xor_bits
slot3-drop =
    laid_in (Shared (Instruction Dup) (Instruction Dup ∷ Instruction Dup ∷ []) ∷ Shared
    (Instruction Drop) [] ∷ []) (refl, refl, refl, refl, refl) (refl, refl, (refl, refl, tt)) (
      0x2_4D92 ∷ [],
      0x3_A9B2 ∷ [],
      (
        0x2_4D92,
        record { below = lit< tt; reads = no_dest Dup Dup Dup Nop refl refl refl refl },
        refl,
      ),
      (
        0x3_A9B2 ∷ [],
        [],
        (
          0x3_A9B2,
          record { below = lit< tt; reads = no_dest Drop Nop Nop Nop refl refl refl refl },
          refl,
        ),
        refl,
        refl,
      ),
      refl,
    )

-- `$5 $7 + @b`: the numbers follow the word of their `@p`, in order
pub literals-two : Laid (Literal 5 ∷ Literal 7 ∷ Instruction Plus ∷ Instruction FetchB ∷ [])
    (0x0_5DF2 ∷ 5 ∷ 7 ∷ 0x0_09B2 ∷ []) [] 4
unfolding Words GroupWords Arrangement fits bits stored stored_upper slot_key xor_bits
literals-two =
    laid_in (Shared (Literal 5) (Literal 7 ∷ Instruction Plus ∷ []) ∷ Shared (Instruction FetchB) []
    ∷ []) (refl, refl, refl, refl, refl) (refl, refl, (refl, refl, tt)) (
      0x0_5DF2 ∷ 5 ∷ 7 ∷ [],
      0x0_09B2 ∷ [],
      (
        0x0_5DF2,
        record { below = lit< tt; reads = no_dest FetchP FetchP Plus Nop refl refl refl refl },
        refl,
      ),
      (
        0x0_09B2 ∷ [],
        [],
        (
          0x0_09B2,
          record { below = lit< tt; reads = no_dest FetchB Nop Nop Nop refl refl refl refl },
          refl,
        ),
        refl,
        refl,
      ),
      refl,
    )

-- ---- destinations, at address 0

-- `jump right`
pub dest-slot0 : Laid (Transfer Jump (Number 0x1D5) ∷ []) (0x1_01D5 ∷ []) [] 1
unfolding Words GroupWords Arrangement fits bits stored stored_upper slot_key xor_bits
dest-slot0 =
    laid_in (Shared (Transfer Jump (Number 0x1D5)) [] ∷ []) (refl, refl, refl, refl, refl)
    (refl, refl, tt) (
      0x1_01D5 ∷ [],
      [],
      (
        0x1_01D5,
        record { below = lit< tt; reads = dest_after_slot0 Jump 0 0x1D5 refl (lit< tt) (lit< tt) },
        refl,
      ),
      refl,
      refl,
    )

-- `call $001`
pub dest-call : Laid (Transfer Call (Number 0x001) ∷ []) (0x1_2001 ∷ []) [] 1
unfolding Words GroupWords Arrangement fits bits stored stored_upper slot_key xor_bits
dest-call =
    laid_in (Shared (Transfer Call (Number 0x001)) [] ∷ []) (refl, refl, refl, refl, refl)
    (refl, refl, tt) (
      0x1_2001 ∷ [],
      [],
      (
        0x1_2001,
        record { below = lit< tt; reads = dest_after_slot0 Call 0 0x001 refl (lit< tt) (lit< tt) },
        refl,
      ),
      refl,
      refl,
    )

-- `dup jump $02A`
pub dest-slot1 : Laid (Instruction Dup ∷ Transfer Jump (Number 0x02A) ∷ []) (0x2_572A ∷ []) [] 1
unfolding Words GroupWords Arrangement fits bits stored stored_upper slot_key xor_bits
dest-slot1 =
    laid_in (Shared (Instruction Dup) (Transfer Jump (Number 0x02A) ∷ []) ∷ [])
    (refl, refl, refl, refl, refl) (refl, refl, tt) (
      0x2_572A ∷ [],
      [],
      (
        0x2_572A,
        record { below = lit< tt; reads = dest_after_slot1 Dup Jump 0x02A refl refl (lit< tt) },
        refl,
      ),
      refl,
      refl,
    )

-- `dup drop jump $002`: 002 is in the page of P, 001
pub dest-slot2 : Laid
    (Instruction Dup ∷ Instruction Drop ∷ Transfer Jump (Number 0x002) ∷ []) (0x2_4242 ∷ []) [] 1
unfolding Words GroupWords Arrangement fits bits stored stored_upper slot_key xor_bits
dest-slot2 =
    laid_in (Shared (Instruction Dup) (Instruction Drop ∷ Transfer Jump (Number 0x002) ∷ []) ∷ [])
    (refl, refl, refl, refl, refl) (refl, refl, tt) (
      0x2_4242 ∷ [],
      [],
      (
        0x2_4242,
        record {
          below = lit< tt;
          reads = dest_after_slot2 Dup Drop Jump 0x002 refl refl refl (lit< tt);
        },
        refl,
      ),
      refl,
      refl,
    )

-- `dup jump right`: 1D5 is out of reach of slot 1
pub dest-far : Laid
    (Instruction Dup ∷ Transfer Jump (Number 0x1D5) ∷ []) (0x2_49B2 ∷ 0x1_01D5 ∷ []) [] 2
unfolding Words GroupWords Arrangement fits bits stored stored_upper slot_key xor_bits
dest-far =
    laid_in (Shared (Instruction Dup) [] ∷ Shared (Transfer Jump (Number 0x1D5)) [] ∷ [])
    (refl, refl, refl, refl, refl) (refl, refl, (refl, refl, tt)) (
      0x2_49B2 ∷ [],
      0x1_01D5 ∷ [],
      (
        0x2_49B2,
        record { below = lit< tt; reads = no_dest Dup Nop Nop Nop refl refl refl refl },
        refl,
      ),
      (
        0x1_01D5 ∷ [],
        [],
        (
          0x1_01D5,
          record
              { below = lit< tt; reads = dest_after_slot0 Jump 0 0x1D5 refl (lit< tt) (lit< tt) },
          refl,
        ),
        refl,
        refl,
      ),
      refl,
    )

-- ---- borders

-- `; dup`: no item follows `;` in its word
pub behind_return : Laid (Instruction Return ∷ Instruction Dup ∷ []) (0x1_49B2 ∷ 0x2_49B2 ∷ []) [] 2
unfolding Words GroupWords Arrangement fits bits stored stored_upper slot_key xor_bits
behind_return =
    laid_in (Shared (Instruction Return) [] ∷ Shared (Instruction Dup) [] ∷ [])
    (refl, refl, refl, refl, refl) (refl, refl, (refl, refl, tt)) (
      0x1_49B2 ∷ [],
      0x2_49B2 ∷ [],
      (
        0x1_49B2,
        record { below = lit< tt; reads = no_dest Return Nop Nop Nop refl refl refl refl },
        refl,
      ),
      (
        0x2_49B2 ∷ [],
        [],
        (
          0x2_49B2,
          record { below = lit< tt; reads = no_dest Dup Nop Nop Nop refl refl refl refl },
          refl,
        ),
        refl,
        refl,
      ),
      refl,
    )

-- `dup x: dup`
abbrev x : List ℕ
x = codes "x"

pub label : Laid
    (Instruction Dup ∷ Here x ∷ Instruction Dup ∷ []) (0x2_49B2 ∷ 0x2_49B2 ∷ []) ((x, 1) ∷ []) 2
unfolding Words GroupWords Arrangement fits bits stored stored_upper slot_key xor_bits
label =
    laid_in (Shared (Instruction Dup) [] ∷ Alone (Here x) ∷ Shared (Instruction Dup) [] ∷ [])
    (refl, refl, refl, refl, refl) (refl, refl, (refl, (refl, refl, tt))) (
      0x2_49B2 ∷ [],
      0x2_49B2 ∷ [],
      (
        0x2_49B2,
        record { below = lit< tt; reads = no_dest Dup Nop Nop Nop refl refl refl refl },
        refl,
      ),
      (
        [],
        0x2_49B2 ∷ [],
        refl,
        (
          0x2_49B2 ∷ [],
          [],
          (
            0x2_49B2,
            record { below = lit< tt; reads = no_dest Dup Nop Nop Nop refl refl refl refl },
            refl,
          ),
          refl,
          refl,
        ),
        refl,
      ),
      refl,
    )

-- `[ @p !+ unext . ] , $2C9B2 data , $00001`: two words of code
pub data_part : Laid (Word (FetchP ∷ StorePlus ∷ Micronext ∷ Nop ∷ []) ∷ Plain (Number 0x2_C9B2)
    ∷ Data ∷ Plain (Number 1) ∷ []) (0x0_5872 ∷ 0x2_C9B2 ∷ 1 ∷ []) [] 2
unfolding Words GroupWords Arrangement bits stored stored_upper slot_key xor_bits
data_part =
    laid_in (Alone (Word (FetchP ∷ StorePlus ∷ Micronext ∷ Nop ∷ []))
    ∷ Alone (Plain (Number 0x2_C9B2)) ∷ Alone Data ∷ Alone (Plain (Number 1)) ∷ [])
    (refl, refl, refl, refl, refl) (refl, (refl, (refl, (refl, tt)))) (
      0x0_5872 ∷ [],
      0x2_C9B2 ∷ 1 ∷ [],
      (
        0x0_5872,
        record
            { below = lit< tt; reads = no_dest FetchP StorePlus Micronext Nop refl refl refl refl },
        refl,
      ),
      (
        0x2_C9B2 ∷ [],
        1 ∷ [],
        refl,
        ([], 1 ∷ [], refl, (1 ∷ [], [], refl, refl, refl), refl),
        refl,
      ),
      refl,
    )

-- Two words, `back:`, six words, `dup drop jump back`: back is 002, and the last word would be at
-- 008, where P is 009, in another page.
abbrev back : List ℕ
back = codes "back"

abbrev dots : Item
dots = Word (Nop ∷ [])

is_dots : IsWord 0x2_C9B2 (Nop ∷ []) None 0
unfolding bits stored stored_upper slot_key xor_bits
is_dots = record { below = lit< tt; reads = no_dest Nop Nop Nop Nop refl refl refl refl }

pub another_page : Laid
    (dots ∷ dots ∷ Here back ∷ dots ∷ dots ∷ dots ∷ dots ∷ dots ∷ dots ∷ Instruction Dup
    ∷ Instruction Drop ∷ Transfer Jump (Label back) ∷ []) (0x2_C9B2 ∷ 0x2_C9B2 ∷ 0x2_C9B2 ∷ 0x2_C9B2
    ∷ 0x2_C9B2 ∷ 0x2_C9B2 ∷ 0x2_C9B2 ∷ 0x2_C9B2 ∷ 0x2_42B2 ∷ 0x1_0002 ∷ []) ((back, 2) ∷ []) 10
unfolding Words GroupWords Arrangement fits bits stored stored_upper slot_key xor_bits
another_page =
    laid_in (Alone dots ∷ Alone dots ∷ Alone (Here back) ∷ Alone dots ∷ Alone dots ∷ Alone dots
    ∷ Alone dots ∷ Alone dots ∷ Alone dots ∷ Shared (Instruction Dup) (Instruction Drop ∷ [])
    ∷ Shared (Transfer Jump (Label back)) [] ∷ []) (refl, refl, refl, refl, refl) (
      refl,
      (
        refl,
        (refl, (refl, (refl, (refl, (refl, (refl, (refl, (refl, refl, (refl, refl, tt))))))))),
      ),
    ) (
      0x2_C9B2 ∷ [],
      0x2_C9B2 ∷ 0x2_C9B2 ∷ 0x2_C9B2 ∷ 0x2_C9B2 ∷ 0x2_C9B2 ∷ 0x2_C9B2 ∷ 0x2_C9B2 ∷ 0x2_42B2
          ∷ 0x1_0002 ∷ [],
      (0x2_C9B2, is_dots, refl),
      (
        0x2_C9B2 ∷ [],
        0x2_C9B2 ∷ 0x2_C9B2 ∷ 0x2_C9B2 ∷ 0x2_C9B2 ∷ 0x2_C9B2 ∷ 0x2_C9B2 ∷ 0x2_42B2 ∷ 0x1_0002 ∷ [],
        (0x2_C9B2, is_dots, refl),
        (
          [],
          0x2_C9B2 ∷ 0x2_C9B2 ∷ 0x2_C9B2 ∷ 0x2_C9B2 ∷ 0x2_C9B2 ∷ 0x2_C9B2 ∷ 0x2_42B2 ∷ 0x1_0002
              ∷ [],
          refl,
          (
            0x2_C9B2 ∷ [],
            0x2_C9B2 ∷ 0x2_C9B2 ∷ 0x2_C9B2 ∷ 0x2_C9B2 ∷ 0x2_C9B2 ∷ 0x2_42B2 ∷ 0x1_0002 ∷ [],
            (0x2_C9B2, is_dots, refl),
            (
              0x2_C9B2 ∷ [],
              0x2_C9B2 ∷ 0x2_C9B2 ∷ 0x2_C9B2 ∷ 0x2_C9B2 ∷ 0x2_42B2 ∷ 0x1_0002 ∷ [],
              (0x2_C9B2, is_dots, refl),
              (
                0x2_C9B2 ∷ [],
                0x2_C9B2 ∷ 0x2_C9B2 ∷ 0x2_C9B2 ∷ 0x2_42B2 ∷ 0x1_0002 ∷ [],
                (0x2_C9B2, is_dots, refl),
                (
                  0x2_C9B2 ∷ [],
                  0x2_C9B2 ∷ 0x2_C9B2 ∷ 0x2_42B2 ∷ 0x1_0002 ∷ [],
                  (0x2_C9B2, is_dots, refl),
                  (
                    0x2_C9B2 ∷ [],
                    0x2_C9B2 ∷ 0x2_42B2 ∷ 0x1_0002 ∷ [],
                    (0x2_C9B2, is_dots, refl),
                    (
                      0x2_C9B2 ∷ [],
                      0x2_42B2 ∷ 0x1_0002 ∷ [],
                      (0x2_C9B2, is_dots, refl),
                      (
                        0x2_42B2 ∷ [],
                        0x1_0002 ∷ [],
                        (
                          0x2_42B2,
                          record {
                            below = lit< tt;
                            reads = no_dest Dup Drop Nop Nop refl refl refl refl;
                          },
                          refl,
                        ),
                        (
                          0x1_0002 ∷ [],
                          [],
                          (
                            0x1_0002,
                            record {
                              below = lit< tt;
                              reads = dest_after_slot0 Jump 0 2 refl (lit< tt) (lit< tt);
                            },
                            refl,
                          ),
                          refl,
                          refl,
                        ),
                        refl,
                      ),
                      refl,
                    ),
                    refl,
                  ),
                  refl,
                ),
                refl,
              ),
              refl,
            ),
            refl,
          ),
          refl,
        ),
        refl,
      ),
      refl,
    )

-- ---- what is not laid

-- one instruction in each word
pub not-one_in_each_word : {labels : Labels} {code_len : ℕ}
    → Laid (Instruction Dup ∷ Instruction Dup ∷ Instruction Dup ∷ Instruction Dup ∷ [])
    (0x2_49B2 ∷ 0x2_49B2 ∷ 0x2_49B2 ∷ 0x2_49B2 ∷ []) labels code_len → ⊥
not-one_in_each_word laid = let e = (one_laid slot3-dup laid).0 in cc

-- an item packed behind `;`, in whatever word
pub not-packed_behind_return : {word : ℕ} {labels : Labels} {code_len : ℕ}
    → Laid (Instruction Return ∷ Instruction Dup ∷ []) (word ∷ []) labels code_len → ⊥
not-packed_behind_return laid = let e = (one_laid behind_return laid).0 in cc

-- a word of fillers before a label
pub not-fillers_before_label : {labels : Labels} {code_len : ℕ} → Laid (Instruction Dup ∷ Here x
    ∷ Instruction Dup ∷ []) (0x2_49B2 ∷ 0x2_C9B2 ∷ 0x2_49B2 ∷ []) labels code_len → ⊥
not-fillers_before_label laid = let e = (one_laid label laid).0 in cc

-- a label that counts the opcodes
pub not-another_label : {words : List ℕ} {code_len : ℕ}
    → Laid (Instruction Dup ∷ Here x ∷ Instruction Dup ∷ []) words ((x, 2) ∷ []) code_len → ⊥
not-another_label laid =
    let address : Labels → ℕ = λ labels. unwrap_or (address_of labels x) 0 in
    let e = ap address (one_laid label laid).1 in
    cc
