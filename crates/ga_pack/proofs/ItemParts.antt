-- What is right of the parts of a right item.
use Rattle.std.proofs.Common.{◌≡◌, ◌∙◌, ℕ, suc, true, false, List, ◌∷◌, ◌++◌, length, Option, sym}
use Rattle.std.specs.Prelude.{◌&&◌, ◌^◌, nat_lt, not}
use Rattle.std.specs.List.{list_all}
use Rattle.std.proofs.lemmas.Bool.{and_parts, not-true}
use Rattle.std.proofs.lemmas.List.Folds.{list_all-append}
use Rattle.ga_word.specs.declared.op.Op.{Op}
use Rattle.ga_word.specs.Op.{takes_dest}
use Rattle.ga_pack.specs.Followers.{is_followed}
use Rattle.ga_pack.specs.Model.Source.{Value, Item, Instruction, Transfer, Word, WordTo, is_below, is_item, is_spare, stand_from}
use Rattle.ga_pack.specs.Slots.{dest_bound, op_fits}

pub stand_parts : (slot : ℕ) (o : Op) (ops : List Op) → stand_from slot (o ∷ ops) ≡ true
    → (takes_dest o ≡ false) × (op_fits slot o ≡ true) × (stand_from (suc slot) ops ≡ true)
stand_parts slot o ops h =
    let parts = and_parts (not (takes_dest o) && op_fits slot o) (stand_from (suc slot) ops) h in
    let here = and_parts (not (takes_dest o)) (op_fits slot o) parts.0 in
    (not-true (takes_dest o) here.0, here.1, parts.1)

pub instruction_parts : (o : Op) → is_item (Instruction o) ≡ true
    → (takes_dest o ≡ false) × (is_followed o ≡ false)
unfolding is_item
instruction_parts o h =
    let parts = and_parts (not (takes_dest o)) (not (is_followed o)) h in
    (not-true (takes_dest o) parts.0, not-true (is_followed o) parts.1)

pub transfer_parts : (o : Op) (v : Value) → is_item (Transfer o v) ≡ true
    → (takes_dest o ≡ true) × (is_below (2 ^ 10) v ≡ true)
unfolding is_item
transfer_parts o v h = and_parts (takes_dest o) (is_below (2 ^ 10) v) h

pub word_parts : (ops : List Op) → is_item (Word ops) ≡ true
    → (nat_lt 0 (length ops) ≡ true) × (stand_from 0 ops ≡ true)
unfolding is_item
word_parts ops h = and_parts (nat_lt 0 (length ops)) (stand_from 0 ops) h

pub record IsWordTo (ops : List Op) (o : Op) (v : Value) (k : Option ℕ) : Type 0 where
  pub stands : stand_from 0 ops ≡ true
  pub short : nat_lt (length ops) 3 ≡ true
  pub dest : takes_dest o ≡ true
  pub below : is_below (dest_bound (length ops)) v ≡ true
  pub spare : is_spare (length ops) k ≡ true

pub word_to_parts : (ops : List Op) (o : Op) (v : Value) (spare : Option ℕ)
    → is_item (WordTo ops o v spare) ≡ true → IsWordTo ops o v spare
unfolding is_item
word_to_parts ops o v spare h =
    let four = and_parts (stand_from 0 ops && nat_lt (length ops) 3 && takes_dest o
    && is_below (dest_bound (length ops)) v) (is_spare (length ops) spare) h in
    let three = and_parts (stand_from 0 ops && nat_lt (length ops) 3 && takes_dest o)
    (is_below (dest_bound (length ops)) v) four.0 in
    let two = and_parts (stand_from 0 ops && nat_lt (length ops) 3) (takes_dest o) three.0 in
    let one = and_parts (stand_from 0 ops) (nat_lt (length ops) 3) two.0 in
    record { stands = one.0; short = one.1; dest = two.1; below = three.1; spare = four.1 }

-- each of some right items is right
pub all_parts : (front back : List Item) → list_all is_item (front ++ back) ≡ true
    → (list_all is_item front ≡ true) × (list_all is_item back ≡ true)
all_parts front back h =
    and_parts (list_all is_item front) (list_all is_item back)
    (sym (list_all-append is_item front back) ∙ h)
