-- What each reading of a word keeps to.
use Rattle.std.proofs.Common.{ℕ, ◌^◌, ◌<◌, ◌≤◌, List, Option, Some, length, arith, lit<, lit≤}
use Rattle.ga_word.specs.declared.op.Op.{Op}
use Rattle.ga_pack.specs.Reading.{Reads, dest_after_slot0, dest_after_slot1, dest_after_slot2}

-- a destination has ten bits at most
pub dest_below : {word : List ℕ} {ops : List Op} {dest spare : ℕ} → Reads word ops (Some dest) spare
    → dest < 2 ^ 10
dest_below (dest_after_slot0 op spare dest takes fits_spare fits) = fits
dest_below (dest_after_slot1 a op dest none_a takes fits) = omega arith
dest_below (dest_after_slot2 a b op dest none_a none_b takes fits) = omega arith

-- the spare bits are three
pub spare_below : {word : List ℕ} {ops : List Op} {dest : Option ℕ} {spare : ℕ}
    → Reads word ops dest spare → spare < 2 ^ 3
spare_below (dest_after_slot0 op spare dest takes fits_spare fits) = fits_spare
spare_below _ = lit< tt

-- a word has one to four opcodes
pub count_of_ops : {word : List ℕ} {ops : List Op} {dest : Option ℕ} {spare : ℕ}
    → Reads word ops dest spare → (1 ≤ length ops) × (length ops ≤ 4)
count_of_ops (dest_after_slot0 op spare dest takes fits_spare fits) = (lit≤ tt, lit≤ tt)
count_of_ops _ = (lit≤ tt, lit≤ tt)
