-- What a number that is put together of the slots' fields reads as.
use Rattle.std.proofs.Common.{◌≡◌, ℕ, ◌+◌, ◌*◌, ◌^◌, ◌<◌, true, false, [], ◌∷◌, ◌++◌, Some, None}
use Rattle.ga_word.specs.Op.{fits_slot3, takes_dest}
use Rattle.ga_word.specs.Word.{bits}
use Rattle.ga_word.specs.declared.op.Op.{Op}
use Rattle.ga_pack.specs.Reading.{Reads, dest_after_slot0, dest_after_slot1, dest_after_slot2, no_dest, stored, stored_upper}
use Rattle.ga_pack.proofs.BitLists.{bits-joined}

pub made_behind_slot0 : (n field spare dest : ℕ) (op : Op) → takes_dest op ≡ true
    → stored 0 op ≡ bits 5 field → spare < 2 ^ 3 → dest < 2 ^ 10
    → n ≡ (field * 2 ^ 3 + spare) * 2 ^ 10 + dest → Reads (bits 18 n) (op ∷ []) (Some dest) spare
made_behind_slot0 n field spare dest op takes in_slot0 fits_spare fits is =
    let whole = bits-joined 8 10 (field * 2 ^ 3 + spare) dest fits in
    let front = bits-joined 5 3 field spare fits_spare in
    let spelled : stored 0 op ++ bits 3 spare ++ bits 10 dest ≡ bits 18 n = cc in
    rw (← spelled) (dest_after_slot0 op spare dest takes fits_spare fits)

pub made_behind_slot1 : (n field field' dest : ℕ) (a op : Op) → takes_dest a ≡ false
    → takes_dest op ≡ true → stored 0 a ≡ bits 5 field → stored 1 op ≡ bits 5 field'
    → field' < 2 ^ 5 → dest < 2 ^ 8 → n ≡ (field * 2 ^ 5 + field') * 2 ^ 8 + dest
    → Reads (bits 18 n) (a ∷ op ∷ []) (Some dest) 0
made_behind_slot1 n field field' dest a op none takes in_slot0 in_slot1 fits_field fits is =
    let whole = bits-joined 10 8 (field * 2 ^ 5 + field') dest fits in
    let front = bits-joined 5 5 field field' fits_field in
    let spelled : stored 0 a ++ stored 1 op ++ bits 8 dest ≡ bits 18 n = cc in
    rw (← spelled) (dest_after_slot1 a op dest none takes fits)

pub made_behind_slot2 : (n field field' field'' dest : ℕ) (a b op : Op) → takes_dest a ≡ false
    → takes_dest b ≡ false → takes_dest op ≡ true → stored 0 a ≡ bits 5 field
    → stored 1 b ≡ bits 5 field' → stored 2 op ≡ bits 5 field'' → field' < 2 ^ 5 → field'' < 2 ^ 5
    → dest < 2 ^ 3 → n ≡ ((field * 2 ^ 5 + field') * 2 ^ 5 + field'') * 2 ^ 3 + dest
    → Reads (bits 18 n) (a ∷ b ∷ op ∷ []) (Some dest) 0
made_behind_slot2 n field field' field'' dest a b op none none_b takes in_slot0 in_slot1 in_slot2
    fits_field' fits_field'' fits is =
    let whole = bits-joined 15 3 ((field * 2 ^ 5 + field') * 2 ^ 5 + field'') dest fits in
    let upper = bits-joined 10 5 (field * 2 ^ 5 + field') field'' fits_field'' in
    let front = bits-joined 5 5 field field' fits_field' in
    let spelled : stored 0 a ++ stored 1 b ++ stored 2 op ++ bits 3 dest ≡ bits 18 n = cc in
    rw (← spelled) (dest_after_slot2 a b op dest none none_b takes fits)

pub made_without_dest : (n field field' field'' upper : ℕ) (a b c d : Op) → takes_dest a ≡ false
    → takes_dest b ≡ false → takes_dest c ≡ false → fits_slot3 d ≡ true → stored 0 a ≡ bits 5 field
    → stored 1 b ≡ bits 5 field' → stored 2 c ≡ bits 5 field'' → stored_upper d ≡ bits 3 upper
    → field' < 2 ^ 5 → field'' < 2 ^ 5 → upper < 2 ^ 3
    → n ≡ ((field * 2 ^ 5 + field') * 2 ^ 5 + field'') * 2 ^ 3 + upper
    → Reads (bits 18 n) (a ∷ b ∷ c ∷ d ∷ []) None 0
made_without_dest n field field' field'' upper a b c d none none_b none_c fits_d in_slot0 in_slot1
    in_slot2 in_slot3 fits_field' fits_field'' fits is =
    let whole = bits-joined 15 3 ((field * 2 ^ 5 + field') * 2 ^ 5 + field'') upper fits in
    let above = bits-joined 10 5 (field * 2 ^ 5 + field') field'' fits_field'' in
    let front = bits-joined 5 5 field field' fits_field' in
    let spelled : stored 0 a ++ stored 1 b ++ stored 2 c ++ stored_upper d ≡ bits 18 n = cc in
    rw (← spelled) (no_dest a b c d none none_b none_c fits_d)
