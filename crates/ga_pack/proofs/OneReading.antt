-- A word has one reading at most.
use Rattle.std.proofs.Common.{◌≡◌, ℕ, ◌^◌, ◌<◌, true, false, List, [], ◌∷◌, ◌++◌, Option, Some, refl, ap, sym, ◌∙◌, append_assoc}
use Rattle.ga_word.specs.Op.{takes_dest}
use Rattle.ga_word.specs.Word.{bits}
use Rattle.ga_word.specs.declared.op.Op.{Op}
use Rattle.ga_pack.specs.Reading.{Reads, dest_after_slot0, dest_after_slot1, dest_after_slot2, no_dest, stored, stored_upper}
use Rattle.ga_pack.proofs.BitLists.{append_same, bits-injective, length-bits}
use Rattle.ga_pack.proofs.StoredOpcodes.{key0, key1, key2, stored-front, stored_upper-injective}

front0 : (a b : Op) (r s : List ℕ) → stored 0 a ++ r ≡ stored 0 b ++ s → (a ≡ b) × (r ≡ s)
front0 = stored-front 0 0x0A key0

front1 : (a b : Op) (r s : List ℕ) → stored 1 a ++ r ≡ stored 1 b ++ s → (a ≡ b) × (r ≡ s)
front1 = stored-front 1 0x15 key1

front2 : (a b : Op) (r s : List ℕ) → stored 2 a ++ r ≡ stored 2 b ++ s → (a ≡ b) × (r ≡ s)
front2 = stored-front 2 0x0A key2

-- one opcode does not both take a destination and take none
both : (a b : Op) → a ≡ b → takes_dest a ≡ true → takes_dest b ≡ false → ⊥
both a b same takes none = cc

-- Below, x takes a destination in the slot, and y of the other word takes none there.
apart0 : (x y : Op) (r s : List ℕ) → stored 0 x ++ r ≡ stored 0 y ++ s → takes_dest x ≡ true
    → takes_dest y ≡ false → ⊥
apart0 x y r s e takes none = both x y (front0 x y r s e).0 takes none

apart1 : (a b x y : Op) (r s : List ℕ)
    → stored 0 a ++ (stored 1 x ++ r) ≡ stored 0 b ++ (stored 1 y ++ s) → takes_dest x ≡ true
    → takes_dest y ≡ false → ⊥
apart1 a b x y r s e takes none =
    both x y (front1 x y r s (front0 a b (stored 1 x ++ r) (stored 1 y ++ s) e).1).0 takes none

apart2 : (a b c d x y : Op) (r s : List ℕ) → stored 0 a ++ (stored 1 b ++ (stored 2 x ++ r))
    ≡ stored 0 c ++ (stored 1 d ++ (stored 2 y ++ s)) → takes_dest x ≡ true → takes_dest y ≡ false
    → ⊥
apart2 a b c d x y r s e takes none =
    let rest =
    (front0 a c (stored 1 b ++ (stored 2 x ++ r)) (stored 1 d ++ (stored 2 y ++ s)) e).1 in
    both x y (front2 x y r s (front1 b d (stored 2 x ++ r) (stored 2 y ++ s) rest).1).0 takes none

same_reading : {v w : List ℕ} {ops ops' : List Op} {dest dest' : Option ℕ} {spare spare' : ℕ}
    → Reads v ops dest spare → Reads w ops' dest' spare' → v ≡ w
    → (ops ≡ ops') × (dest ≡ dest') × (spare ≡ spare')
same_reading (dest_after_slot0 a s d ta hs hd) (dest_after_slot0 a' s' d' ta' hs' hd') e =
    let f0 =
    front0 a a' (bits 3 s ++ bits 10 d) (bits 3 s' ++ bits 10 d') (simp append_assoc at e) in
    let f1 = append_same (bits 3 s) (bits 3 s') (bits 10 d) (bits 10 d')
    (length-bits 3 s ∙ sym (length-bits 3 s')) f0.1 in (
      ap (λ x. x ∷ []) f0.0,
      ap Some (bits-injective 10 d d' hd hd' f1.1),
      bits-injective 3 s s' hs hs' f1.0,
    )
same_reading (dest_after_slot0 a s d ta hs hd) (dest_after_slot1 a' b' d' na' tb' hd') e =
    absurd
    (apart0 a a' (bits 3 s ++ bits 10 d) (stored 1 b' ++ bits 8 d') (simp append_assoc at e) ta na')
same_reading (dest_after_slot0 a s d ta hs hd) (dest_after_slot2 a' b' c' d' na' nb' tc' hd') e =
    absurd (apart0 a a' (bits 3 s ++ bits 10 d) (stored 1 b' ++ (stored 2 c' ++ bits 3 d'))
    (simp append_assoc at e) ta na')
same_reading (dest_after_slot0 a s d ta hs hd) (no_dest a' b' c' d' na' nb' nc' fd') e =
    absurd (apart0 a a' (bits 3 s ++ bits 10 d) (stored 1 b' ++ (stored 2 c' ++ stored_upper d'))
    (simp append_assoc at e) ta na')
same_reading (dest_after_slot1 a b d na tb hd) (dest_after_slot0 a' s' d' ta' hs' hd') e =
    absurd (apart0 a' a (bits 3 s' ++ bits 10 d') (stored 1 b ++ bits 8 d)
    (simp append_assoc at (sym e)) ta' na)
same_reading (dest_after_slot1 a b d na tb hd) (dest_after_slot1 a' b' d' na' tb' hd') e =
    let f0 =
    front0 a a' (stored 1 b ++ bits 8 d) (stored 1 b' ++ bits 8 d') (simp append_assoc at e) in
    let f1 = front1 b b' (bits 8 d) (bits 8 d') f0.1 in
    let same_a = f0.0 in
    let same_b = f1.0 in
    ((cc), ap Some (bits-injective 8 d d' hd hd' f1.1), refl)
same_reading (dest_after_slot1 a b d na tb hd) (dest_after_slot2 a' b' c' d' na' nb' tc' hd') e =
    absurd (apart1 a a' b b' (bits 8 d) (stored 2 c' ++ bits 3 d') (simp append_assoc at e) tb nb')
same_reading (dest_after_slot1 a b d na tb hd) (no_dest a' b' c' d' na' nb' nc' fd') e =
    absurd
    (apart1 a a' b b' (bits 8 d) (stored 2 c' ++ stored_upper d') (simp append_assoc at e) tb nb')
same_reading (dest_after_slot2 a b c d na nb tc hd) (dest_after_slot0 a' s' d' ta' hs' hd') e =
    absurd (apart0 a' a (bits 3 s' ++ bits 10 d') (stored 1 b ++ (stored 2 c ++ bits 3 d))
    (simp append_assoc at (sym e)) ta' na)
same_reading (dest_after_slot2 a b c d na nb tc hd) (dest_after_slot1 a' b' d' na' tb' hd') e =
    absurd
    (apart1 a' a b' b (bits 8 d') (stored 2 c ++ bits 3 d) (simp append_assoc at (sym e)) tb' nb)
same_reading (dest_after_slot2 a b c d na nb tc hd)
    (dest_after_slot2 a' b' c' d' na' nb' tc' hd') e =
    let f0 = front0 a a' (stored 1 b ++ (stored 2 c ++ bits 3 d))
    (stored 1 b' ++ (stored 2 c' ++ bits 3 d')) (simp append_assoc at e) in
    let f1 = front1 b b' (stored 2 c ++ bits 3 d) (stored 2 c' ++ bits 3 d') f0.1 in
    let f2 = front2 c c' (bits 3 d) (bits 3 d') f1.1 in
    let same_a = f0.0 in
    let same_b = f1.0 in
    let same_c = f2.0 in
    ((cc), ap Some (bits-injective 3 d d' hd hd' f2.1), refl)
same_reading (dest_after_slot2 a b c d na nb tc hd) (no_dest a' b' c' d' na' nb' nc' fd') e =
    absurd (apart2 a b a' b' c c' (bits 3 d) (stored_upper d') (simp append_assoc at e) tc nc')
same_reading (no_dest a b c d na nb nc fd) (dest_after_slot0 a' s' d' ta' hs' hd') e =
    absurd (apart0 a' a (bits 3 s' ++ bits 10 d') (stored 1 b ++ (stored 2 c ++ stored_upper d))
    (simp append_assoc at (sym e)) ta' na)
same_reading (no_dest a b c d na nb nc fd) (dest_after_slot1 a' b' d' na' tb' hd') e =
    absurd (apart1 a' a b' b (bits 8 d') (stored 2 c ++ stored_upper d)
    (simp append_assoc at (sym e)) tb' nb)
same_reading (no_dest a b c d na nb nc fd) (dest_after_slot2 a' b' c' d' na' nb' tc' hd') e =
    absurd
    (apart2 a' b' a b c' c (bits 3 d') (stored_upper d) (simp append_assoc at (sym e)) tc' nc)
same_reading (no_dest a b c d na nb nc fd) (no_dest a' b' c' d' na' nb' nc' fd') e =
    let f0 = front0 a a' (stored 1 b ++ (stored 2 c ++ stored_upper d))
    (stored 1 b' ++ (stored 2 c' ++ stored_upper d')) (simp append_assoc at e) in
    let f1 = front1 b b' (stored 2 c ++ stored_upper d) (stored 2 c' ++ stored_upper d') f0.1 in
    let f2 = front2 c c' (stored_upper d) (stored_upper d') f1.1 in
    let same_a = f0.0 in
    let same_b = f1.0 in
    let same_c = f2.0 in
    let same_d = stored_upper-injective d d' fd fd' f2.1 in
    ((cc), refl, refl)

-- a reading of a word is the only one
pub only_reading : {word : List ℕ} {ops : List Op} {dest : Option ℕ} {spare : ℕ}
    → Reads word ops dest spare → (ops' : List Op) (dest' : Option ℕ) (spare' : ℕ)
    → Reads word ops' dest' spare' → (ops' ≡ ops) × (dest' ≡ dest) × (spare' ≡ spare)
only_reading reading ops' dest' spare' other = same_reading other reading refl

-- two words with one reading are the same
pub one_word : {v w : List ℕ} {ops : List Op} {dest : Option ℕ} {spare : ℕ} → Reads v ops dest spare
    → Reads w ops dest spare → v ≡ w
one_word (dest_after_slot0 a s d ta hs hd) (dest_after_slot0 a' s' d' ta' hs' hd') = refl
one_word (dest_after_slot1 a b d na tb hd) (dest_after_slot1 a' b' d' na' tb' hd') = refl
one_word (dest_after_slot2 a b c d na nb tc hd) (dest_after_slot2 a' b' c' d' na' nb' tc' hd') =
    refl
one_word (no_dest a b c d na nb nc fd) (no_dest a' b' c' d' na' nb' nc' fd') = refl

-- two words with one reading are the same number
pub one_number : {v w : ℕ} {ops : List Op} {dest : Option ℕ} {spare : ℕ} → v < 2 ^ 18 → w < 2 ^ 18
    → Reads (bits 18 v) ops dest spare → Reads (bits 18 w) ops dest spare → v ≡ w
one_number {v = v} {w = w} below_v below_w reads_v reads_w =
    bits-injective 18 v w below_v below_w (one_word reads_v reads_w)
