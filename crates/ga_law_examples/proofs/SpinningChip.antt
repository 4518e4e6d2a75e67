-- The chip whose nodes spin is made from the chip after reset, one node after another.
use Rattle.std.proofs.Common.{◌≡◌, ◌≢◌, ◌∙◌, ap, ap₂, arith, ℕ, zero, suc, ◌+◌, ◌<◌, ◌≤◌}
use Rattle.std.proofs.Common.{Bool, true, false, List, [], ◌∷◌, map, replicate, set, slice_get}
use Rattle.std.proofs.Common.{Some, None, refl, sym, ◌⊎◌, inl, inr}
use Rattle.std.specs.Prelude.{nat_lt, option_map}
use Rattle.std.specs.List.{range_with_len}
use Rattle.std.specs.Option.{option_and_then}
use Rattle.std.proofs.lemmas.Bool.{cases_lt, le-ltb, lt-ltb}
use Rattle.std.proofs.lemmas.Option.{slice_get-map}
use Rattle.ga_place.specs.Cell.{name_at}
use Rattle.ga_place.specs.inner.Index.{index_back}
use Rattle.ga_chip.specs.Part.{Part}
use Rattle.ga_chip.specs.Chip.{Chip, given, part_of, part_refusal, placed, refusal, reset_chip}
use Rattle.ga_chip.specs.Chip.{reset_part, unless_refused, with_changed}
use Rattle.ga_law_examples.specs.Spinning.{JUMP_000, spinning_chip, spinning_part}

-- ---- lists made of a range

alike : (f g : ℕ → Part) (count from : ℕ)
    → ((k : ℕ) → from ≤ k → k < from + count → f k ≡ g k)
    → map f (range_with_len from count) ≡ map g (range_with_len from count)
alike f g zero from same = refl
alike f g (suc count) from same =
    ap₂ (λ x xs. x ∷ xs) (same from (omega arith) (omega arith))
    (alike f g count (from + 1) (λ k h l. same k (omega arith) (omega arith)))

-- one element is changed
put : (f g : ℕ → Part) (count from i at : ℕ) → i < count → at ≡ from + i
    → ((k : ℕ) → k ≢ at → f k ≡ g k)
    → set (map f (range_with_len from count)) i (g at) ≡ map g (range_with_len from count)
put f g zero from i at below is same = absurd (omega arith)
put f g (suc count) from zero at below is same =
    ap₂ (λ x xs. x ∷ xs) (ap g (omega arith))
    (alike f g count (from + 1) (λ k h l. same k (omega arith)))
put f g (suc count) from (suc i) at below is same =
    ap₂ (λ x xs. x ∷ xs) (same from (omega arith))
    (put f g count (from + 1) i at (omega arith) (omega arith) same)

at_index : (count from i : ℕ) → i < count
    → slice_get (range_with_len from count) i ≡ Some (from + i)
at_index zero from i below = absurd (omega arith)
at_index (suc count) from zero below = ap Some (omega arith)
at_index (suc count) from (suc i) below =
    at_index count (from + 1) i (omega arith) ∙ ap Some (omega arith)

-- ---- the chip where the nodes below an index spin

abbrev part_if : Bool → ℕ → Part
part_if true name = spinning_part name
part_if false name = reset_part name

abbrev pub part_to : ℕ → ℕ → Part
part_to n index = part_if (nat_lt index n) (name_at index)

abbrev pub spinning_to : ℕ → Chip
spinning_to n = record {
  parts = map (part_to n) (range_with_len 0 144);
  cells = replicate 524 None;
}

spins_below : (n k : ℕ) → k < n → part_to n k ≡ spinning_part (name_at k)
spins_below n k below = ap (λ b. part_if b (name_at k)) (lt-ltb k n below)

reset_from : (n k : ℕ) → n ≤ k → part_to n k ≡ reset_part (name_at k)
reset_from n k from = ap (λ b. part_if b (name_at k)) (le-ltb k n from)

-- the next node changes no other part
others_same : (n k : ℕ) → k ≢ n → part_to n k ≡ part_to (n + 1) k
others_same n k apart = by (cases_lt k n)
  where
    by : (k < n) ⊎ (n ≤ k) → part_to n k ≡ part_to (n + 1) k
    by (inl less) = spins_below n k less ∙ sym (spins_below (n + 1) k (omega arith))
    by (inr more) = reset_from n k more ∙ sym (reset_from (n + 1) k (omega arith))

pub none_spin : (chip : Chip) → chip ≡ reset_chip → chip ≡ spinning_to 0
unfolding reset_chip
none_spin chip is =
    is ∙ ap (λ ps. record { parts = ps; cells = replicate 524 None })
    (alike (λ index. reset_part (name_at index)) (part_to 0) 144 0
    (λ k h l. sym (reset_from 0 k h)))

pub all_spin : (chip : Chip) → chip ≡ spinning_to 144 → chip ≡ spinning_chip
unfolding spinning_chip
all_spin chip is =
    is ∙ ap (λ ps. record { parts = ps; cells = replicate 524 None })
    (alike (part_to 144) (λ index. spinning_part (name_at index)) 144 0
    (λ k h l. spins_below 144 k l))

next_there : (n : ℕ) → n < 144 → part_of (spinning_to n) (name_at n) ≡ Some (reset_part (name_at n))
next_there n below =
    let read : slice_get (range_with_len 0 144) n ≡ Some n =
    at_index 144 0 n below ∙ ap Some (omega arith) in
    ap (slice_get (spinning_to n).parts) (index_back n below)
    ∙ slice_get-map (part_to n) (range_with_len 0 144) n
    ∙ ap (option_map (part_to n)) read ∙ ap Some (reset_from n n (omega arith))

-- the next node isn't refused, as it is as after reset
next_free : (n : ℕ) → n < 144 → refusal (spinning_to n) (name_at n) ≡ None
next_free n below = ap (option_and_then part_refusal) (next_there n below)

pub not_refused : (chip : Chip) (n node : ℕ) → n < 144 → chip ≡ spinning_to n → node ≡ name_at n
    → refusal chip node ≡ None
not_refused chip n node below is named = ap₂ refusal is named ∙ next_free n below

next_put : (n : ℕ) → n < 144
    → set (spinning_to n).parts n (spinning_part (name_at n)) ≡ (spinning_to (n + 1)).parts
next_put n below =
    ap (set (spinning_to n).parts n) (sym (spins_below (n + 1) n (omega arith)))
    ∙ put (part_to n) (part_to (n + 1)) 144 0 n n below (omega arith) (others_same n)

next_placed : (n : ℕ) → n < 144
    → placed (spinning_to n) (name_at n) (JUMP_000 ∷ []) 0 ≡ spinning_to (n + 1)
unfolding placed
next_placed n below =
    let change = given (JUMP_000 ∷ []) 0 in
    ap (λ o. with_changed change o (spinning_to n) (name_at n)) (next_there n below)
    ∙ ap (λ ps. record { parts = ps; cells = replicate 524 None })
    (ap (λ i. set (spinning_to n).parts i (spinning_part (name_at n))) (index_back n below)
    ∙ next_put n below)

-- what the call that places the words in the next node leaves
pub next_spins : (chip next : Chip) (n node : ℕ) (words : List ℕ) → n < 144
    → chip ≡ spinning_to n → node ≡ name_at n → words ≡ JUMP_000 ∷ []
    → next ≡ unless_refused (refusal chip node) (placed chip node words 0) chip
    → next ≡ spinning_to (n + 1)
next_spins chip next n node words below is named given_words put_in =
    put_in ∙ ap (λ r. unless_refused r (placed chip node words 0) chip)
    (not_refused chip n node below is named)
    ∙ ap₂ (λ c m. placed c m words 0) is named
    ∙ ap (λ ws. placed (spinning_to n) (name_at n) ws 0) given_words
    ∙ next_placed n below
