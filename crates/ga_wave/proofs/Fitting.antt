-- How long a waveform is, by the texts of its turns.
use Rattle.std.proofs.Common.{◌≡◌, ◌∙◌, ◌<◌, ◌≤◌, ◌⊎◌, inl, inr, ℕ, zero, suc, ◌+◌, ◌-◌, false, true, not, List, [], ◌++◌, ap, append-nil, append_assoc, arith, length, length-append, nat_lt, sym}
use Rattle.std.proofs.Math.Dec.{leb}
use Rattle.std.proofs.lemmas.Bool.{lt-ltb}
use Rattle.std.proofs.lemmas.Bool.Decides.{leb_tells}
use Rattle.std.specs.List.{flat_map, range_with_len}
use Rattle.ga_dump.proofs.Lines.{next_line}
use Rattle.ga_asm.specs.Image.{ImageView}
use Rattle.ga_chip.specs.Chip.{Chip}
use Rattle.ga_wave.specs.Wave.{header, shown_names, text_before, time_line, turn_text, waveform}

-- the texts of some turns begin with those of fewer
starts : (f : ℕ → List ℕ) (turn more : ℕ)
    → (rest : List ℕ)
    × (flat_map f (range_with_len 0 (turn + more)) ≡ flat_map f (range_with_len 0 turn) ++ rest)
starts f turn zero =
    let same : turn + 0 ≡ turn = omega arith in
    let all = flat_map f (range_with_len 0 turn) in
    ([], ap (λ n. flat_map f (range_with_len 0 n)) same ∙ sym (append-nil all))
starts f turn (suc more) =
    let same : turn + suc more ≡ turn + more + 1 = omega arith in
    let (rest, is) = starts f turn more in (
      rest ++ f (turn + more),
      ap (λ n. flat_map f (range_with_len 0 n)) same ∙ next_line f (turn + more)
          ∙ ap (λ t. t ++ f (turn + more)) is
          ∙ append_assoc (flat_map f (range_with_len 0 turn)) rest (f (turn + more)),
    )

module _ (images : List (ℕ × ImageView)) (names : List ℕ) (start : Chip) where
  -- the text before the next turn
  pub one_more : (turn : ℕ)
      → text_before images names start (turn + 1)
      ≡ text_before images names start turn ++ turn_text images names start turn
  one_more turn =
      let old = flat_map (turn_text images names start) (range_with_len 0 turn) in
      ap (λ t. header names ++ t) (next_line (turn_text images names start) turn)
      ∙ sym (append_assoc (header names) old (turn_text images names start turn))

  pub step : (turn left most : ℕ) (old new : List ℕ)
      → left + length (text_before images names start turn) ≡ most + length old
      → length old ≤ left → new ≡ turn_text images names start turn
      → left - length old + length (text_before images names start (turn + 1))
      ≡ most + length new
  step turn left most old new so_far fits is =
      let whole = ap length (one_more turn)
      ∙ length-append (text_before images names start turn) (turn_text images names start turn) in
      let more = ap length is in
      omega arith

  pub too_long : (turn turns left most : ℕ) (old : List ℕ)
      → left + length (text_before images names start turn) ≡ most + length old
      → left < length old → turn ≤ turns
      → most < length (text_before images names start turns ++ time_line turns)
  too_long turn turns left most old so_far long few =
      let f = turn_text images names start in
      let sum : turn + (turns - turn) ≡ turns = omega arith in
      let same = ap (λ n. length (flat_map f (range_with_len 0 n))) sum in
      let (more, is) = starts f turn (turns - turn) in
      let grows = ap length is ∙ length-append (flat_map f (range_with_len 0 turn)) more in
      let front = length-append (header names) (flat_map f (range_with_len 0 turn)) in
      let all = length-append (header names) (flat_map f (range_with_len 0 turns)) in
      let whole = length-append (text_before images names start turns) (time_line turns) in
      omega arith

  pub at_end : (turns left most : ℕ) (old new : List ℕ)
      → left + length (text_before images names start turns) ≡ most + length old
      → new ≡ old ++ time_line turns
      → left + length (text_before images names start turns ++ time_line turns)
      ≡ most + length new
  at_end turns left most old new so_far is =
      let whole = length-append (text_before images names start turns) (time_line turns) in
      let more = ap length is ∙ length-append old (time_line turns) in
      omega arith

-- the text before a turn is a prefix of a waveform
pub begins : (images : List (ℕ × ImageView)) (nodes : List ℕ) (start : Chip) (turn turns : ℕ)
    → turn ≤ turns
    → (rest : List ℕ)
    × (waveform images nodes start turns
    ≡ text_before images (shown_names nodes) start turn ++ rest)
unfolding waveform
begins images nodes start turn turns few =
    let names = shown_names nodes in
    let f = turn_text images names start in
    let sum : turn + (turns - turn) ≡ turns = omega arith in
    let (more, is) = starts f turn (turns - turn) in (
      more ++ time_line turns,
      ap (λ n. (header names ++ flat_map f (range_with_len 0 n)) ++ time_line turns) (sym sum)
          ∙ ap (λ t. (header names ++ t) ++ time_line turns) is
          ∙ ap (λ t. t ++ time_line turns)
          (sym (append_assoc (header names) (flat_map f (range_with_len 0 turn)) more))
          ∙ append_assoc (text_before images names start turn) more (time_line turns),
    )

-- ---- whether it fits

pub refused : (most count : ℕ) → most < count → false ≡ not (nat_lt most count)
refused most count over = sym (ap not (lt-ltb most count over))

pub judged : (left most last whole : ℕ) → left + whole ≡ most + last
    → leb last left ≡ not (nat_lt most whole)
judged left most last whole same = by (leb_tells last left) (leb_tells (suc most) whole)
  where
    by : ((leb last left ≡ true) × (last ≤ left)) ⊎ ((leb last left ≡ false) × (left < last))
        → ((nat_lt most whole ≡ true) × (suc most ≤ whole))
        ⊎ ((nat_lt most whole ≡ false) × (whole < suc most))
        → leb last left ≡ not (nat_lt most whole)
    by (inl (small, few)) (inl (over, more)) = absurd (omega arith)
    by (inl (small, few)) (inr (under, fits)) = small ∙ sym (ap not under)
    by (inr (no_room, few)) (inl (over, more)) = no_room ∙ sym (ap not over)
    by (inr (no_room, few)) (inr (under, fits)) = absurd (omega arith)
