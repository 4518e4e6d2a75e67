-- Runs of turns.
use Rattle.std.proofs.Common.{◌≡◌, ◌∙◌, ℕ, ◌+◌, List, ◌++◌, zero, suc, add-one, add-zero, append-nil, append_assoc, arith, length, length-append, ap, sym}
use Rattle.std.specs.List.{flat_map, range_with_len}
use Rattle.ga_place.specs.declared.side.Side.{Side}
use Rattle.ga_chip.specs.Chip.{Chip}
use Rattle.ga_chip.specs.Run.{moves, ran, side_of_turn, turn_of, turns_of}
use Rattle.ga_chip.proofs.Runs.{moves-append, ran-append}

-- the parts of one more number, behind those of the numbers before it
one_more : {A : Type 0} (f : ℕ → List A) (from n next : ℕ) → next ≡ from + n
    → flat_map f (range_with_len from (suc n)) ≡ flat_map f (range_with_len from n) ++ f next
one_more f from zero next e =
    let same : from ≡ next = omega arith in append-nil (f from) ∙ ap f same
one_more f from (suc n) next e =
    let later : next ≡ from + 1 + n = omega arith in
    ap (λ l. f from ++ l) (one_more f (from + 1) n next later)
    ∙ sym (append_assoc (f from) (flat_map f (range_with_len (from + 1) n)) (f next))

turns-more : (count : ℕ) → turns_of (count + 1) ≡ turns_of count ++ turn_of (side_of_turn count)
unfolding turns_of
turns-more count =
    let here : count ≡ 0 + count = omega arith in
    ap (λ n. flat_map (λ turn. turn_of (side_of_turn turn)) (range_with_len 0 n)) (add-one count)
    ∙ one_more (λ turn. turn_of (side_of_turn turn)) 0 count count here

-- the chip after one turn more, and how many moves were made
pub one_turn : (chip now next : Chip) (count : ℕ) → now ≡ ran chip (turns_of count)
    → next ≡ ran now (turn_of (side_of_turn count)) → next ≡ ran chip (turns_of (count + 1))
one_turn chip now next count so_far turned =
    turned ∙ ap (λ c. ran c (turn_of (side_of_turn count))) so_far
    ∙ sym (ran-append chip (turns_of count) (turn_of (side_of_turn count)))
    ∙ ap (ran chip) (sym (turns-more count))

pub one_more_count : (chip now : Chip) (count moved here : ℕ) → now ≡ ran chip (turns_of count)
    → moved ≡ length (moves chip (turns_of count))
    → here ≡ length (moves now (turn_of (side_of_turn count)))
    → moved + here ≡ length (moves chip (turns_of (count + 1)))
one_more_count chip now count moved here so_far counted turned =
    ap (λ n. n + here) counted ∙ ap (λ n. length (moves chip (turns_of count)) + n) (turned
    ∙ ap (λ c. length (moves c (turn_of (side_of_turn count)))) so_far)
    ∙ sym (length-append (moves chip (turns_of count))
    (moves (ran chip (turns_of count)) (turn_of (side_of_turn count))))
    ∙ sym (ap length (moves-append chip (turns_of count) (turn_of (side_of_turn count))))
    ∙ ap (λ events. length (moves chip events)) (sym (turns-more count))

-- a chip in which no node moves stays so through all further turns
pub still_more : (chip now : Chip) (count more : ℕ) → now ≡ ran chip (turns_of count)
    → ((side : Side) → ran now (turn_of side) ≡ now) → now ≡ ran chip (turns_of (count + more))
still_more chip now count zero so_far still =
    so_far ∙ ap (λ n. ran chip (turns_of n)) (sym (add-zero count))
still_more chip now count (suc more) so_far still =
    let next : count + more + 1 ≡ count + suc more = omega arith in
    one_turn chip now now (count + more) (still_more chip now count more so_far still)
    (sym (still (side_of_turn (count + more)))) ∙ ap (λ n. ran chip (turns_of n)) next

pub still_counts : (chip now : Chip) (count more moved : ℕ) → now ≡ ran chip (turns_of count)
    → moved ≡ length (moves chip (turns_of count)) → ((side : Side) → ran now (turn_of side) ≡ now)
    → ((side : Side) → length (moves now (turn_of side)) ≡ 0)
    → moved ≡ length (moves chip (turns_of (count + more)))
still_counts chip now count zero moved so_far counted still none =
    counted ∙ ap (λ n. length (moves chip (turns_of n))) (sym (add-zero count))
still_counts chip now count (suc more) moved so_far counted still none =
    let next : count + more + 1 ≡ count + suc more = omega arith in
    sym (add-zero moved)
    ∙ one_more_count chip now (count + more) moved 0 (still_more chip now count more so_far still)
    (still_counts chip now count more moved so_far counted still none)
    (sym (none (side_of_turn (count + more))))
    ∙ ap (λ n. length (moves chip (turns_of n))) next
