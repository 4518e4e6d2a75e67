-- The words of the table, and the cells that they hold.
use Rattle.std.proofs.Common.{◌≡◌, ◌≢◌, ℕ, zero, suc, ◌+◌, ◌-◌, ◌*◌, ◌<◌, ◌^◌, Bool, ◌⊎◌, inl, inr, List, [], ◌∷◌, ◌++◌, length, Option, Some, None, set, take, get_or, refl, sym, ap, subst, ◌∙◌, arith}
use Rattle.std.specs.Prelude.{IfSome, if◌then◌else◌}
use Rattle.std.proofs.lemmas.Bool.{cases_eq, ne_eqb}
use Rattle.std.proofs.lemmas.Option.{none-some}
use Rattle.std.proofs.lemmas.List.{get_or-set_other}
use Rattle.ga_chip.specs.Chip.{pending_in}
use Rattle.ga_port.specs.Rule.{AreSmall, line_of, lines_of, row_of, word_of}
use Rattle.ga_port.specs.inner.Entering.{IsCellWord, pending_of, place_of}

-- ---- one cell

pub held_small : (o : Option ℕ) → ((word : ℕ) → o ≡ Some word → word < 2 ^ 18)
    → IsCellWord (word_of o)
held_small None small = (omega arith, λ ne. absurd (ne refl))
held_small (Some word) small =
    let bound : word < 2 ^ 18 = small word refl in
    (omega arith, λ ne. omega arith)

pub held_word : (o : Option ℕ) → pending_of (word_of o) ≡ o
held_word None = refl
held_word (Some word) =
    let full : 262144 + word ≢ 0 = λ e. omega arith in
    let back : 262144 + word - 262144 ≡ word = omega arith in
    ap (λ (b : Bool). if b then None
    else Some (262144 + word - 262144)) (ne_eqb (262144 + word) 0 full) ∙ ap Some back

-- ---- all cells

-- eight words further on
abbrev pub line_on : ℕ → ℕ
line_on n = suc (suc (suc (suc (suc (suc (suc (suc n)))))))

pub next_line : (cell : ℕ) → place_of (suc cell) ≡ line_on (place_of cell)
next_line cell = omega arith

reads_with : (cells : List (Option ℕ)) (tail : List ℕ) (cell : ℕ) → cell < length cells
    → get_or (lines_of cells ++ tail) (place_of cell) 0 ≡ word_of (get_or cells cell None)
reads_with [] tail cell below = absurd (omega arith)
reads_with (one ∷ rest) tail zero below = refl
reads_with (one ∷ rest) tail (suc cell) below =
    ap (λ n. get_or (lines_of (one ∷ rest) ++ tail) n 0) (next_line cell)
    ∙ reads_with rest tail cell (omega arith)

pub row_read : (cells : List (Option ℕ)) (cell : ℕ) → cell < length cells
    → get_or (row_of cells) (place_of cell) 0 ≡ word_of (pending_in cells cell)
unfolding row_of
row_read cells cell below = reads_with cells (line_of None) cell below

writes_with : (cells : List (Option ℕ)) (tail : List ℕ) (cell : ℕ) (o : Option ℕ)
    → cell < length cells
    → set (lines_of cells ++ tail) (place_of cell) (word_of o) ≡ lines_of (set cells cell o) ++ tail
writes_with [] tail cell o below = absurd (omega arith)
writes_with (one ∷ rest) tail zero o below = refl
writes_with (one ∷ rest) tail (suc cell) o below =
    ap (λ n. set (lines_of (one ∷ rest) ++ tail) n (word_of o)) (next_line cell)
    ∙ ap (λ l. line_of one ++ l) (writes_with rest tail cell o (omega arith))

pub row_write : (cells : List (Option ℕ)) (cell : ℕ) (o : Option ℕ) → cell < length cells
    → set (row_of cells) (place_of cell) (word_of o) ≡ row_of (set cells cell o)
unfolding row_of
row_write cells cell o below = writes_with cells (line_of None) cell o below

-- a cell that is empty already
pub empties_again : (cells : List (Option ℕ)) (cell : ℕ) → pending_in cells cell ≡ None
    → set cells cell None ≡ cells
empties_again [] cell e = refl
empties_again (one ∷ rest) zero e = ap (λ o. o ∷ rest) (sym e)
empties_again (one ∷ rest) (suc cell) e = ap (λ l. one ∷ l) (empties_again rest cell e)

-- what a write leaves, at its place and at others
set_reads : (cells : List (Option ℕ)) (cell : ℕ) (o : Option ℕ) (word : ℕ)
    → get_or (set cells cell o) cell None ≡ Some word → o ≡ Some word
set_reads [] cell o word e = absurd (none-some word e)
set_reads (one ∷ rest) zero o word e = e
set_reads (one ∷ rest) (suc cell) o word e = set_reads rest cell o word e

pub small_set : (cells : List (Option ℕ)) (cell : ℕ) (o : Option ℕ) → AreSmall cells
    → ((word : ℕ) → o ≡ Some word → word < 2 ^ 18) → AreSmall (set cells cell o)
small_set cells cell o small fits at word e = by (cases_eq at cell)
  where
    by : (at ≡ cell) ⊎ (at ≡ cell → ⊥) → word < 2 ^ 18
    by (inl same) =
        fits word
        (set_reads cells cell o word (sym (ap (λ i. get_or (set cells cell o) i None) same) ∙ e))
    by (inr apart) = small at word (sym (get_or-set_other cells cell at o None apart) ∙ e)

-- how many words the table has
pub row_length : (cells : List (Option ℕ)) → length cells ≡ 524 → length (row_of cells) ≡ 4200
unfolding row_of
row_length cells count =
    longer cells ∙ (let sum : 8 * length cells + 8 ≡ 4200 = omega arith in sum)
  where
    longer : (some : List (Option ℕ)) → length (lines_of some ++ line_of None) ≡ 8 * length some + 8
    longer [] = refl
    longer (one ∷ rest) = let more = longer rest in omega arith

-- ---- the lines of the first cells, and of one more

lines_more : (cells : List (Option ℕ)) (i : ℕ) (one : Option ℕ) → i < length cells
    → one ≡ get_or cells i one
    → lines_of (take (i + 1) cells) ≡ lines_of (take i cells) ++ line_of one
lines_more [] i one below e = absurd (omega arith)
lines_more (x ∷ xs) zero one below e = ap (λ o. line_of o) (sym e)
lines_more (x ∷ xs) (suc i) one below e =
    let more : suc i + 1 ≡ suc (i + 1) = omega arith in
    ap (λ n. lines_of (take n (x ∷ xs))) more
    ∙ ap (λ l. line_of x ++ l) (lines_more xs i one (omega arith) e)

pub lines_push : (words new line : List ℕ) (cells : List (Option ℕ)) (i : ℕ) (one : Option ℕ)
    → new ≡ words ++ line → words ≡ lines_of (take i cells) → line ≡ line_of one
    → i < length cells → one ≡ get_or cells i one → new ≡ lines_of (take (i + 1) cells)
lines_push words new line cells i one pushed before is below e =
    pushed ∙ ap (λ l. l ++ line) before ∙ ap (λ l. lines_of (take i cells) ++ l) is
    ∙ sym (lines_more cells i one below e)

same_default : (cells : List (Option ℕ)) (i : ℕ) (d e : Option ℕ) → i < length cells
    → get_or cells i d ≡ get_or cells i e
same_default [] i d e below = absurd (omega arith)
same_default (x ∷ xs) zero d e below = refl
same_default (x ∷ xs) (suc i) d e below = same_default xs i d e (omega arith)

pub small_more : (cells : List (Option ℕ)) (i : ℕ) (one : Option ℕ) → i < length cells
    → one ≡ get_or cells i one → IfSome one (λ word. word < 2 ^ 18)
    → ((cell word : ℕ) → cell < i → get_or cells cell None ≡ Some word → word < 2 ^ 18)
    → (cell word : ℕ) → cell < i + 1 → get_or cells cell None ≡ Some word → word < 2 ^ 18
small_more cells i one below e bound before cell word inside has = by (cases_eq cell i)
  where
    by : (cell ≡ i) ⊎ (cell ≡ i → ⊥) → word < 2 ^ 18
    by (inl same) =
        subst (λ o. IfSome o (λ w. w < 2 ^ 18)) (e ∙ same_default cells i one None below
        ∙ ap (λ n. get_or cells n None) (sym same) ∙ has) bound
    by (inr apart) = before cell word (omega arith) has
