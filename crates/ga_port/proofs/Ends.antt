-- The rule holds at the start, and at the end it gives the state of the cells.
use Rattle.std.proofs.Common.{◌≡◌, ℕ, zero, suc, ◌+◌, ◌<◌, List, [], ◌∷◌, ◌++◌, drop, length, Option, Some, None, get_or, refl, sym, ap, subst, ◌∙◌, arith}
use Rattle.std.proofs.lemmas.List.{get_or-drop}
use mathlib.Core.Option.{some, some-injective, some-ne-none}
use lib.ListN.{get_elem?}
use Rattle.atomic_table.specs.Table.{Final, Seen, opening}
use Rattle.ga_chip.specs.Chip.{Chip, part_of, pending_in}
use Rattle.ga_chip.specs.Legal.{IsLegal}
use Rattle.ga_chip.specs.Run.{ran, tries_of}
use Rattle.ga_port.specs.declared.seat.Holding.{Holding}
use Rattle.ga_port.specs.Cells.{IsEnd}
use Rattle.ga_port.specs.Seat.{kept, untried}
use Rattle.ga_port.specs.Rule.{AreSmall, Holds, IsOf, line_of, lines_of, row_of, word_of}
use Rattle.ga_port.specs.inner.Entering.{IsCellWord, pending_cells, pending_of, place_of}
use Rattle.ga_port.proofs.Nodes.{untried_from, untried_there}
use Rattle.ga_port.proofs.Rows.{held_small, held_word, line_on, next_line, row_read}

-- ---- the start

one_view : (view now : List (Option Holding)) (id : ℕ) → get_elem? (view ∷ []) id ≡ some now
    → (id ≡ 0) × (view ≡ now)
one_view view now zero e = (refl, some-injective view now e)
one_view view now (suc id) e = absurd (some-ne-none now (sym e))

starts_is : (chip : Chip) → IsLegal chip → AreSmall chip.cells → IsOf chip
    [] (λ _. 0) (record { words = row_of chip.cells; homes = []; views = untried chip.parts ∷ [] })
starts_is chip legal small = record {
  words = refl;
  cells = legal.cells;
  small = small;
  nodes = legal.parts;
  parts = λ id name view one e h. parts name one (here id name view one e h);
  sides = λ id name view one e h. ap (λ (k : Holding). k.sides)
      (untried_from chip.parts name one (here id name view one e h)).2;
  once = λ id name view one e h. sym (one_view (untried chip.parts) view id e).0;
  there = λ name part e. (
    untried chip.parts,
    record { part = part; sides = [] },
    refl,
    untried_there chip.parts name part e,
  );
  beyond = λ name no_node. refl;
}
  where
    here : (id name : ℕ) (view : List (Option Holding)) (one : Holding)
        → get_elem? (untried chip.parts ∷ []) id ≡ some view → kept view name ≡ Some one
        → kept (untried chip.parts) name ≡ Some one
    here id name view one e h =
        ap (λ v. kept v name) (one_view (untried chip.parts) view id e).1 ∙ h

    parts : (name : ℕ) (one : Holding) → kept (untried chip.parts) name ≡ Some one
        → part_of chip name ≡ Some one.part
    parts name one has =
        let from = untried_from chip.parts name one has in
        from.1 ∙ ap (λ (k : Holding). Some k.part) (sym from.2)

pub starts : (chip : Chip) (words : List ℕ) → IsLegal chip → AreSmall chip.cells
    → words ≡ row_of chip.cells → Holds chip (opening words [] (untried chip.parts))
starts chip words legal small e =
    subst (λ l. Holds chip (opening l [] (untried chip.parts))) (sym e)
    ([], (λ _. 0), starts_is chip legal small)

-- ---- the end

-- the element at an index
at_index : (words : List ℕ) (i held : ℕ) → get_elem? words i ≡ some held → held ≡ get_or words i 0
at_index [] i held e = absurd (some-ne-none held (sym e))
at_index (word ∷ words) zero held e = sym (some-injective word held e)
at_index (word ∷ words) (suc i) held e = at_index words i held e

one_cell : (words : List ℕ) (i held : ℕ) → held ≡ get_or words (place_of i) 0
    → pending_cells (i + 1) words ≡ pending_cells i words ++ pending_of held ∷ []
one_cell words zero held e = ap (λ w. pending_of w ∷ []) (sym e)
one_cell words (suc i) held e =
    let more : suc i + 1 ≡ suc (i + 1) = omega arith in
    let on : line_on (place_of i) ≡ 8 + place_of i = omega arith in
    ap (λ n. pending_cells n words) more
    ∙ ap (λ l. pending_of (get_or words 0 0) ∷ l) (one_cell (drop 8 words) i held
    (e ∙ ap (λ n. get_or words n 0) (next_line i ∙ on)
    ∙ sym (get_or-drop 8 words (place_of i) 0)))

pub back_push : (room new : List (Option ℕ)) (words : List ℕ) (i place held : ℕ) (one : Option ℕ)
    → new ≡ room ++ one ∷ [] → room ≡ pending_cells i words → one ≡ pending_of held
    → place ≡ place_of i → get_elem? words place ≡ some held → new ≡ pending_cells (i + 1) words
back_push room new words i place held one pushed before is there e =
    pushed ∙ ap (λ l. l ++ one ∷ []) before ∙ ap (λ o. pending_cells i words ++ o ∷ []) is
    ∙ sym (one_cell words i held
    (at_index words place held e ∙ ap (λ n. get_or words n 0) there))

reads_back : (cells : List (Option ℕ)) (tail : List ℕ)
    → pending_cells (length cells) (lines_of cells ++ tail) ≡ cells
reads_back [] tail = refl
reads_back (one ∷ rest) tail = λ k. held_word one k ∷ reads_back rest tail k

row_back : (cells : List (Option ℕ)) (count : ℕ) → length cells ≡ count
    → pending_cells count (row_of cells) ≡ cells
unfolding row_of
row_back cells count e =
    ap (λ n. pending_cells n (lines_of cells ++ line_of None)) (sym e)
    ∙ reads_back cells (line_of None)

pub final_words : (chip : Chip) (id : ℕ) (nodes : List (Option Holding)) (words : List ℕ)
    (slots : List ℕ) → Final (Seen (Holds chip) id nodes) words slots → (cell held : ℕ) → cell < 524
    → get_elem? words (place_of cell) ≡ some held → IsCellWord held
final_words chip id nodes words slots final cell held below e =
    let is = final.1.0.2 in
    let cells = (ran chip (tries_of final.1.0.0)).cells in
    let inside : cell < length cells = let count = is.cells in omega arith in
    let reads : held ≡ word_of (pending_in cells cell) = at_index words (place_of cell) held e
    ∙ ap (λ l. get_or l (place_of cell) 0) (sym final.2 ∙ is.words) ∙ row_read cells cell inside in
    subst IsCellWord (sym reads) (held_small (pending_in cells cell) (is.small cell))

pub final_ends : (chip : Chip) (id : ℕ) (nodes : List (Option Holding)) (words : List ℕ)
    (slots : List ℕ) (row : List (Option ℕ))
    (final : Final (Seen (Holds chip) id nodes) words slots) → row ≡ pending_cells 524 words
    → IsEnd chip nodes row final.1.0.0
final_ends chip id nodes words slots row final e =
    let is = final.1.0.2 in
    let cells = (ran chip (tries_of final.1.0.0)).cells in
    record {
      cells = e ∙ ap (pending_cells 524) (sym final.2 ∙ is.words)
          ∙ row_back cells 524 is.cells;
      parts = λ name one has. is.parts id name nodes one final.1.1 has;
      sides = λ name one has. is.sides id name nodes one final.1.1 has;
      beyond = is.beyond;
    }

pub final_count : (chip : Chip) (id : ℕ) (nodes : List (Option Holding)) (words : List ℕ)
    (slots : List ℕ) (row : List (Option ℕ))
    (final : Final (Seen (Holds chip) id nodes) words slots) → row ≡ pending_cells 524 words
    → length row ≡ 524
final_count chip id nodes words slots row final e =
    ap length (final_ends chip id nodes words slots row final e).cells ∙ final.1.0.2.cells
