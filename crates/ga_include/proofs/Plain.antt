-- A text without include lines stands for itself.
use Rattle.std.proofs.Common.{◌≡◌, ◌∙◌, ℕ, ◌+◌, ◌<◌, ◌≤◌, ◌==◌, ◌||◌, Bool, true, false, Ok, List, [], ◌∷◌, ◌++◌, append_assoc, arith, cond, length, length-append, refl, ap, ap₂}
use Rattle.std.specs.Prelude.{nat_le}
use Rattle.std.specs.List.{join_with_byte, list_any}
use Rattle.std.proofs.lemmas.Bool.Decides.{nat_tests}
use Rattle.std.proofs.lemmas.List.Splits.{join_with_byte-slice_split}
use Rattle.ga_pack.specs.Model.Text.{lines_of}
use Rattle.ga_include.specs.declared.file.LineOrigin.{LineOrigin}
use Rattle.ga_include.specs.File.{File, text_at}
use Rattle.ga_include.specs.IncludeLine.{is_include}
use Rattle.ga_include.specs.Including.{Inner, Items, Scope, Whole, empty, ended_lines, file_items, first_scope, include_items, included, last_items, last_line, line_items, lines_items, most_text, root_items, with_items, written_line}
use Rattle.ga_include.specs.Laws.{PlainStays, origins_from}
use Rattle.ga_include.proofs.Adding.{added_first, line_added}
use Rattle.ga_include.proofs.Lines.{some_parts}

neither_first : (a b : Bool) → (a || b) ≡ false → a ≡ false
neither_first true b h = h
neither_first false b h = refl

neither_second : (a b : Bool) → (a || b) ≡ false → b ≡ false
neither_second true b h = (cc)
neither_second false b h = h

within : (a b : ℕ) → a ≤ b → nat_le a b ≡ true
within a b h = grind (arith, nat_tests)

abbrev origin : ℕ → LineOrigin
origin number = record { file = 0; line = number }

added : (whole : Whole) (number : ℕ) (text : List ℕ) → length whole.text + length text ≤ most_text
    → with_items whole (written_line (origin number) text)
    ≡ Ok (record { text = whole.text ++ text; lines = whole.lines ++ origin number ∷ [] })
added whole number text fits =
    line_added whole (origin number) text (length text) refl (within _ _ fits)

-- a line that includes nothing
plain_line : (inner : Inner) (scope : Scope) (number : ℕ) (line : List ℕ)
    → is_include line ≡ false → line_items inner scope (origin number) line
    ≡ written_line (origin number) (line ++ 10 ∷ [])
plain_line inner scope number line none =
    ap (λ b. cond b (include_items inner scope (origin number) line)
    (written_line (origin number) (line ++ 10 ∷ []))) none

plain_last : (inner : Inner) (scope : Scope) (number : ℕ) (line : List ℕ)
    → is_include line ≡ false → last_items inner scope (origin number) line
    ≡ written_line (origin number) line
plain_last inner scope number line none =
    ap (λ b. cond b (include_items inner scope (origin number) line
    ++ written_line (origin number) []) (written_line (origin number) line)) none

-- lines that include nothing, of which the first and the last have numbers
plain_lines : (line : List ℕ) (lines : List (List ℕ)) (inner : Inner) (scope : Scope)
    (number last : ℕ) (whole : Whole) → list_any is_include (line ∷ lines) ≡ false
    → last ≡ number + length (ended_lines (line ∷ lines))
    → length whole.text + length (join_with_byte 10 (line ∷ lines)) ≤ most_text
    → with_items whole (lines_items inner scope 0 number (ended_lines (line ∷ lines))
    ++ last_items inner scope (origin last) (last_line (line ∷ lines)))
    ≡ Ok (record {
      text = whole.text ++ join_with_byte 10 (line ∷ lines);
      lines = whole.lines ++ origins_from 0 number (line ∷ lines);
    })
unfolding lines_items
plain_lines line [] inner scope number last whole none counted fits =
    let same : last ≡ number = omega arith in
    ap (with_items whole)
    (plain_last inner scope last line (neither_first (is_include line) false none))
    ∙ added whole last line fits
    ∙ ap (λ n. Ok (record { text = whole.text ++ line; lines = whole.lines ++ origin n ∷ [] })) same
plain_lines line (next ∷ lines) inner scope number last whole none counted fits =
    let ended = line ++ 10 ∷ [] in
    let others = join_with_byte 10 (next ∷ lines) in
    let after : Whole =
    record { text = whole.text ++ ended; lines = whole.lines ++ origin number ∷ [] } in
    let back : Items = lines_items inner scope 0 (number + 1) (ended_lines (next ∷ lines))
    ++ last_items inner scope (origin last) (last_line (next ∷ lines)) in
    let all : length (line ++ 10 ∷ others) ≡ length line + (1 + length others) =
    length-append line (10 ∷ others) ∙ omega arith in
    let one : length ended ≡ length line + 1 = length-append line (10 ∷ []) in
    let text_is : (whole.text ++ ended) ++ others ≡ whole.text ++ (line ++ 10 ∷ others) =
    simp append_assoc in
    let room : length (whole.text ++ ended) + length others ≤ most_text =
    omega (arith, all, one, length-append whole.text ended, fits) in
    ap (with_items whole) (append_assoc (line_items inner scope (origin number) line)
    (lines_items inner scope 0 (number + 1) (ended_lines (next ∷ lines)))
    (last_items inner scope (origin last) (last_line (next ∷ lines))))
    ∙ ap (λ items. with_items whole (items ++ back))
    (plain_line inner scope number line (neither_first _ _ none))
    ∙ added_first whole after _ back (added whole number ended (omega (arith, all, one, fits)))
    ∙ plain_lines next lines inner scope (number + 1) last after (neither_second _ _ none)
    (omega arith) room
    ∙ ap₂ (λ text of_lines. Ok (record { text = text; lines = of_lines })) text_is
    (append_assoc whole.lines (origin number ∷ []) (origins_from 0 (number + 1) (next ∷ lines)))

plain_whole : (files : List File) (lines : List (List ℕ)) (text : List ℕ) → 0 < length lines
    → join_with_byte 10 lines ≡ text → list_any is_include lines ≡ false
    → length text ≤ most_text → with_items empty (root_items files lines)
    ≡ Ok (record { text = text; lines = origins_from 0 1 lines })
plain_whole files [] text some joined none fits = absurd (omega arith)
plain_whole files (line ∷ lines) text some joined none fits =
    let long : length (join_with_byte 10 (line ∷ lines)) ≡ length text = ap length joined in
    plain_lines line lines (file_items 15) (first_scope files) 1 _ empty none (omega arith)
    (omega (arith, long, fits))
    ∙ ap (λ l. Ok (record { text = l; lines = origins_from 0 1 (line ∷ lines) })) joined

pub plain_stays : (files : List File) → PlainStays files
unfolding included
plain_stays files none fits =
    let text = text_at files 0 in
    plain_whole files (lines_of text) text (some_parts (λ c. c == 10) text)
    (join_with_byte-slice_split 10 text) none fits
