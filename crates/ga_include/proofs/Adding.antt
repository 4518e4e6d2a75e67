-- Items one behind the other.
use Rattle.std.proofs.Common.{◌≡◌, ◌∙◌, ℕ, ◌+◌, Bool, true, false, Result, Ok, Err, List, [], ◌∷◌, ◌++◌, cond, length, refl, sym, ap}
use Rattle.std.specs.Prelude.{nat_le}
use Rattle.ga_pack.specs.Model.Text.{lines_of}
use Rattle.ga_include.specs.declared.error.IncludeFaultKind.TheVariants.{IncludeSize}
use Rattle.ga_include.specs.declared.file.LineOrigin.{LineOrigin}
use Rattle.ga_include.specs.Error.{Faulty, Trouble}
use Rattle.ga_include.specs.Including.{Inner, Items, Line, Scope, Whole, ended_lines, go_on, line_items, lines_items, most_text, start_of, with_item, with_items, written_line}
use Rattle.ga_include.proofs.Lines.{ended_first}

go_on_both : (first : Result Whole Trouble) (rest after : Whole → Result Whole Trouble)
    → go_on (go_on first rest) after ≡ go_on first (λ whole. go_on (rest whole) after)
go_on_both (Ok whole) rest after = refl
go_on_both (Err trouble) rest after = refl

go_on_alike : (first : Result Whole Trouble) (rest after : Whole → Result Whole Trouble)
    → ((whole : Whole) → rest whole ≡ after whole) → go_on first rest ≡ go_on first after
go_on_alike (Ok whole) rest after h = h whole
go_on_alike (Err trouble) rest after h = refl

pub with_both : (whole : Whole) (front back : Items) → with_items whole (front ++ back)
    ≡ go_on (with_items whole front) (λ next. with_items next back)
unfolding with_items
with_both whole [] back = refl
with_both whole (item ∷ front) back =
    go_on_alike (with_item whole item) _ _ (λ next. with_both next front back)
    ∙ sym (go_on_both (with_item whole item) _ _)

-- the first ones are added
pub added_first : (whole next : Whole) (front back : Items) → with_items whole front ≡ Ok next
    → with_items whole (front ++ back) ≡ with_items next back
added_first whole next front back h =
    with_both whole front back ∙ ap (λ r. go_on r (λ made. with_items made back)) h

-- one of the first ones is in the way
pub failed_first : (whole : Whole) (front back : Items) (trouble : Trouble)
    → with_items whole front ≡ Err trouble → with_items whole (front ++ back) ≡ Err trouble
failed_first whole front back trouble h =
    with_both whole front back ∙ ap (λ r. go_on r (λ made. with_items made back)) h

whole_on : (made : Result Whole Trouble) → go_on made (λ next. with_items next []) ≡ made
unfolding with_items
whole_on (Ok whole) = refl
whole_on (Err trouble) = refl

-- one item
pub one_item : (whole : Whole) (item : Result Line Trouble)
    → with_items whole (item ∷ []) ≡ with_item whole item
unfolding with_items
one_item whole item = whole_on (with_item whole item)

pub one_trouble : (whole : Whole) (trouble : Trouble)
    → with_items whole (Err trouble ∷ []) ≡ Err trouble
one_trouble whole trouble = one_item whole (Err trouble)

pub no_items : (whole : Whole) → with_items whole [] ≡ Ok whole
unfolding with_items
no_items whole = refl

-- ---- a line

abbrev with_text : Whole → LineOrigin → List ℕ → Whole
with_text whole origin text =
    record { text = whole.text ++ text; lines = whole.lines ++ origin ∷ [] }

line_by : (whole : Whole) (origin : LineOrigin) (text : List ℕ) (count : ℕ) (b : Bool)
    → length text ≡ count → nat_le (length whole.text + count) most_text ≡ b
    → with_items whole (written_line origin text)
    ≡ cond b (Ok (with_text whole origin text)) (Err (Faulty (start_of origin) IncludeSize))
line_by whole origin text count b counted h =
    one_item whole (Ok (record { text = text; origin = origin }))
    ∙ ap
    (λ b. cond b (Ok (with_text whole origin text)) (Err (Faulty (start_of origin) IncludeSize)))
    (ap (λ n. nat_le (length whole.text + n) most_text) counted ∙ h)

pub line_added : (whole : Whole) (origin : LineOrigin) (text : List ℕ) (count : ℕ)
    → length text ≡ count → nat_le (length whole.text + count) most_text ≡ true
    → with_items whole (written_line origin text) ≡ Ok (record {
      text = whole.text ++ text;
      lines = whole.lines ++ origin ∷ [];
    })
line_added whole origin text count counted h = line_by whole origin text count true counted h

pub line_too_large : (whole : Whole) (origin : LineOrigin) (text : List ℕ) (count : ℕ)
    → length text ≡ count → nat_le (length whole.text + count) most_text ≡ false
    → with_items whole (written_line origin text) ≡ Err (Faulty (start_of origin) IncludeSize)
line_too_large whole origin text count counted h =
    line_by whole origin text count false counted h

-- ---- the lines of a text

lines_first : (inner : Inner) (scope : Scope) (file number : ℕ) (rest line behind : List ℕ)
    → lines_of rest ≡ line ∷ lines_of behind
    → lines_items inner scope file number (ended_lines (lines_of rest))
    ≡ line_items inner scope (record { file = file; line = number }) line
    ++ lines_items inner scope file (number + 1) (ended_lines (lines_of behind))
unfolding lines_items
lines_first inner scope file number rest line behind cut =
    ap (lines_items inner scope file number) (ended_first rest line behind cut)

-- the first one is added
pub lines_added : (old new : Whole) (inner : Inner) (scope : Scope) (file number : ℕ)
    (rest line behind : List ℕ) → lines_of rest ≡ line ∷ lines_of behind
    → with_items old (line_items inner scope (record { file = file; line = number }) line) ≡ Ok new
    → with_items old (lines_items inner scope file number (ended_lines (lines_of rest)))
    ≡ with_items new (lines_items inner scope file (number + 1) (ended_lines (lines_of behind)))
lines_added old new inner scope file number rest line behind cut added =
    ap (with_items old) (lines_first inner scope file number rest line behind cut)
    ∙ added_first old new _ _ added

-- it is in the way
pub lines_failed : (old : Whole) (inner : Inner) (scope : Scope) (file number : ℕ)
    (rest line behind : List ℕ) (trouble : Trouble) → lines_of rest ≡ line ∷ lines_of behind
    → with_items old (line_items inner scope (record { file = file; line = number }) line)
    ≡ Err trouble
    → with_items old (lines_items inner scope file number (ended_lines (lines_of rest)))
    ≡ Err trouble
lines_failed old inner scope file number rest line behind trouble cut failed =
    ap (with_items old) (lines_first inner scope file number rest line behind cut)
    ∙ failed_first old _ _ trouble failed

-- the last line isn't ended
pub lines_end : (whole : Whole) (inner : Inner) (scope : Scope) (file number : ℕ) (rest : List ℕ)
    → lines_of rest ≡ rest ∷ []
    → with_items whole (lines_items inner scope file number (ended_lines (lines_of rest)))
    ≡ Ok whole
unfolding lines_items with_items
lines_end whole inner scope file number rest cut =
    ap (λ lines. with_items whole (lines_items inner scope file number (ended_lines lines))) cut
