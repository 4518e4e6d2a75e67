-- What the items of files have in common: a line ends by its only LF, and a file that is wanted
-- isn't there.
use Rattle.std.proofs.Common.{◌≡◌, ◌∙◌, ◌⊎◌, ◌&&◌, ℕ, zero, suc, ◌+◌, ◌==◌, Bool, true, false, Option, Some, None, Result, Ok, Err, IfSome, List, [], ◌∷◌, ◌++◌, arith, cond, inl, inr, length, length-append, refl, sym, ap, string_bytes, subst, zero-add}
use Rattle.std.specs.Prelude.{count_by, nat_le, nat_lt}
use Rattle.std.specs.List.{list_any, onto_first}
use Rattle.std.proofs.lemmas.Bool.{ltb-true}
use Rattle.std.proofs.lemmas.List.Splits.{length-slice_split}
use Rattle.std.proofs.lemmas.List.Sums.{sum_by-append, sum_by-cons}
use Rattle.ga_word.specs.Text.{is_empty}
use Rattle.ga_pack.specs.Model.Text.{lines_of}
use Rattle.ga_include.specs.declared.error.IncludeError.{IncludeError}
use Rattle.ga_include.specs.declared.error.IncludeError.TheVariants as errors
use Rattle.ga_include.specs.declared.error.IncludeFaultKind.{IncludeFaultKind}
use Rattle.ga_include.specs.declared.error.IncludeFaultKind.TheVariants.{IncludeCycle, IncludeSize, IncludeCount}
use Rattle.ga_include.specs.declared.error.IncludePlace.{IncludePlace}
use Rattle.ga_include.specs.declared.file.LineOrigin.{LineOrigin}
use Rattle.ga_include.specs.Error.{Faulty, Missing, Trouble, trouble_of}
use Rattle.ga_include.specs.File.{File, index_of, name_at, text_at}
use Rattle.ga_include.specs.IncludeLine.{is_include, name_in}
use Rattle.ga_include.specs.Including.{Inner, Items, Line, Scope, Whole, empty, ended_lines, fault, file_items, first_scope, go_on, include_items, included, index_items, inside, last_items, last_line, last_origin, line_items, lines_items, most_files, most_text, name_items, place_in, start_of, with_items, written_line}
use Rattle.ga_include.specs.Laws.{IsAbsent, LinesHaveOrigins, WantsAbsent}
use Rattle.ga_include.specs.Path.{source_path}
use Rattle.ga_include.proofs.Adding.{one_item, with_both}

-- how often LF is in a text
abbrev pub ends : List ℕ → ℕ
ends text = count_by (λ byte. byte == 10) text

ends_both : (xs ys : List ℕ) → ends (xs ++ ys) ≡ ends xs + ends ys
ends_both xs ys = sum_by-append _ xs ys

-- ---- lines without LF

abbrev pub Endless : List (List ℕ) → Type 0
Endless [] = Unit {0}
Endless (line ∷ lines) = (ends line ≡ 0) × Endless lines

ends_more : (x : ℕ) (xs : List ℕ) → (x == 10) ≡ false → ends (x ∷ xs) ≡ ends xs
ends_more x xs other =
    sum_by-cons (λ byte. cond (byte == 10) 1 0) x xs
    ∙ ap {B = ℕ} (λ b. cond b 1 0 + ends xs) other ∙ zero-add (ends xs)

endless_onto : (x : ℕ) (parts : List (List ℕ)) → (x == 10) ≡ false → Endless parts
    → Endless (onto_first x parts)
endless_onto x [] other h = (ends_more x [] other, tt)
endless_onto x (part ∷ parts) other h = (ends_more x part other ∙ h.0, h.1)

endless_step : (x : ℕ) (b : Bool) (parts : List (List ℕ)) → (x == 10) ≡ b → Endless parts
    → Endless (cond b ([] ∷ parts) (onto_first x parts))
endless_step x true parts is h = (refl, h)
endless_step x false parts is h = endless_onto x parts is h

pub endless_parts : (text : List ℕ) → Endless (lines_of text)
endless_parts [] = (refl, tt)
endless_parts (x ∷ text) = endless_step x (x == 10) (lines_of text) refl (endless_parts text)

endless_ended : (lines : List (List ℕ)) → Endless lines → Endless (ended_lines lines)
endless_ended [] h = tt
endless_ended (line ∷ []) h = tt
endless_ended (line ∷ next ∷ lines) h = (h.0, endless_ended (next ∷ lines) h.1)

endless_last : (lines : List (List ℕ)) → Endless lines → ends (last_line lines) ≡ 0
endless_last [] h = refl
endless_last (line ∷ []) h = h.0
endless_last (line ∷ next ∷ lines) h = endless_last (next ∷ lines) h.1

-- ---- items

abbrev IsFine : List File → Result Line Trouble → Type 0
IsFine files (Ok line) = ends line.text ≡ 1
IsFine files (Err (Faulty place kind)) = Unit {0}
IsFine files (Err (Missing place name)) = IsAbsent files name

abbrev Fine : List File → Items → Type 0
Fine files [] = Unit {0}
Fine files (item ∷ items) = IsFine files item × Fine files items

fine_both : (files : List File) (front back : Items) → Fine files front → Fine files back
    → Fine files (front ++ back)
fine_both files [] back f b = b
fine_both files (item ∷ front) back f b = (f.0, fine_both files front back f.1 b)

fine_choice : (files : List File) (b : Bool) (one other : Items) → Fine files one
    → Fine files other → Fine files (cond b one other)
fine_choice files true one other f g = f
fine_choice files false one other f g = g

abbrev IsFineInner : Inner → Type 0
IsFineInner inner = (scope : Scope) (place : IncludePlace) (index : ℕ)
    → Fine scope.files (inner scope place index)

fine_missing : (files : List File) (place : IncludePlace) (name : List ℕ) (b : Bool)
    → index_of files name ≡ None → nat_lt (length files) most_files ≡ b
    → Fine files (cond b (Err (Missing place name) ∷ []) (fault place IncludeCount))
fine_missing files place name true none room = ((none, ltb-true _ _ room), tt)
fine_missing files place name false none room = (tt, tt)

fine_index : (inner : Inner) (scope : Scope) (place : IncludePlace) (name : List ℕ)
    (found : Option ℕ) → IsFineInner inner → index_of scope.files name ≡ found
    → Fine scope.files (index_items inner scope place name found)
fine_index inner scope place name (Some index) fine is =
    fine_choice scope.files (list_any (λ other. other == index) scope.around)
    (fault place IncludeCycle) (inner scope place index) (tt, tt) (fine scope place index)
fine_index inner scope place name None fine is =
    fine_missing scope.files place name _ is refl

fine_name : (inner : Inner) (scope : Scope) (place : IncludePlace) (name : Option (List ℕ))
    → IsFineInner inner → Fine scope.files (name_items inner scope place name)
fine_name inner scope place None fine = (tt, tt)
fine_name inner scope place (Some name) fine =
    let path = source_path (name_at scope.files place.file) name in
    fine_index inner scope place path (index_of scope.files path) fine refl

fine_include : (inner : Inner) (scope : Scope) (origin : LineOrigin) (line : List ℕ)
    → IsFineInner inner → Fine scope.files (include_items inner scope origin line)
unfolding include_items
fine_include inner scope origin line fine =
    fine_name inner scope (place_in origin line) (name_in line) fine

fine_line : (inner : Inner) (scope : Scope) (origin : LineOrigin) (line : List ℕ)
    → IsFineInner inner → ends line ≡ 0 → Fine scope.files (line_items inner scope origin line)
fine_line inner scope origin line fine none =
    let both = ends_both line (10 ∷ []) in
    let one : ends (line ++ 10 ∷ []) ≡ 1 = omega (arith, both, none) in
    fine_choice scope.files (is_include line) (include_items inner scope origin line)
    (written_line origin (line ++ 10 ∷ [])) (fine_include inner scope origin line fine) (one, tt)

fine_lines : (inner : Inner) (scope : Scope) (file number : ℕ) (lines : List (List ℕ))
    → IsFineInner inner → Endless lines
    → Fine scope.files (lines_items inner scope file number lines)
unfolding lines_items
fine_lines inner scope file number [] fine endless = tt
fine_lines inner scope file number (line ∷ lines) fine endless =
    fine_both scope.files _ _
    (fine_line inner scope (record { file = file; line = number }) line fine endless.0)
    (fine_lines inner scope file (number + 1) lines fine endless.1)

fine_file : (left : ℕ) → IsFineInner (file_items left)
unfolding file_items
fine_file zero scope place index = (tt, tt)
fine_file (suc left) scope place index =
    let lines = lines_of (text_at scope.files index) in
    let endless = endless_parts (text_at scope.files index) in
    let origin = last_origin index lines in
    fine_both scope.files _ _
    (fine_lines (file_items left) (inside scope index) index 1 (ended_lines lines) (fine_file left)
    (endless_ended lines endless))
    (fine_choice scope.files (is_empty (last_line lines) && nat_lt 1 origin.line) []
    (line_items (file_items left) (inside scope index) origin (last_line lines)) tt
    (fine_line (file_items left) (inside scope index) origin (last_line lines) (fine_file left)
    (endless_last lines endless)))

-- ---- what is added

-- as many lines as LF
abbrev Counted : Whole → Type 0
Counted whole = length whole.lines ≡ ends whole.text

ok_same : (whole made : Whole) → ◌≡◌ {A = Result Whole Trouble} (Ok whole) (Ok made)
    → whole ≡ made
ok_same whole made h = (cc)

no_error : (trouble : Trouble) (made : Whole)
    → ◌≡◌ {A = Result Whole Trouble} (Err trouble) (Ok made) → ⊥
no_error trouble made h = (cc)

no_whole : (made : Whole) (trouble : Trouble)
    → ◌≡◌ {A = Result Whole Trouble} (Ok made) (Err trouble) → ⊥
no_whole made trouble h = (cc)

abbrev longer : Whole → Line → Whole
longer whole line =
    record { text = whole.text ++ line.text; lines = whole.lines ++ line.origin ∷ [] }

-- the items are added one part behind the other
parted_by : (made : Result Whole Trouble) (back : Items) (whole : Whole)
    → go_on made (λ next. with_items next back) ≡ Ok whole
    → (mid : Whole) × (made ≡ Ok mid) × (with_items mid back ≡ Ok whole)
parted_by (Ok mid) back whole h = (mid, refl, h)
parted_by (Err trouble) back whole h = absurd (no_error trouble whole h)

parted : (first : Whole) (front back : Items) (whole : Whole)
    → with_items first (front ++ back) ≡ Ok whole
    → (mid : Whole) × (with_items first front ≡ Ok mid) × (with_items mid back ≡ Ok whole)
parted first front back whole h =
    parted_by (with_items first front) back whole (sym (with_both first front back) ∙ h)

stopped_by : (made : Result Whole Trouble) (back : Items) (trouble : Trouble)
    → go_on made (λ next. with_items next back) ≡ Err trouble
    → (made ≡ Err trouble) ⊎ ((mid : Whole) × (with_items mid back ≡ Err trouble))
stopped_by (Ok mid) back trouble h = inr (mid, h)
stopped_by (Err other) back trouble h = inl h

stopped : (first : Whole) (front back : Items) (trouble : Trouble)
    → with_items first (front ++ back) ≡ Err trouble
    → (with_items first front ≡ Err trouble)
    ⊎ ((mid : Whole) × (with_items mid back ≡ Err trouble))
stopped first front back trouble h =
    stopped_by (with_items first front) back trouble (sym (with_both first front back) ∙ h)

-- a line more, with the LF that it has
ended_more : (whole : Whole) (line : Line) → ends line.text ≡ 1 → Counted whole
    → Counted (longer whole line)
ended_more whole line one c =
    let both = ends_both whole.text line.text in
    let more : length (whole.lines ++ line.origin ∷ []) ≡ length whole.lines + 1 =
    length-append whole.lines (line.origin ∷ []) in
    omega (arith, both, more, one, c)

-- the items behind a line, if it fits
behind_line : (whole made : Whole) (line : Line) (items : Items) (b : Bool)
    → go_on (cond b (Ok (longer whole line)) (Err (Faulty (start_of line.origin) IncludeSize)))
    (λ next. with_items next items) ≡ Ok made
    → with_items (longer whole line) items ≡ Ok made
behind_line whole made line items true h = h
behind_line whole made line items false h = absurd (no_error _ made h)

counted : (files : List File) (items : Items) (whole made : Whole) → Fine files items
    → with_items whole items ≡ Ok made → Counted whole → Counted made
unfolding with_items
counted files [] whole made fine h c = subst Counted (ok_same whole made h) c
counted files (Ok line ∷ items) whole made fine h c =
    counted files items (longer whole line) made fine.1
    (behind_line whole made line items (nat_le (length whole.text + length line.text) most_text) h)
    (ended_more whole line fine.0 c)
counted files (Err trouble ∷ items) whole made fine h c = absurd (no_error trouble made h)

last_by : (whole made : Whole) (line : Line) (b : Bool) → ends line.text ≡ 0 → Counted whole
    → cond b (Ok (longer whole line)) (Err (Faulty (start_of line.origin) IncludeSize)) ≡ Ok made
    → length made.lines ≡ ends made.text + 1
last_by whole made line true none c h =
    let both = ends_both whole.text line.text in
    let more : length (whole.lines ++ line.origin ∷ []) ≡ length whole.lines + 1 =
    length-append whole.lines (line.origin ∷ []) in
    let counted : length (longer whole line).lines ≡ ends (longer whole line).text + 1 =
    omega (arith, both, more, none, c) in
    subst (λ (w : Whole). length w.lines ≡ ends w.text + 1) (ok_same (longer whole line) made h)
    counted
last_by whole made line false none c h = absurd (no_error _ made h)

-- the last line has no LF
last_counted : (whole made : Whole) (origin : LineOrigin) (text : List ℕ) → ends text ≡ 0
    → Counted whole → with_items whole (written_line origin text) ≡ Ok made
    → length made.lines ≡ ends made.text + 1
last_counted whole made origin text none c h =
    last_by whole made (record { text = text; origin = origin }) _ none c
    (sym (one_item whole (Ok (record { text = text; origin = origin }))) ∙ h)

root_last : (files : List File) (inner : Inner) (scope : Scope) (origin : LineOrigin)
    (line : List ℕ) (whole made : Whole) (b : Bool) → IsFineInner inner → ends line ≡ 0
    → Counted whole
    → with_items whole (cond b (include_items inner scope origin line ++ written_line origin [])
    (written_line origin line)) ≡ Ok made
    → length made.lines ≡ ends made.text + 1
root_last files inner scope origin line whole made true fine none c h =
    let parts = parted whole (include_items inner scope origin line) (written_line origin []) made h
    in
    last_counted parts.0 made origin [] refl
    (counted scope.files (include_items inner scope origin line) whole parts.0
    (fine_include inner scope origin line fine) parts.1 c) parts.2
root_last files inner scope origin line whole made false fine none c h =
    last_counted whole made origin line none c h

-- each line of a text has its origin
pub lines_have_origins : (files : List File) (whole : Whole) → included files ≡ Ok whole
    → LinesHaveOrigins whole
unfolding included
lines_have_origins files whole h =
    let lines = lines_of (text_at files 0) in
    let endless = endless_parts (text_at files 0) in
    let scope = first_scope files in
    let front = lines_items (file_items 15) scope 0 1 (ended_lines lines) in
    let back = last_items (file_items 15) scope (last_origin 0 lines) (last_line lines) in
    let parts = parted empty front back whole h in
    let first : Counted parts.0 =
    counted files front empty parts.0 (fine_lines (file_items 15) scope 0 1 (ended_lines lines)
    (fine_file 15) (endless_ended lines endless)) parts.1 refl in
    root_last files (file_items 15) scope (last_origin 0 lines) (last_line lines) parts.0 whole
    (is_include (last_line lines)) (fine_file 15) (endless_last lines endless) first parts.2
    ∙ sym (length-slice_split (λ byte. byte == 10) whole.text)

-- ---- what is wanted

missing_same : (place other : IncludePlace) (name text : List ℕ)
    → ◌≡◌ {A = Result Whole Trouble} (Err (Missing place name)) (Err (Missing other text))
    → name ≡ text
missing_same place other name text h = (cc)

no_fault : (place other : IncludePlace) (kind : IncludeFaultKind) (text : List ℕ)
    → ◌≡◌ {A = Result Whole Trouble} (Err (Faulty place kind)) (Err (Missing other text)) → ⊥
no_fault place other kind text h = (cc)

wanted_behind : (whole : Whole) (line : Line) (items : Items) (place : IncludePlace)
    (name : List ℕ) (b : Bool)
    → go_on (cond b (Ok (longer whole line)) (Err (Faulty (start_of line.origin) IncludeSize)))
    (λ next. with_items next items) ≡ Err (Missing place name)
    → with_items (longer whole line) items ≡ Err (Missing place name)
wanted_behind whole line items place name true h = h
wanted_behind whole line items place name false h = absurd (no_fault _ place IncludeSize name h)

absent : (files : List File) (items : Items) (whole : Whole) (place : IncludePlace)
    (name : List ℕ) → Fine files items → with_items whole items ≡ Err (Missing place name)
    → IsAbsent files name
unfolding with_items
absent files [] whole place name fine h = absurd (no_whole whole _ h)
absent files (Ok line ∷ items) whole place name fine h =
    absent files items (longer whole line) place name fine.1
    (wanted_behind whole line items place name
    (nat_le (length whole.text + length line.text) most_text) h)
absent files (Err (Faulty other kind) ∷ items) whole place name fine h =
    absurd (no_fault other place kind name h)
absent files (Err (Missing other text) ∷ items) whole place name fine h =
    subst (IsAbsent files) (missing_same other place text name h) fine.0

never_by : (whole : Whole) (line : Line) (place : IncludePlace) (name : List ℕ) (b : Bool)
    → cond b (Ok (longer whole line)) (Err (Faulty (start_of line.origin) IncludeSize))
    ≡ Err (Missing place name) → ⊥
never_by whole line place name true h = no_whole _ _ h
never_by whole line place name false h = no_fault _ place IncludeSize name h

-- a line is not wanted
never : (whole : Whole) (origin : LineOrigin) (text : List ℕ) (place : IncludePlace)
    (name : List ℕ) → with_items whole (written_line origin text) ≡ Err (Missing place name) → ⊥
never whole origin text place name h =
    never_by whole (record { text = text; origin = origin }) place name _
    (sym (one_item whole (Ok (record { text = text; origin = origin }))) ∙ h)

last_absent : (inner : Inner) (scope : Scope) (origin : LineOrigin) (line : List ℕ)
    (whole : Whole) (place : IncludePlace) (name : List ℕ) (b : Bool) → IsFineInner inner
    → with_items whole (cond b (include_items inner scope origin line ++ written_line origin [])
    (written_line origin line)) ≡ Err (Missing place name)
    → IsAbsent scope.files name
last_absent inner scope origin line whole place name true fine h =
    elim (stopped whole (include_items inner scope origin line) (written_line origin [])
    (Missing place name) h) [
      | inl first ↦ absent scope.files (include_items inner scope origin line) whole place name
          (fine_include inner scope origin line fine) first
      | inr behind ↦ absurd (never behind.0 origin [] place name behind.1)
    ]
last_absent inner scope origin line whole place name false fine h =
    absurd (never whole origin line place name h)

pub wanted_absent : (files : List File) (place : IncludePlace) (name : List ℕ)
    → included files ≡ Err (Missing place name) → IsAbsent files name
unfolding included
wanted_absent files place name h =
    let lines = lines_of (text_at files 0) in
    let endless = endless_parts (text_at files 0) in
    let scope = first_scope files in
    let front = lines_items (file_items 15) scope 0 1 (ended_lines lines) in
    let origin = last_origin 0 lines in
    let back = last_items (file_items 15) scope origin (last_line lines) in
    elim (stopped empty front back (Missing place name) h) [
      | inl first ↦ absent files front empty place name
          (fine_lines (file_items 15) scope 0 1 (ended_lines lines) (fine_file 15)
          (endless_ended lines endless)) first
      | inr behind ↦ last_absent (file_items 15) scope origin (last_line lines) behind.0 place name
          (is_include (last_line lines)) (fine_file 15) behind.1
    ]

pub wants_absent : (files : List File) (error : IncludeError)
    → IfSome (trouble_of error) (λ trouble. included files ≡ Err trouble)
    → WantsAbsent files error
wants_absent files (errors.Fault place kind) h = tt
wants_absent files (errors.Wanted place name) h = wanted_absent files place (string_bytes name) h
wants_absent files errors.Memory h = tt
