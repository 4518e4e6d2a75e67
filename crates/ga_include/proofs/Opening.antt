-- What include lines and files stand for, step by step.
use Rattle.std.proofs.Common.{◌≡◌, ◌∙◌, ◌==◌, ◌&&◌, ℕ, zero, suc, ◌<◌, ◌+◌, ◌-◌, true, Option, Some, None, Result, Ok, Err, IfSome, List, [], ◌∷◌, ◌++◌, arith, cond, length, refl, sym, ap, ap₂}
use Rattle.std.specs.Prelude.{nat_lt}
use Rattle.std.proofs.lemmas.Bool.Decides.{nat_tests}
use Rattle.ga_word.specs.Text.{is_empty}
use Rattle.ga_pack.specs.Model.Text.{lines_of}
use Rattle.ga_include.specs.declared.error.IncludeError.{IncludeError}
use Rattle.ga_include.specs.declared.error.IncludeFaultKind.TheVariants.{IncludeDepth}
use Rattle.ga_include.specs.declared.error.IncludePlace.{IncludePlace}
use Rattle.ga_include.specs.declared.file.LineOrigin.{LineOrigin}
use Rattle.ga_include.specs.declared.including.Included.{Included}
use Rattle.ga_include.specs.Error.{Trouble, trouble_of}
use Rattle.ga_include.specs.File.{File, name_at, text_at}
use Rattle.ga_include.specs.IncludeLine.{is_include, name_in}
use Rattle.ga_include.specs.Including.{Inner, Items, Scope, Whole, empty, ended_lines, fault, file_items, first_scope, include_items, included, inside, last_items, last_line, line_items, lines_items, name_items, opened_items, path_items, place_in, rest_items, root_items, whole_of, with_items, written_line}
use Rattle.ga_include.specs.Path.{source_path}
use Rattle.ga_include.specs.inner.Adding.{Fails}
use Rattle.ga_include.proofs.Adding.{added_first, failed_first, no_items}

-- ---- what an error of items says of others

pub still_some : (o : Option Trouble) (P Q : Trouble → Type 0)
    → ((trouble : Trouble) → P trouble → Q trouble) → IfSome o P → IfSome o Q
still_some None P Q h all = all
still_some (Some trouble) P Q h all = h trouble all

pub still_fails : (before : Included) (items : Items) (old : Included) (others : Items)
    (error : IncludeError)
    → ((trouble : Trouble) → with_items (whole_of before) items ≡ Err trouble
    → with_items (whole_of old) others ≡ Err trouble)
    → Fails before items error → Fails old others error
still_fails before items old others error h = still_some (trouble_of error) _ _ h

-- ---- an include line

-- a line with a name includes the file that the name means
pub by_path : (inner : Inner) (scope : Scope) (origin : LineOrigin) (line name file path : List ℕ)
    (place : IncludePlace) → Some name ≡ name_in line → place ≡ place_in origin line
    → file ≡ name_at scope.files origin.file → path ≡ source_path file name
    → include_items inner scope origin line ≡ path_items inner scope place path
unfolding include_items
by_path inner scope origin line name file path place named placed of_file means =
    sym (ap (name_items inner scope (place_in origin line)) named)
    ∙ ap₂ (path_items inner scope) (sym placed)
    (ap (λ f. source_path f name) (sym of_file) ∙ sym means)

-- ---- a file

pub too_deep : (left : ℕ) (scope : Scope) (place : IncludePlace) (index : ℕ) → left ≡ 0
    → file_items left scope place index ≡ fault place IncludeDepth
unfolding file_items
too_deep zero scope place index h = refl
too_deep (suc left) scope place index h = absurd (omega arith)

opened : (left : ℕ) (scope : Scope) (place : IncludePlace) (index : ℕ) → 0 < left
    → file_items left scope place index
    ≡ opened_items (file_items (left - 1)) (inside scope index) index
    (lines_of (text_at scope.files index))
unfolding file_items
opened zero scope place index h = absurd (omega arith)
opened (suc left) scope place index h =
    let same : suc left - 1 ≡ left = omega arith in
    rw same refl

-- its items, where its text and the files around its lines are known
abbrev front : ℕ → Scope → ℕ → List ℕ → Items
front left scope index text =
    lines_items (file_items (left - 1)) scope index 1 (ended_lines (lines_of text))

abbrev back : ℕ → Scope → ℕ → ℕ → List ℕ → Items
back left scope index line last =
    rest_items (file_items (left - 1)) scope (record { file = index; line = line }) last

parts : (left : ℕ) (scope : Scope) (place : IncludePlace) (index : ℕ) (text around : List ℕ)
    → 0 < left → text ≡ text_at scope.files index → around ≡ scope.around ++ index ∷ []
    → file_items left scope place index
    ≡ front left (record { files = scope.files; around = around }) index text
    ++ back left (record { files = scope.files; around = around }) index
    (length (ended_lines (lines_of text)) + 1) (last_line (lines_of text))
parts left scope place index text around some of_file is =
    opened left scope place index some
    ∙ ap₂ (λ files_around of_text. opened_items (file_items (left - 1))
    (record { files = scope.files; around = files_around }) index (lines_of of_text))
    (sym is) (sym of_file)

-- the lines that LF ends are behind a text, and then what is behind the last LF
pub file_added : (left : ℕ) (scope : Scope) (place : IncludePlace) (index line : ℕ)
    (text last around : List ℕ) (old mid : Whole) (end : Result Whole Trouble)
    → 0 < left → text ≡ text_at scope.files index → around ≡ scope.around ++ index ∷ []
    → with_items old (front left (record { files = scope.files; around = around }) index text)
    ≡ Ok mid
    → last ≡ last_line (lines_of text) → line ≡ length (ended_lines (lines_of text)) + 1
    → with_items mid (back left (record { files = scope.files; around = around }) index line last)
    ≡ end
    → with_items old (file_items left scope place index) ≡ end
file_added left scope place index line text last around old mid end some of_file is first last_is
    line_is rest =
    ap (with_items old) (parts left scope place index text around some of_file is)
    ∙ added_first old mid _ _ first
    ∙ ap₂ (λ n l. with_items mid
    (back left (record { files = scope.files; around = around }) index n l))
    (sym line_is) (sym last_is)
    ∙ rest

pub file_failed : (left : ℕ) (scope : Scope) (place : IncludePlace) (index : ℕ)
    (text around : List ℕ) (old : Whole) (trouble : Trouble)
    → 0 < left → text ≡ text_at scope.files index → around ≡ scope.around ++ index ∷ []
    → with_items old (front left (record { files = scope.files; around = around }) index text)
    ≡ Err trouble
    → with_items old (file_items left scope place index) ≡ Err trouble
file_failed left scope place index text around old trouble some of_file is first =
    ap (with_items old) (parts left scope place index text around some of_file is)
    ∙ failed_first old _ _ trouble first

-- ---- what is behind the last LF

nothing_left : (line : List ℕ) (number : ℕ) → (length line == 0) ≡ true → 1 < number
    → (is_empty line && nat_lt 1 number) ≡ true
nothing_left [] number none later = grind (arith, nat_tests)
nothing_left (c ∷ line) number none later = absurd (grind (arith, nat_tests))

pub no_rest : (inner : Inner) (scope : Scope) (origin : LineOrigin) (line : List ℕ) (whole : Whole)
    → (length line == 0) ≡ true → 1 < origin.line
    → with_items whole (rest_items inner scope origin line) ≡ Ok whole
no_rest inner scope origin line whole none later =
    ap (λ b. with_items whole (cond b [] (line_items inner scope origin line)))
    (nothing_left line origin.line none later)
    ∙ no_items whole

last_of : (inner : Inner) (scope : Scope) (origin : LineOrigin) (line : List ℕ)
    → is_include line ≡ true → last_items inner scope origin line
    ≡ include_items inner scope origin line ++ written_line origin []
last_of inner scope origin line is =
    ap (λ b. cond b (include_items inner scope origin line ++ written_line origin [])
    (written_line origin line)) is

pub last_added : (inner : Inner) (scope : Scope) (origin : LineOrigin) (line : List ℕ)
    (old mid : Whole) (end : Result Whole Trouble) → is_include line ≡ true
    → with_items old (include_items inner scope origin line) ≡ Ok mid
    → with_items mid (written_line origin []) ≡ end
    → with_items old (last_items inner scope origin line) ≡ end
last_added inner scope origin line old mid end is first rest =
    ap (with_items old) (last_of inner scope origin line is) ∙ added_first old mid _ _ first ∙ rest

pub last_failed : (inner : Inner) (scope : Scope) (origin : LineOrigin) (line : List ℕ)
    (old : Whole) (trouble : Trouble) → is_include line ≡ true
    → with_items old (include_items inner scope origin line) ≡ Err trouble
    → with_items old (last_items inner scope origin line) ≡ Err trouble
last_failed inner scope origin line old trouble is first =
    ap (with_items old) (last_of inner scope origin line is) ∙ failed_first old _ _ trouble first

-- ---- the file itself

abbrev root_front : List File → List ℕ → Items
root_front files text =
    lines_items (file_items 15) (first_scope files) 0 1 (ended_lines (lines_of text))

abbrev root_back : List File → ℕ → List ℕ → Items
root_back files line last =
    last_items (file_items 15) (first_scope files) (record { file = 0; line = line }) last

root_parts : (files : List File) (text : List ℕ) (first : Whole) → first ≡ empty
    → text ≡ text_at files 0 → included files ≡ with_items first (root_front files text
    ++ root_back files (length (ended_lines (lines_of text)) + 1) (last_line (lines_of text)))
unfolding included
root_parts files text first is of_file =
    ap₂ (λ whole of_text. with_items whole (root_items files (lines_of of_text))) (sym is)
    (sym of_file)

pub root_added : (files : List File) (text last : List ℕ) (line : ℕ) (first mid : Whole)
    (end : Result Whole Trouble) → first ≡ empty → text ≡ text_at files 0
    → with_items first (root_front files text) ≡ Ok mid
    → last ≡ last_line (lines_of text) → line ≡ length (ended_lines (lines_of text)) + 1
    → with_items mid (root_back files line last) ≡ end
    → included files ≡ end
root_added files text last line first mid end is of_file lines last_is line_is rest =
    root_parts files text first is of_file
    ∙ added_first first mid _ _ lines
    ∙ ap₂ (λ n l. with_items mid (root_back files n l)) (sym line_is) (sym last_is)
    ∙ rest

pub root_failed : (files : List File) (text : List ℕ) (first : Whole) (trouble : Trouble)
    → first ≡ empty → text ≡ text_at files 0
    → with_items first (root_front files text) ≡ Err trouble
    → included files ≡ Err trouble
root_failed files text first trouble is of_file lines =
    root_parts files text first is of_file ∙ failed_first first _ _ trouble lines
