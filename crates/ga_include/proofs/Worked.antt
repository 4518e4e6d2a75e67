-- Worked texts: names, lines and whole texts, each worked out by hand.
use Rattle.std.proofs.Common.{◌≡◌, ℕ, List, [], ◌∷◌, Option, Some, None, Result, Ok, Err, refl}
use Rattle.std.specs.Prelude.{codes}
use Rattle.ga_word.specs.Text.{tokens}
use Rattle.ga_include.specs.declared.error.IncludeFaultKind.{IncludeFaultKind}
use Rattle.ga_include.specs.declared.error.IncludeFaultKind.TheVariants.{BadInclude, IncludeCycle}
use Rattle.ga_include.specs.declared.file.LineOrigin.{LineOrigin}
use Rattle.ga_include.specs.Error.{Faulty, Missing, Trouble}
use Rattle.ga_include.specs.File.{File}
use Rattle.ga_include.specs.IncludeLine.{name_in}
use Rattle.ga_include.specs.Including.{Whole, file_items, include_items, included, lines_items, with_items}
use Rattle.ga_include.specs.Path.{source_path}

-- ---- names

beside : source_path (codes "lib/a.larger") (codes "b.larger") ≡ codes "lib/b.larger"
beside = refl

above : source_path (codes "x//y/z") (codes "../a") ≡ codes "x//y/../a"
above = refl

from_the_root : source_path (codes "x/z") (codes "/a") ≡ codes "/a"
from_the_root = refl

-- ---- lines

abbrev Name : Type 0
Name = Option (List ℕ)

with_blanks : ◌≡◌ {A = Name} (name_in (codes "  include \t \"a b\"  \\ \"c\"")) (Some (codes "a b"))
unfolding name_in tokens
with_blanks = refl

no_quotes : ◌≡◌ {A = Name} (name_in (codes "include a")) None
unfolding name_in tokens
no_quotes = refl

no_name : ◌≡◌ {A = Name} (name_in (codes "include \"\"")) None
unfolding name_in tokens
no_name = refl

no_blank : ◌≡◌ {A = Name} (name_in (codes "include\"a\"")) None
unfolding name_in tokens
no_blank = refl

more_behind : ◌≡◌ {A = Name} (name_in (codes "include \"a\" dup")) None
unfolding name_in tokens
more_behind = refl

-- ---- texts

abbrev Answer : Type 0
Answer = Result Whole Trouble

file : List ℕ → List ℕ → File
file name text = record { name = name; text = text }

line : ℕ → ℕ → LineOrigin
line index number = record { file = index; line = number }

faulty : ℕ → ℕ → ℕ → IncludeFaultKind → Answer
faulty index number column kind =
    Err (Faulty (record { file = index; line = number; column = column }) kind)

-- the included text has no LF at its end
one_file : ◌≡◌ {A = Answer}
    (included (file (codes "a") (codes "1\ninclude \"b\"\n2") ∷ file (codes "b") (codes "3") ∷ []))
    (Ok (record { text = codes "1\n3\n2"; lines = line 0 1 ∷ line 1 1 ∷ line 0 3 ∷ [] }))
unfolding included with_items lines_items include_items file_items name_in tokens file line
one_file = refl

-- twice the same file, which is empty, and an include line at the end
same_file : ◌≡◌ {A = Answer}
    (included (file (codes "a") (codes "include \"b\"\ninclude \"b\"") ∷ file (codes "b") [] ∷ []))
    (Ok (record { text = codes "\n\n"; lines = line 1 1 ∷ line 1 1 ∷ line 0 2 ∷ [] }))
unfolding included with_items lines_items include_items file_items name_in tokens file line
same_file = refl

through_another : ◌≡◌ {A = Answer}
    (included (file (codes "x/a") (codes "include \"b\"") ∷ file (codes "x/b")
    (codes "1\n include \"a\"") ∷ []))
    (faulty 1 2 2 IncludeCycle)
unfolding included with_items lines_items include_items file_items name_in tokens file faulty
through_another = refl

first_fault : ◌≡◌ {A = Answer}
    (included (file (codes "a") (codes "1\n\tinclude b\ninclude \"c\"") ∷ []))
    (faulty 0 2 2 BadInclude)
unfolding included with_items lines_items include_items file_items name_in tokens file faulty
first_fault = refl

wanted : ◌≡◌ {A = Answer} (included (file (codes "x/a") (codes "1\ninclude \"y/b\"") ∷ []))
    (Err (Missing (record { file = 0; line = 2; column = 1 }) (codes "x/y/b")))
unfolding included with_items lines_items include_items file_items name_in tokens file
wanted = refl
