-- Expectations that the nodes of a transcript don't meet, by its replies.
use Rattle.std.specs.Prelude.{ℕ, suc, Bool, List, [], ◌∷◌, Option, Some, None, codes, eqb, length, if◌then◌else◌}
use Rattle.std.specs.List.{starts_with}
use Rattle.std.specs.Str.{bytes_eq}
use Rattle.ga_pack.specs.Model.Text.{lines_of}
use Rattle.ga_transcript.specs.declared.unmet.Unmet.{Unmet}
use Rattle.ga_transcript.specs.Following.{Lines}

-- the reply of `expect` if the node has another value
abbrev pub is_unmet : List ℕ → Bool
is_unmet line = starts_with eqb line (codes "expected ")

-- the numbers of such lines, of which the first one has this number
abbrev pub unmet_from : ℕ → Lines → List ℕ
unmet_from number [] = []
unmet_from number (line ∷ lines) =
    if is_unmet line then number ∷ unmet_from (suc number) lines else unmet_from (suc number) lines

-- behind the line `go`
abbrev pub unmet_behind_go : ℕ → Lines → List ℕ
unmet_behind_go number [] = []
unmet_behind_go number (line ∷ lines) =
    if bytes_eq line (codes "go") then unmet_from (suc number) lines
    else unmet_behind_go (suc number) lines

-- the numbers of the lines of a transcript that are such replies, from 1
abbrev pub unmet_in : List ℕ → List ℕ
unmet_in text = unmet_behind_go 1 (lines_of text)

-- how many some lines are, and the first of them, if there is one
abbrev pub unmet_of : List ℕ → Option Unmet
unmet_of [] = None
unmet_of (first ∷ more) = Some (record { count = length (first ∷ more); first = first })
