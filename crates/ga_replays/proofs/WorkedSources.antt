-- Names of sources, whole texts and the way back, worked out by hand.
use Rattle.std.proofs.Common.{◌≡◌, None, Some, [], ◌∷◌, refl}
use Rattle.std.specs.Fmt.{digits}
use Rattle.std.specs.Prelude.{codes}
use Rattle.ga_replays.specs.SourceName.{source_named}
use Rattle.ga_replays.specs.Sourced.{line_in_file, report_in_file, with_lines}

a_name : source_named (codes "profile 2\nplace\nsource a b\ngo\n> turn 1\n") ≡ Some (codes "a b")
a_name = refl

not_before_go : source_named (codes "profile 2\nplace\nsource a\n\ngo\n") ≡ None
not_before_go = refl

-- a line `go` of the source gets a space
a_whole_text : with_lines (codes "1\n2\nsource a\ngo\n") 1 (codes "x" ∷ codes "go" ∷ [])
    ≡ codes "1\n2\nx\ngo \ngo\n"
unfolding with_lines
a_whole_text = refl

and_back : with_lines (codes "1\n2\nx\ngo \ngo\n> c") 2 (codes "source a" ∷ [])
    ≡ codes "1\n2\nsource a\ngo\n> c"
unfolding with_lines
and_back = refl

-- the line `go` of a source of two lines is line 5 of the whole text
a_line : line_in_file 2 5 ≡ 4
a_line = refl

a_report : report_in_file 2 (codes "f") (codes ":12: differs: > :3:\n-:12: x\n")
    ≡ codes "f:11: differs: > :3:\n-:12: x\n"
unfolding report_in_file digits
a_report = refl
