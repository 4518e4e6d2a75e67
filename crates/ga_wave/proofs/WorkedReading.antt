-- Readings of texts in VCD that were worked out by hand.
use Rattle.std.proofs.Common.{◌≡◌, ℕ, List, [], ◌∷◌, ◌++◌, Some, None, codes, refl}
use Rattle.ga_wave.specs.Reading.{change_in, read_at, time_in, value_in}
use Rattle.ga_wave.specs.Variables.{declared_identifier}

-- a clock, a count of four bits and a state, with an identifier of two characters
abbrev EXAMPLE : List ℕ
EXAMPLE =
    codes "$comment a clock that counts $end\n$timescale 1 ns $end\n$scope module chip $end\n"
    ++ codes "$var wire 1 ! clock $end\n$var reg 4 # count [3:0] $end\n"
    ++ codes "$var string 1 b! state $end\n$upscope $end\n$enddefinitions $end\n"
    ++ codes "$dumpvars\n0!\nbz #\nsidle b!\n$end\n"
    ++ codes "#3\n1!\nb0 #\n#10\n0!\nscounts b!\n#12\n1!\nb1 #\n#13\n"

-- ---- identifiers

variables : (declared_identifier EXAMPLE (codes "chip" ∷ []) (codes "clock") ≡ Some (codes "!"))
    × (declared_identifier EXAMPLE (codes "chip" ∷ []) (codes "count") ≡ Some (codes "#"))
    × (declared_identifier EXAMPLE (codes "chip" ∷ []) (codes "state") ≡ Some (codes "b!"))
    × (declared_identifier EXAMPLE (codes "chip" ∷ []) (codes "idle") ≡ None)
    × (declared_identifier EXAMPLE [] (codes "clock") ≡ None)
unfolding declared_identifier
variables = (refl, refl, refl, refl, refl)

-- scopes in a scope may have variables of one name
abbrev NESTED : List ℕ
NESTED =
    codes "$scope module top $end\n$scope module left $end\n$var wire 1 ! at $end\n$upscope $end\n"
    ++ codes "$scope module right $end\n$var wire 1 # at $end\n$upscope $end\n"
    ++ codes "$var wire 1 & at $end\n$upscope $end\n$enddefinitions $end\n"

nested : (declared_identifier NESTED (codes "left" ∷ codes "top" ∷ []) (codes "at")
    ≡ Some (codes "!"))
    × (declared_identifier NESTED (codes "right" ∷ codes "top" ∷ []) (codes "at")
    ≡ Some (codes "#"))
    × (declared_identifier NESTED (codes "top" ∷ []) (codes "at") ≡ Some (codes "&"))
    × (declared_identifier NESTED (codes "right" ∷ []) (codes "at") ≡ None)
unfolding declared_identifier
nested = (refl, refl, refl, refl)

-- ---- values

-- a value holds until the next one
clock : (read_at EXAMPLE (codes "!") 3 ≡ Some (codes "1"))
    × (read_at EXAMPLE (codes "!") 9 ≡ Some (codes "1"))
    × (read_at EXAMPLE (codes "!") 10 ≡ Some (codes "0"))
unfolding read_at
clock = (refl, refl, refl)

count : (read_at EXAMPLE (codes "#") 2 ≡ Some (codes "bz "))
    × (read_at EXAMPLE (codes "#") 11 ≡ Some (codes "b0 "))
    × (read_at EXAMPLE (codes "#") 100 ≡ Some (codes "b1 "))
unfolding read_at
count = (refl, refl, refl)

state : (read_at EXAMPLE (codes "b!") 0 ≡ Some (codes "sidle "))
    × (read_at EXAMPLE (codes "b!") 12 ≡ Some (codes "scounts "))
unfolding read_at
state = (refl, refl)

-- an identifier that no line has, and one that is declared and has no value yet
unknown : read_at EXAMPLE (codes "?") 12 ≡ None
unfolding read_at
unknown = refl

unset : read_at (codes "$var wire 1 ! a $end\n$enddefinitions $end\n#5\n1!\n") (codes "!") 4 ≡ None
unfolding read_at
unset = refl

-- what looks like a change in front of the end of the declarations is none
declared : read_at (codes "$comment\n1!\n$end\n$enddefinitions $end\n#0\n#9\n") (codes "!") 5 ≡ None
unfolding read_at
declared = refl

-- of two changes at a time the last one counts
twice : read_at (codes "$enddefinitions $end\n#4\n0!\n1!\n#5\n") (codes "!") 4 ≡ Some (codes "1")
unfolding read_at
twice = refl

-- ---- lines

times : (time_in (codes "#120") ≡ Some 120) × (time_in (codes "#") ≡ None)
    × (time_in (codes "#1x") ≡ None) × (time_in (codes "b1 #") ≡ None)
times = (refl, refl, refl, refl)

lines : (change_in (codes "b101 \"") ≡ Some (codes "\"", codes "b101 "))
    × (change_in (codes "1s") ≡ Some (codes "s", codes "1"))
    × (change_in (codes "b101") ≡ None) × (change_in (codes "sa b !") ≡ None)
    × (change_in (codes "$end") ≡ None)
lines = (refl, refl, refl, refl, refl)

others : value_in (codes "!") (codes "b101 !!") ≡ None
others = refl
