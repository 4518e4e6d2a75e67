-- The places of words, worked out by hand.
use Rattle.std.proofs.Common.{◌≡◌, ◌∷◌, ◌++◌, refl}
use Rattle.std.specs.Prelude.{codes}
use Rattle.ga_diagnostics.specs.WordPlace.{word_place}

first : word_place (codes "2C9B2 x") 0 ≡ record { line = 1; column = 1 }
unfolding word_place
first = refl

second : word_place (codes "2C9B2 x") 1 ≡ record { line = 1; column = 7 }
unfolding word_place
second = refl

-- CR, LF and a tab are blanks
on_second_line : word_place (codes "2C9B2" ++ 13 ∷ 10 ∷ 9 ∷ codes " 4C9B2") 1
    ≡ record { line = 2; column = 3 }
unfolding word_place
on_second_line = refl

-- a text without such a word: its end
no_word : word_place (codes "\n \n") 0 ≡ record { line = 3; column = 1 }
unfolding word_place
no_word = refl

behind_all : word_place (codes "00000 00000") 2 ≡ record { line = 1; column = 12 }
unfolding word_place
behind_all = refl
