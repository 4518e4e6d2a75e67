-- Worked values of clocks: 708 posts a word for 709, which takes it; then 708 sees that it was
-- read, and posts another.
use Rattle.std.proofs.Common.{◌≡◌, [], ◌∷◌, Some, None, refl}
use Rattle.ga_place.specs.declared.side.Side.TheVariants.{Right}
use Rattle.ga_chip.specs.Part.{Check, Own, Post, Take}
use Rattle.ga_chip.specs.Run.{Move}
use Rattle.ga_race.specs.Clocks.{Clocks, clocks_on, no_clocks}

abbrev own : Move
own = record { node = 708; asked = Own; found = None; picked = [] }

abbrev post : Move
post = record { node = 708; asked = Post Right 495 0x12; found = None; picked = [] }

abbrev take : Move
take = record { node = 709; asked = Take Right 495; found = Some 0x12; picked = Right ∷ [] }

abbrev check : Move
check = record { node = 708; asked = Check Right 495; found = None; picked = [] }

abbrev taken : Clocks
taken = clocks_on no_clocks (own ∷ post ∷ take ∷ [])

abbrev again : Clocks
again = clocks_on taken (check ∷ post ∷ [])

-- the post is the second step of 708, and the take comes after it
posted : taken.posts 495 708 ≡ 2
posted = refl

behind : taken.nodes 709 708 ≡ 2
behind = refl

first : taken.nodes 709 709 ≡ 1
first = refl

-- 708 doesn't know of the take until it has checked
not_yet : taken.nodes 708 709 ≡ 0
not_yet = refl

seen : again.nodes 708 709 ≡ 1
seen = refl

-- so its next post comes after the take
next : again.posts 495 709 ≡ 1
next = refl

fourth : again.posts 495 708 ≡ 4
fourth = refl
