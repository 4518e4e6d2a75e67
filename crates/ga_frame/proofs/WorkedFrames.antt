-- Worked values of the definitions of frames.
use Rattle.std.proofs.Common.{◌≡◌, [], ◌∷◌, true, false, Some, None, refl}
use Rattle.ga_frame.specs.Frame.{AreFrames, FrameView, fault_at, has_addresses, words_of}
use Rattle.ga_frame.specs.declared.error.FrameError.TheVariants.{BadAddress, CutBody, CutHeader}

-- a word for RAM, behind which another frame follows
one_word : FrameView
one_word = record { completion = 0x0AE; transfer = 0; words = 0x2C9B2 ∷ [] }

-- the last frame, without words: the node goes to 1B5
last : FrameView
last = record { completion = 0x1B5; transfer = 0; words = [] }

words_of_one : words_of one_word ≡ 0x000AE ∷ 0x00000 ∷ 0x00001 ∷ 0x2C9B2 ∷ []
unfolding one_word
words_of_one = refl

two_frames : AreFrames (0x000AE ∷ 0x00000 ∷ 0x00001 ∷ 0x2C9B2 ∷ 0x001B5 ∷ 0x00000 ∷ 0x00000 ∷ [])
    (one_word ∷ last ∷ [])
unfolding AreFrames one_word last
two_frames = (0x001B5 ∷ 0x00000 ∷ 0x00000 ∷ [], refl, refl, refl, (refl, refl, refl))

-- RAM's mirror, io and one port; not ROM, several ports, an address that is none, or ten bits; nor
-- a completion of eleven
addresses : (has_addresses 0x3FF 0x07F ≡ true)
    × (has_addresses 0x0AE 0x15D ≡ true)
    × (has_addresses 0x0AE 0x1D5 ≡ true)
    × (has_addresses 0x0AE 0x0A9 ≡ false)
    × (has_addresses 0x0AE 0x1A5 ≡ false)
    × (has_addresses 0x0AE 0x141 ≡ false)
    × (has_addresses 0x0AE 0x200 ≡ false)
    × (has_addresses 0x400 0x000 ≡ false)
addresses = (refl, refl, refl, refl, refl, refl, refl, refl)

-- two words are cut; a bad address comes before a body that is cut; a word is short; and a right
-- frame
faults : (fault_at 3 (0x000AE ∷ 0x00000 ∷ []) ≡ Some (CutHeader 3))
    × (fault_at 0 (0x001B5 ∷ 0x00141 ∷ 0x00009 ∷ []) ≡ Some (BadAddress 0))
    × (fault_at 0 (0x001B5 ∷ 0x00000 ∷ 0x00002 ∷ 0x2C9B2 ∷ []) ≡ Some (CutBody 0))
    × (fault_at 0 (0x001B5 ∷ 0x00000 ∷ 0x00000 ∷ 0x2C9B2 ∷ []) ≡ None)
faults = (refl, refl, refl, refl)
