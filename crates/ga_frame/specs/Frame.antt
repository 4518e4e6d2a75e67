-- Frames, of which a boot stream is made.
use Rattle.std.specs.Prelude.{◌≡◌, ◌⊎◌, ℕ, ◌+◌, ◌==◌, ◌&&◌, nat_lt, Bool, true, false, not, List, [], ◌∷◌, ◌++◌, All, length, Option, Some, None, is_some, if◌then◌else◌}
use Rattle.std.specs.List.{flat_map}
use Rattle.ga_place.specs.Address.{where_is}
use Rattle.ga_place.specs.Side.{one_side}
use Rattle.ga_place.specs.declared.address.Where.{Where}
use Rattle.ga_place.specs.declared.address.Where.TheVariants as at
use Rattle.ga_frame.specs.declared.frame.Frame.{Frame}
use Rattle.ga_frame.specs.declared.error.FrameError.{FrameError}
use Rattle.ga_frame.specs.declared.error.FrameError.TheVariants.{AfterEnd, BadAddress, CutBody, CutHeader, Memory}

-- a frame, as numbers and lists
pub record FrameView : Type 0 where
  pub completion : ℕ
  pub transfer : ℕ
  pub words : List ℕ

abbrev pub frame_view : Frame → FrameView
frame_view frame =
    record { completion = frame.completion; transfer = frame.transfer; words = frame.words.items }

-- the completion behind which another frame follows
abbrev pub MORE : ℕ
MORE = 0x0AE

-- the words of a frame: its completion, its transfer address, how many words it has, and these
abbrev pub words_of : FrameView → List ℕ
words_of frame = frame.completion ∷ frame.transfer ∷ length frame.words ∷ frame.words

-- words may go to RAM, to io, and to the port of one side
abbrev pub takes_words : Where → Bool
takes_words (at.Ram index) = true
takes_words (at.Rom index) = false
takes_words (at.Ports sides) = is_some (one_side sides)
takes_words at.Io = true
takes_words at.Unmapped = false

-- a completion has ten bits, and a transfer address nine, at which words may go
abbrev pub has_addresses : ℕ → ℕ → Bool
has_addresses completion transfer =
    nat_lt completion 0x400 && (nat_lt transfer 0x200 && takes_words (where_is transfer))

abbrev pub WellFormed : FrameView → Type 0
WellFormed frame = has_addresses frame.completion frame.transfer ≡ true

-- Words are these frames: one or more, one behind the other and nothing else. Each is well formed,
-- and another frame follows behind each but the last one.
unfoldable pub AreFrames : List ℕ → List FrameView → Type 0
AreFrames words [] = ⊥
AreFrames words (frame ∷ []) =
    (words ≡ words_of frame) × WellFormed frame × ((frame.completion == MORE) ≡ false)
AreFrames words (frame ∷ next ∷ frames) =
    (rest : List ℕ) × (words ≡ words_of frame ++ rest) × WellFormed frame
    × ((frame.completion == MORE) ≡ true) × AreFrames rest (next ∷ frames)

-- a frame that is well formed, behind which another follows
abbrev pub GoesOn : FrameView → Type 0
GoesOn frame = WellFormed frame × ((frame.completion == MORE) ≡ true)

-- the fault of the frame that some words begin with, whose first word has this number in the
-- stream: fewer than three words, a bad address, or fewer words than it counts
abbrev pub fault_at : ℕ → List ℕ → Option FrameError
fault_at at (completion ∷ transfer ∷ count ∷ body) =
    if not (has_addresses completion transfer) then Some (BadAddress at)
    else if nat_lt (length body) count then Some (CutBody at) else None
fault_at at words = Some (CutHeader at)

-- Behind some frames that go on comes a frame with that fault.
pub record IsFrameFault (words : List ℕ) (fault : FrameError) : Type 0 where
  pub frames : List FrameView
  pub rest : List ℕ
  pub whole : words ≡ flat_map words_of frames ++ rest
  pub go_on : All GoesOn frames
  pub wrong : fault_at (length (flat_map words_of frames)) rest ≡ Some fault

-- Behind some frames that go on comes the last one, and behind it a word.
pub record IsAfterEnd (words : List ℕ) (fault : FrameError) : Type 0 where
  pub frames : List FrameView
  pub last : FrameView
  pub word : ℕ
  pub rest : List ℕ
  pub whole : words ≡ flat_map words_of frames ++ (words_of last ++ word ∷ rest)
  pub go_on : All GoesOn frames
  pub well_formed : WellFormed last
  pub ends : (last.completion == MORE) ≡ false
  pub wrong : fault ≡ AfterEnd (length (flat_map words_of frames) + length (words_of last))

-- The first fault of the frames that words should be. Want of memory is none.
abbrev pub IsFirstFault : List ℕ → FrameError → Type 0
IsFirstFault words Memory = Unit
IsFirstFault words fault = IsFrameFault words fault ⊎ IsAfterEnd words fault

-- words with a fault are no frames
abbrev pub HasNoFrames : List ℕ → FrameError → Type 0
HasNoFrames words Memory = Unit
HasNoFrames words fault = (frames : List FrameView) → AreFrames words frames → ⊥
