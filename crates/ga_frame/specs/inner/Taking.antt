-- What words begin with.
use Rattle.std.specs.Prelude.{◌≡◌, ℕ, List, ◌++◌, All, length}
use Rattle.std.specs.List.{flat_map}
use Rattle.ga_frame.specs.Frame.{FrameView, GoesOn, IsFirstFault, WellFormed, words_of}
use Rattle.ga_frame.specs.declared.error.FrameError.{FrameError}

-- words begin with this frame, and these words follow it
abbrev pub BeginsWith : List ℕ → FrameView → List ℕ → Type 0
BeginsWith words frame behind = (words ≡ words_of frame ++ behind) × WellFormed frame

-- Words have this first fault behind frames that go on and have this many words, whatever follows.
pub record HasFaultBehind (at : ℕ) (words : List ℕ) (fault : FrameError) : Type 0 where
  pub first : (front : List FrameView) (more : List ℕ) → All GoesOn front
      → length (flat_map words_of front) ≡ at
      → IsFirstFault (flat_map words_of front ++ (words ++ more)) fault
