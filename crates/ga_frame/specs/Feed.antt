-- Frames of a stream that comes in pieces.
use Rattle.std.specs.Prelude.{◌≡◌, ℕ, ◌&&◌, nat_lt, Bool, true, false, List, [], ◌∷◌, ◌++◌, All, length, if◌then◌else◌}
use Rattle.std.specs.List.{flat_map}
use Rattle.ga_frame.specs.Frame.{AreFrames, FrameView, GoesOn, has_addresses, words_of}
use Rattle.ga_frame.specs.declared.error.FrameError.{FrameError}
use Rattle.ga_frame.specs.declared.error.FrameError.TheVariants.{CutBody, CutHeader}

-- The place of a reader in a stream.
pub record FeedView : Type 0 where
  -- how many words the frames have that it handed out
  pub at : ℕ
  -- the words behind them, of a frame that isn't whole yet
  pub begun : List ℕ
  -- whether the last frame was handed out
  pub ended : Bool

-- words of a frame that isn't whole yet, and has no fault so far
abbrev pub is_cut : List ℕ → Bool
is_cut (completion ∷ transfer ∷ count ∷ body) =
    has_addresses completion transfer && nat_lt (length body) count
is_cut words = true

-- A reader with this state has handed out these frames of these words.
pub record HasRead (words : List ℕ) (frames : List FrameView) (feed : FeedView) : Type 0 where
  pub whole : words ≡ flat_map words_of frames ++ feed.begun
  pub place : feed.at ≡ length (flat_map words_of frames)
  -- as long as the last frame isn't whole, another one follows behind each that is
  pub goes_on : feed.ended ≡ false → All GoesOn frames × (is_cut feed.begun ≡ true)
  -- and then the words are these frames and no more
  pub ends : feed.ended ≡ true → AreFrames words frames × (feed.begun ≡ [])

-- the fault of a frame that begins at the word with this number, if the stream ends after this many
-- of its words
abbrev pub cut_at : ℕ → ℕ → FrameError
cut_at at count = if nat_lt count 3 then CutHeader at else CutBody at
