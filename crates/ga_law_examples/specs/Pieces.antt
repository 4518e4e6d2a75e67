-- A node that is fed its stream in pieces, and one that is loaded.
use Rattle.std.specs.Prelude.{◌≡◌, ℕ, List, Some}
use Rattle.ga_asm.specs.Image.{ImageView, image_of}
use Rattle.ga_asm.specs.Text.{HasImages}
use Rattle.ga_path.specs.Stream.{Images}
use Rattle.ga_chip.specs.Chip.{Chip, part_of, reset_chip, stream_opened}
use Rattle.ga_chip.specs.Legal.{DifferInBreaks, IsLegal}
use Rattle.ga_chip.specs.Part.{Part}
use Rattle.ga_chip.specs.Run.{Event, ran, words_fed}
use Rattle.ga_boot.specs.Boot.{Holds}

-- The chip at the end of a run that feeds a node's stream these words. The run begins at a chip
-- after reset, apart from breakpoints, on which that stream was opened.
pub record IsFed (chip : Chip) (name : ℕ) (words : List ℕ) : Type 0 where
  pub first : Chip
  pub legal : IsLegal first
  pub opened : DifferInBreaks first (stream_opened reset_chip name)
  pub events : List Event
  pub leads : chip ≡ ran first events
  pub fed : words_fed first events name ≡ words

-- A node has its image of a text in memory, and zeros behind it.
pub record IsLoaded (text : List ℕ) (chip : Chip) (name : ℕ) : Type 0 where
  pub images : Images
  pub images_are : HasImages text images
  pub image : ImageView
  pub image_is : image_of images name ≡ Some image
  pub memory : (now : Part) → part_of chip name ≡ Some now → Holds now.state (Some image)
