-- Streams that come in pieces.
use Rattle.std.specs.Prelude.{ℕ, ◌==◌, Option, Some, None, length, slice_get, if◌then◌else◌}
use Rattle.std.specs.Option.{option_and_then, option_map_or}
use Rattle.ga_chip.specs.declared.error.ChipError.{ChipError}
use Rattle.ga_chip.specs.declared.error.ChipError.TheVariants.{NotOpen, NotTaken}
use Rattle.ga_chip.specs.Part.{Part}
use Rattle.ga_chip.specs.Chip.{Chip, part_of}
use Rattle.ga_chip.specs.Run.{words_left}

-- how many words of its stream a node has not yet taken; 0 without a stream
abbrev pub left_of : Chip → ℕ → ℕ
left_of chip name = option_map_or (λ part. length (words_left part.stream)) (part_of chip name) 0

-- the next word of a node's stream, if one is left
abbrev pub next_input : Chip → ℕ → Option ℕ
next_input chip name =
    option_and_then (λ part. slice_get (words_left part.stream) 0) (part_of chip name)

-- Why a node's stream can't be fed: it wasn't opened, or words of the last piece are left.
abbrev pub part_feed_refusal : Part → Option ChipError
part_feed_refusal part =
    if part.opened then (if length (words_left part.stream) == 0 then None else Some NotTaken)
    else Some NotOpen

abbrev pub feed_refusal : Chip → ℕ → Option ChipError
feed_refusal chip name = option_and_then part_feed_refusal (part_of chip name)
