-- A row of bits, kept in words of 64 bits.
use Rattle.std.specs.Prelude.{ℕ, ◌/◌, ◌%◌, ◌==◌, Bool, List, get_or, map}
use Rattle.std.specs.Int.{bit_at}
use Rattle.std.specs.List.{range_with_len}

-- the bit at a place: each word has those of 64 places
abbrev pub is_bit : ℕ → List ℕ → Bool
is_bit place words = bit_at (get_or words (place / 64) 0) (place % 64) == 1

-- the first n bits
unfoldable pub bits_of : ℕ → List ℕ → List Bool
bits_of count words = map (λ place. is_bit place words) (range_with_len 0 count)
