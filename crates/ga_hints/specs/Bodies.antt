-- The bodies of a text, and the first one that has no `end` of its own.
use Rattle.std.specs.Prelude.{ℕ, Bool, not, List, codes, drop, Option}
use Rattle.std.specs.List.{position, slice_split}
use Rattle.std.specs.Str.{bytes_eq}
use Rattle.ga_expand.specs.Constants.{is_among}

-- what is behind each `body`, up to the next one: the name of a body, and its tokens
abbrev pub bodies_of : List (List ℕ) → List (List (List ℕ))
bodies_of tokens = drop 1 (slice_split (λ token. bytes_eq token (codes "body")) tokens)

abbrev pub has_end : List (List ℕ) → Bool
has_end body = is_among body (codes "end")

-- The number of the first body that has no `end` in front of the next `body`, from 0. Up to the
-- next `end` the bodies behind it are part of it.
abbrev pub first_open : List (List ℕ) → Option ℕ
first_open tokens = position (λ body. not (has_end body)) (bodies_of tokens)
