-- A destination in memory at which the node has no word to run.
use Rattle.std.specs.Prelude.{ℕ, Bool, false, length, nat_le, not}
use Rattle.std.specs.Option.{option_map_or}
use Rattle.ga_lint.specs.NodeView.{NodeView, dest_at, is_warm, lands}
use Rattle.ga_place.specs.declared.address.Where.{Where}
use Rattle.ga_place.specs.declared.address.Where.TheVariants.{Ram, Rom}

-- a word of RAM behind the first ones, or one of ROM that can't be run
abbrev pub is_missing : ℕ → Where → Bool
is_missing words (Ram at) = nat_le words at
is_missing words (Rom at) = not (is_warm at)
is_missing words where_it_is = false

-- the word at an address goes where its node has no word
abbrev pub over_memory : NodeView → ℕ → Bool
over_memory node address =
    option_map_or (λ dest. is_missing (length node.words) (lands dest)) (dest_at node address) false
