-- Numbers and data that a node runs as code.
use Rattle.std.specs.Prelude.{◌==◌, ◌&&◌, ℕ, Bool, false, length, nat_lt, not}
use Rattle.std.specs.Option.{option_map_or}
use Rattle.ga_lint.specs.DeadCode.{takes_words}
use Rattle.ga_lint.specs.NodeView.{NodeView, dest_at, lands}
use Rattle.ga_lint.specs.Reaching.{is_code_at}
use Rattle.ga_place.specs.declared.address.Where.{Where}
use Rattle.ga_place.specs.declared.address.Where.TheVariants.{Ram}

-- a word of the node that is a number in its code, or data
abbrev pub is_number : NodeView → Where → Bool
is_number node (Ram at) = nat_lt at (length node.words) && not (is_code_at node at)
is_number node where_it_is = false

-- The word at an address goes to such a word, which is still that of the text: the node doesn't
-- write over its words, and its neighbours can't do so.
abbrev pub into_data : NodeView → ℕ → Bool
into_data node address =
    option_map_or (λ dest. is_number node (lands dest)) (dest_at node address) false
    && not (takes_words node)

-- the node begins at an address, and the word there is such a word
abbrev pub begins_in_data : NodeView → ℕ → Bool
begins_in_data node address = (node.image.entry == address) && not (is_code_at node address)
