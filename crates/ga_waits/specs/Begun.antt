-- Nodes that have started.
use Rattle.std.specs.Prelude.{ℕ, ◌==◌, Bool, ◌||◌, not}
use Rattle.ga_place.specs.Address.{idle_address_of}
use Rattle.ga_node.specs.State.{State, is_fetch}

-- A node has started if it has made a step; or its place isn't before a fetch, since it was given a
-- stream; or P isn't the address of an idle node, since it was given words and an entry.
abbrev pub has_begun : ℕ → State → Bool
has_begun name state =
    not (state.steps == 0) || (not (is_fetch state.place) || not (state.p == idle_address_of name))
