-- The neighbour with which a try has to do, by what the try asks for.
use Rattle.std.specs.Prelude.{◌≡◌, ℕ, None}
use Rattle.ga_place.specs.Side.{neighbour_of}
use Rattle.ga_place.specs.declared.side.Side.{Side}
use Rattle.ga_node.specs.declared.need.Need.{Need}
use Rattle.ga_chip.specs.declared.asks.Asks.{Asks}
use Rattle.ga_chip.specs.declared.asks.Asks.TheVariants.{Own, Post, Take, Check, Nothing}
use Rattle.ga_chip.specs.declared.outcome.Outcome.TheVariants.{Moved}
use Rattle.ga_chip.specs.inner.Awake.{partner_of}

-- a node's partner is the one at the port; a try that is known to ask for nothing doesn't move
abbrev pub HasPartner : Asks → ℕ → Need → Side → Type 0
HasPartner Own name n side = partner_of name n side ≡ None
HasPartner (Post to cell word) name n side = partner_of name n side ≡ neighbour_of name to
HasPartner (Take from cell) name n side = partner_of name n side ≡ neighbour_of name from
HasPartner (Check to cell) name n side = partner_of name n side ≡ None
HasPartner (Nothing outcome) name n side = outcome ≡ Moved → ⊥
