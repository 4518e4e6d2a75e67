-- The directions of the code, as definitions have them.
use Rattle.ga_place.specs.Side as model
use Rattle.ga_expand.specs.declared.places.Direction as here
use Rattle.ga_expand.specs.declared.places.Direction.TheVariants as to

abbrev pub direction_of : here.Direction → model.Direction
direction_of to.North = model.North
direction_of to.East = model.East
direction_of to.South = model.South
direction_of to.West = model.West
