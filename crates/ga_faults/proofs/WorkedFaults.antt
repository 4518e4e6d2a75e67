-- Lists of faults, each worked out by hand.
use Rattle.std.proofs.Common.{◌≡◌, [], ◌∷◌, Some, None, refl}
use Rattle.ga_expand.specs.declared.error.ExpandErrorKind.TheVariants.{BadNode, BadToken}
use Rattle.ga_faults.specs.Faults.{distinct, with_first}
use Rattle.ga_faults.specs.declared.fault.Fault.{Fault}
use Rattle.ga_faults.specs.declared.fault.Fault.TheVariants.{Expand}

abbrev bad_token : Fault
bad_token = Expand (record { kind = BadToken; line = 2; column = 3 })

abbrev later_token : Fault
later_token = Expand (record { kind = BadToken; line = 5; column = 3 })

abbrev bad_node : Fault
bad_node = Expand (record { kind = BadNode; line = 5; column = 3 })

-- a fault of the head, which two parts have, is there once, and a part may have none
each_once :
    distinct (Some bad_token ∷ None ∷ Some bad_node ∷ Some bad_token ∷ Some later_token ∷ [])
    ≡ bad_token ∷ bad_node ∷ later_token ∷ []
each_once = refl

-- the first fault stays at its place if a part has it
is_there : with_first bad_node (bad_token ∷ bad_node ∷ []) ≡ bad_token ∷ bad_node ∷ []
is_there = refl

-- and comes in front if none has it
in_front : with_first later_token (bad_token ∷ bad_node ∷ [])
    ≡ later_token ∷ bad_token ∷ bad_node ∷ []
in_front = refl
