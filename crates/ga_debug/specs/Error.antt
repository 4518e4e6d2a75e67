-- The names of why a command is refused.
use Rattle.std.specs.Prelude.{ℕ, List, codes}
use Rattle.ga_debug.specs.declared.error.DebugError.{DebugError}
use Rattle.ga_debug.specs.declared.error.DebugError.TheVariants.{BadAddress, BadCommand, BadCount, BadNode, BadSide, BadValue, Memory, NotHeld}

abbrev pub fault_name : DebugError → List ℕ
fault_name BadCommand = codes "BadCommand"
fault_name BadNode = codes "BadNode"
fault_name BadAddress = codes "BadAddress"
fault_name BadSide = codes "BadSide"
fault_name BadCount = codes "BadCount"
fault_name BadValue = codes "BadValue"
fault_name NotHeld = codes "NotHeld"
fault_name Memory = codes "Memory"
