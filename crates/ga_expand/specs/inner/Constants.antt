-- The constants of the code, as definitions have them.
use Rattle.std.specs.Prelude.{Bool, List, map, not}
use Rattle.std.specs.List.{list_all}
use Rattle.ga_pack.specs.Model.Token.{is_reserved}
use Rattle.ga_source.specs.Name.{NameText}
use Rattle.ga_expand.specs.declared.value.Operand.{Operand}
use Rattle.ga_expand.specs.Constants.{Constants}

abbrev pub constants_in : List (NameText × Operand) → Constants
constants_in entries = map (λ entry. (entry.0.bytes, entry.1)) entries

-- none has the name of an opcode, or another that the plain language has
abbrev pub are_free : List (NameText × Operand) → Bool
are_free entries = list_all (λ entry. not (is_reserved entry.0.bytes)) entries
