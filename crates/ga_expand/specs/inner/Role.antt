-- What tokens of the plain language are for, as the code has it.
use Rattle.std.specs.Prelude.{ℕ, List, Option, codes, if◌then◌else◌}
use Rattle.std.specs.List.{find}
use Rattle.std.specs.Str.{bytes_eq}
use Rattle.ga_word.specs.Op.{name_of, opcodes}
use Rattle.ga_word.specs.declared.op.Op.{Op}
use Rattle.ga_expand.specs.declared.role.Role as here
use Rattle.ga_expand.specs.declared.role.Role.TheVariants as at
use Rattle.ga_expand.specs.Expanding.{Body, NodeName, Stage, Value}

abbrev pub role_stage : here.Role → Stage
role_stage at.Item = Body
role_stage at.NodeName = NodeName
role_stage at.Value = Value

-- the opcode with this name
abbrev pub op_named : List ℕ → Option Op
op_named text = find (λ o. bytes_eq (name_of o) text) opcodes

-- what is behind a token that is no opcode, by its text
abbrev pub mark_stage : List ℕ → Stage
mark_stage text =
    if bytes_eq text (codes "node") then NodeName
    else if bytes_eq text (codes ",") then Value else Body
