-- The faults of one text, as the code has them.
use Rattle.std.specs.Prelude.{◌≡◌, Option, Some}
use Rattle.ga_asm.specs.declared.text.TextError.{TextError}
use Rattle.ga_asm.specs.declared.text.TextError.TheVariants as text_error
use Rattle.ga_faults.specs.declared.fault.Fault.{Fault}
use Rattle.ga_faults.specs.declared.fault.Fault.TheVariants.{Asm, Source}

-- the fault that is a text's; out of memory is none
abbrev pub IsFaultOf : TextError → Option Fault → Type 0
IsFaultOf (text_error.Source error) fault = fault ≡ Some (Source error)
IsFaultOf (text_error.Asm error) fault = fault ≡ Some (Asm error)
IsFaultOf text_error.Memory fault = ⊥
