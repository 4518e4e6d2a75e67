-- The faults of a replay text, by the faults of its parts.
use Rattle.std.specs.Prelude.{Result, Ok, Err}
use Rattle.ga_asm.specs.declared.text.TextError.{TextError}
use Rattle.ga_asm.specs.declared.text.TextError.TheVariants as text
use Rattle.ga_path.specs.declared.error.RouteError.{RouteError}
use Rattle.ga_path.specs.declared.error.RouteError.TheVariants as route
use Rattle.ga_path.specs.declared.error.TreeError.{TreeError}
use Rattle.ga_path.specs.declared.error.TreeError.TheVariants as tree
use Rattle.ga_debug.specs.declared.replay_error.ReplayError.{ReplayError}
use Rattle.ga_debug.specs.declared.replay_error.ReplayError.TheVariants.{Asm, Memory, Route, Source, Tree}

abbrev pub fault_of_text : TextError → ReplayError
fault_of_text (text.Source error) = Source error
fault_of_text (text.Asm error) = Asm error
fault_of_text text.Memory = Memory

abbrev pub fault_of_route : RouteError → ReplayError
fault_of_route route.Memory = Memory
fault_of_route error = Route error

abbrev pub fault_of_tree : TreeError → ReplayError
fault_of_tree tree.Memory = Memory
fault_of_tree error = Tree error

-- What a function answers is right, a value seen through a view, unless memory ran out.
abbrev pub FailsRightly : {B : Type 0} → (Result B ReplayError → Type 0) → ReplayError → Type 0
FailsRightly IsRight Memory = Unit {0}
FailsRightly IsRight fault = IsRight (Err fault)

abbrev pub Answers : {A B : Type 0} → (A → B) → (Result B ReplayError → Type 0)
    → Result A ReplayError → Type 0
Answers view IsRight (Ok value) = IsRight (Ok (view value))
Answers view IsRight (Err fault) = FailsRightly IsRight fault
