-- The faults of a job.
use Rattle.std.specs.Prelude.{◌≡◌, ℕ, List, codes, Result, Ok, Err}
use Rattle.ga_asm.specs.declared.text.TextError.{TextError}
use Rattle.ga_asm.specs.declared.text.TextError.TheVariants as text
use Rattle.ga_debug.specs.declared.replay_error.ReplayError.{ReplayError}
use Rattle.ga_debug.specs.declared.replay_error.ReplayError.TheVariants as replay
use Rattle.ga_include.specs.Error as include
use Rattle.ga_path.specs.declared.error.RouteError.{RouteError}
use Rattle.ga_path.specs.declared.error.RouteError.TheVariants as route
use Rattle.ga_path.specs.declared.error.TreeError.{TreeError}
use Rattle.ga_path.specs.declared.error.TreeError.TheVariants as tree
use Rattle.ga_input.specs.declared.fault.IncludeRefusal.{IncludeRefusal}
use Rattle.ga_input.specs.declared.fault.IncludeRefusal.TheVariants.{File, Line}
use Rattle.ga_input.specs.declared.fault.InputFault.{InputFault}
use Rattle.ga_input.specs.declared.fault.InputFault.TheVariants as input
use Rattle.ga_input.specs.declared.fault.ServeError.{ServeError}
use Rattle.ga_input.specs.declared.fault.ServeError.TheVariants.{Source, Asm, Route, Tree, Replay, Read, Write, Memory}
use Rattle.ga_input.specs.declared.fault.RouteFault.TheVariants.{Nodes}

-- the fault of a source text, or of its program
abbrev pub fault_of_text : TextError → ServeError
fault_of_text (text.Source error) = Source error
fault_of_text (text.Asm error) = Asm error
fault_of_text text.Memory = Memory

-- the fault of nodes that are no route, and of routes that are no tree
abbrev pub fault_of_route : RouteError → ServeError
fault_of_route route.Memory = Memory
fault_of_route error = Route (Nodes error)

abbrev pub fault_of_tree : TreeError → ServeError
fault_of_tree tree.Memory = Memory
fault_of_tree error = Tree error

-- the fault of a replay text
abbrev pub fault_of_replay : ReplayError → ServeError
fault_of_replay replay.Memory = Memory
fault_of_replay error = Replay error

-- the names of the faults of a file
abbrev pub input_name : InputFault → List ℕ
input_name input.TooLong = codes "TooLong"
input_name input.BadText = codes "BadText"
input_name input.NoFile = codes "NoFile"
input_name input.Folder = codes "Folder"
input_name input.NotAFile = codes "NotAFile"
input_name input.Read = codes "read"
input_name input.Outside = codes "Outside"

-- why an include line was refused
abbrev pub refusal_name : IncludeRefusal → List ℕ
refusal_name (Line kind) = include.kind_name kind
refusal_name (File fault) = input_name fault

-- What a function answers that reads nothing and writes nothing is right, a value seen through a
-- view, unless memory ran out.
abbrev pub FailsRightly : {B : Type 0} → (Result B ServeError → Type 0) → ServeError → Type 0
FailsRightly IsRight Memory = Unit {0}
FailsRightly IsRight Read = ⊥
FailsRightly IsRight Write = ⊥
FailsRightly IsRight fault = IsRight (Err fault)

abbrev pub Answers : {A B : Type 0} → (A → B) → (Result B ServeError → Type 0) → Result A ServeError
    → Type 0
Answers view IsRight (Ok value) = IsRight (Ok (view value))
Answers view IsRight (Err fault) = FailsRightly IsRight fault

-- the same, if one answer is right
abbrev pub Gives : {A B : Type 0} → (A → B) → Result A ServeError → Result B ServeError → Type 0
Gives view answer expected = Answers view (λ right. expected ≡ right) answer
