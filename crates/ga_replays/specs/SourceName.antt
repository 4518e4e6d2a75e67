-- The name of a source in the head of a transcript, and the faults of that source.
use Rattle.std.specs.Prelude.{◌&&◌, ℕ, List, Option, Some, None, codes, drop, length, nat_eq, nat_lt, if◌then◌else◌}
use Rattle.std.specs.List.{starts_with}
use Rattle.std.specs.Str.{bytes_eq, is_utf8}
use Rattle.ga_input.specs.declared.fault.InputFault.TheVariants as input
use Rattle.ga_input.specs.declared.fault.ServeError.{ServeError}
use Rattle.ga_input.specs.declared.fault.ServeError.TheVariants.{Input, InputOf, Read, Shown}
use Rattle.ga_input.specs.declared.fault.TextFault.{TextFault}
use Rattle.ga_input.specs.declared.fault.TextFault.TheVariants.{Asm, AsmOf, Source, SourceOf}
use Rattle.ga_input.specs.declared.loading.Loading.{Loading}
use Rattle.ga_input.specs.Loading.{is_head}
use Rattle.ga_messages.specs.Shown.{whole_line}

-- the name in a line: `source`, a space, and a name that isn't empty
abbrev pub name_in_line : List ℕ → Option (List ℕ)
name_in_line line =
    if starts_with nat_eq line (codes "source ") && nat_lt 7 (length line) then Some (drop 7 line)
    else None

-- the name of the source that the head of a text names: its third line has the name, and its fourth
-- is `go`
abbrev pub source_named : List ℕ → Option (List ℕ)
source_named text =
    if bytes_eq (whole_line text 4) (codes "go") then name_in_line (whole_line text 3) else None

-- the same of an input
abbrev pub source_named_in : List ℕ → Option (List ℕ)
source_named_in input = if is_utf8 input then source_named input else None

-- the same of a text that is opened as a session; source text has no head
abbrev pub session_source : Loading → List ℕ → Option (List ℕ)
session_source loading text = if is_head loading text then source_named text else None

-- the same of an input
abbrev pub session_source_in : Loading → List ℕ → Option (List ℕ)
session_source_in loading input =
    if is_utf8 input then session_source loading input else None

-- the fault of a source text with the name of its file, which stands in front of the place
abbrev pub text_fault_in_source : List ℕ → TextFault → TextFault
text_fault_in_source name (Source error) = SourceOf name error
text_fault_in_source name (Asm error) = AsmOf name error
text_fault_in_source name fault = fault

-- the fault of a source with the name of its file
abbrev pub fault_in_source : List ℕ → ServeError → ServeError
fault_in_source name (Input fault) = InputOf name fault
fault_in_source name Read = InputOf name input.Read
fault_in_source name (Shown fault shown) = Shown (text_fault_in_source name fault) shown
fault_in_source name fault = fault
