-- The faults of lines, and the files that are wanted.
use Rattle.std.specs.Prelude.{ℕ, List, Option, Some, None, codes, string_bytes}
use Rattle.ga_include.specs.declared.error.IncludeError.{IncludeError}
use Rattle.ga_include.specs.declared.error.IncludeError.TheVariants as errors
use Rattle.ga_include.specs.declared.error.IncludeFaultKind.{IncludeFaultKind}
use Rattle.ga_include.specs.declared.error.IncludeFaultKind.TheVariants.{BadInclude, IncludeCycle, IncludeDepth, IncludeCount, IncludeSize}
use Rattle.ga_include.specs.declared.error.IncludePlace.{IncludePlace}

abbrev pub kind_name : IncludeFaultKind → List ℕ
kind_name BadInclude = codes "BadInclude"
kind_name IncludeCycle = codes "IncludeCycle"
kind_name IncludeDepth = codes "IncludeDepth"
kind_name IncludeCount = codes "IncludeCount"
kind_name IncludeSize = codes "IncludeSize"

-- what is in the way of a text
pub data Trouble : Type 0 where
  -- the line at this place is at fault
  Faulty : IncludePlace → IncludeFaultKind → Trouble
  -- the line at this place includes the file with this name, which isn't there
  Missing : IncludePlace → List ℕ → Trouble

-- no trouble of the files stands behind an error that is only out of memory
abbrev pub trouble_of : IncludeError → Option Trouble
trouble_of (errors.Fault place kind) = Some (Faulty place kind)
trouble_of (errors.Wanted place name) = Some (Missing place (string_bytes name))
trouble_of errors.Memory = None
