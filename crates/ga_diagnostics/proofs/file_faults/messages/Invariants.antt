use Rattle.std.proofs.Common.{string_bytes}
use Rattle.ga_diagnostics.specs.Lines.{origins_of}
use Rattle.ga_diagnostics.proofs.FaultMessages.{Continues}
use Rattle.ga_diagnostics.proofs.file_faults.messages.Given as goal

abbrev pub invariant-loop-fault : goal.invariant-loop-fault
invariant-loop-fault l =
    Continues (origins_of l.lines) l.form l.text l.found l.fault-index (string_bytes l.told)
