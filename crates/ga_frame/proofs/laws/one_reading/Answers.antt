use Rattle.ga_frame.proofs.OneReading.{first_fault_none, one_fault, only_frames}
use Rattle.ga_frame.proofs.laws.one_reading.Goals as goal

pub returns-clause-frames : goal.returns-clause-frames
returns-clause-frames c = only_frames

pub returns-clause-fault : goal.returns-clause-fault
returns-clause-fault c = one_fault

pub returns-clause-apart : goal.returns-clause-apart
returns-clause-apart c = first_fault_none
