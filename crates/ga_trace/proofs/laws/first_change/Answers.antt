use Rattle.ga_trace.proofs.FirstChange as first
use Rattle.ga_trace.proofs.laws.first_change.Goals as goal

pub returns-clause-shown : goal.returns-clause-shown
returns-clause-shown c = first.is_shown

pub returns-clause-none : goal.returns-clause-none
returns-clause-none c = first.none_shown
