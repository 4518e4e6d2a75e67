use Rattle.std.proofs.Common.{subst}
use Rattle.std.proofs.lemmas.Result.{IfOk-weaker}
use Rattle.ga_faults.specs.Faults.{IsFirstFault}
use Rattle.ga_faults.proofs.AllFaults.{faults_few, faults_first, faults_once}
use Rattle.ga_faults.proofs.listing.faults.Goals as goal

pub returns-in-Some-clause-most : goal.returns-in-Some-clause-most
returns-in-Some-clause-most c =
    IfOk-weaker c.faults_with.result _ _
    (λ faults are. faults_few c.args.text.now c.in-Some.fault faults.items are)
    c.faults_with.ensures

pub returns-in-Some-clause-once : goal.returns-in-Some-clause-once
returns-in-Some-clause-once c =
    IfOk-weaker c.faults_with.result _ _
    (λ faults are. faults_once c.args.text.now c.in-Some.fault faults.items are)
    c.faults_with.ensures

pub returns-in-Some-clause-first : goal.returns-in-Some-clause-first
returns-in-Some-clause-first c =
    let text = c.args.text.now in
    let first = subst (IsFirstFault text) c.in-Some.is c.in_ok-fault.ensures in
    IfOk-weaker c.faults_with.result _ _
    (λ faults are. faults_first text c.in-Some.fault faults.items first are)
    c.faults_with.ensures
