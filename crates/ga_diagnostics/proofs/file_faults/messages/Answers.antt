use Rattle.std.proofs.Common.{◌≡◌, ◌∙◌, ◌+◌, ◌++◌, ap, string_bytes, subst, sym}
use Rattle.ga_diagnostics.specs.FileFaults.{IsFaultMessage}
use Rattle.ga_diagnostics.specs.Lines.{origins_of}
use Rattle.ga_diagnostics.proofs.FaultMessages.{Continues, none_left, one_more}
use Rattle.ga_diagnostics.proofs.file_faults.messages.Goals as goal

pub loop-fault-preserved : goal.loop-fault-preserved
loop-fault-preserved c =
    let origins = origins_of c.args.lines.now in
    let form = c.args.form in
    let text = c.args.text.now in
    let found = c.args.found.now in
    let index = c.loop-fault.fault-index in
    let told = string_bytes c.loop-fault.told in
    let message = string_bytes c.in_ok-message.message in
    let written : string_bytes c.push_str.new.self ≡ told ++ message =
    c.in_ok-push_str.ensures.bytes ∙ ap (λ bytes. told ++ bytes) c.as_str.ensures.value in
    let is = subst (λ fault. IsFaultMessage origins form text fault message) c.fault-item.is
    c.in_ok-message.ensures in
    subst (Continues origins form text found (index + 1)) (sym written)
    (one_more origins form text found index c.fault-item.result told message
    c.loop-fault-test.true is c.loop-fault.invariant)

pub returns : goal.returns
returns c =
    none_left (origins_of c.args.lines.now) c.args.form c.args.text.now c.args.found.now
    c.loop-fault.fault-index (string_bytes c.loop-fault.told) c.loop-fault-test.false
    c.loop-fault.invariant
