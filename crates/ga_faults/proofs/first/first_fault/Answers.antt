use Rattle.std.proofs.Common.{subst}
use Rattle.std.proofs.lemmas.Result.{IfOk-weaker}
use Rattle.ga_asm.specs.Text.{HasImages}
use Rattle.ga_faults.specs.Faults.{IsFirstFault}
use Rattle.ga_faults.specs.inner.Faults.{IsFaultOf}
use Rattle.ga_faults.proofs.FirstFaults.{written_fault}
use Rattle.ga_faults.proofs.first.first_fault.Goals as goal

pub returns-in-Ok-assemble_text : goal.returns-in-Ok-assemble_text
returns-in-Ok-assemble_text c = (
  c.in-Ok.made,
  c.in-Ok.ensures.expansion,
  (
    c.in-Ok-assemble_text.field-0,
    subst (λ text. HasImages text c.in-Ok-assemble_text.field-0) c.as_str.ensures.value
        c.in-Ok-assemble_text.ensures.images,
  ),
)

pub returns : goal.returns
returns c =
    let text = c.args.text.now in
    let written = c.in_ok-at_origin-in-Err-assemble_text.field-0 in
    IfOk-weaker c.text_fault.result (IsFaultOf written) (IsFirstFault text) (λ fault of.
    written_fault text c.as_str.result.now c.in-Ok.made c.in-Err-assemble_text.error written fault
    c.in-Ok.ensures.expansion c.as_str.ensures.value c.in-Err-assemble_text.ensures.fault
    c.in_ok-at_origin-in-Err-assemble_text.ensures of)
    c.text_fault.ensures
