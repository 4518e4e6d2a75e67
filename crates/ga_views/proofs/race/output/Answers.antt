use Rattle.std.proofs.Common.{string_bytes, subst, sym}
use Rattle.ga_input.specs.Fault.{FailsRightly}
use Rattle.ga_views.specs.Race.{IsRaceOutput}
use Rattle.ga_views.proofs.Judged.{erred, judged, not_loaded}
use Rattle.ga_views.proofs.race.output.Goals as goal

pub returns-in_err-chip : goal.returns-in_err-chip
returns-in_err-chip c =
    let stated = IsRaceOutput c.args.loading.now c.args.turns c.args.witness c.args.input.now in
    let fails : FailsRightly stated c.in_err-chip.field-0.0 =
    not_loaded c.args.loading.now c.args.turns c.args.witness c.args.input.now c.in_ok-text.text.now
    c.in_err-chip.field-0.0 c.in_ok-text.ensures c.in_err-chip.ensures in
    erred string_bytes stated c.from_residual-in_err-chip.result _
    c.from_residual-in_err-chip.ensures.1
    (λ fault same. subst (FailsRightly stated) (sym same) fails)

pub returns : goal.returns
returns c =
    judged string_bytes c.args.loading.now c.args.turns c.unwrap_or.result c.args.witness
    c.args.input.now c.in_ok-text.text.now c.in_ok-chip.chip c.judged.result c.unwrap_or.ensures
    c.in_ok-text.ensures c.in_ok-chip.ensures c.judged.ensures
