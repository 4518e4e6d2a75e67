use Rattle.std.proofs.Common.{option_map, subst, sym}
use Rattle.std.specs.Borrow.{Bor}
use Rattle.std.proofs.lemmas.Result.{IfOk-weaker}
use Rattle.ga_report.specs.declared.close_up.CloseUp.{CloseUp}
use Rattle.ga_views.specs.ReportJob.{IsCloseUp}
use Rattle.ga_views.proofs.report.page_of.Goals as goal

pub returns : goal.returns
returns c =
    let chip = c.args.live.now.chip in
    let whole = c.args.profile.now.window in
    let near = option_map (λ (lent : Bor CloseUp). lent.now) c.as_ref.result in
    let close_up = subst (λ window. IsCloseUp chip whole window near) c.close_up_window.ensures
    (subst (IsCloseUp chip whole c.close_up_window.result) (sym c.as_ref.ensures.value)
    c.in_ok-near.ensures) in
    IfOk-weaker c.page_text.result _ _
    (λ page is. (
      c.in_ok-timeline.timeline,
      c.in_ok-timeline.ensures,
      (
        c.as_ref.result,
        close_up,
        cc (is, c.as_str.ensures.value, c.in_ok-shown.ensures, c.images.ensures),
      ),
    ))
    c.page_text.ensures
