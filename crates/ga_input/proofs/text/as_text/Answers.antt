use Rattle.std.proofs.Common.{Some, ap, sym}
use Rattle.std.proofs.lemmas.Bool.{cond-false, false_from_ne_true}
use Rattle.std.proofs.lemmas.Str.{IsUtf8-from_is_utf8, is_utf8-from_IsUtf8}
use Rattle.ga_input.proofs.text.as_text.Goals as goal

pub returns-in-Ok : goal.returns-in-Ok
returns-in-Ok c =
    let utf8 = is_utf8-from_IsUtf8 _ c.in-Ok.ensures.cases.1 in
    rw (utf8) (ap Some c.in-Ok.ensures.cases.0)

pub returns-in-Err : goal.returns-in-Err
returns-in-Err c =
    sym (cond-false _ _ _
    (false_from_ne_true _ (λ utf8. c.in-Err.ensures.cases.0 (IsUtf8-from_is_utf8 _ utf8))))
