use Rattle.std.proofs.Common.{◌∙◌, ap, sym}
use Rattle.std.proofs.lemmas.Bool.{cond-false, false_from_ne_true}
use Rattle.std.proofs.lemmas.Str.{IsUtf8-from_is_utf8, is_utf8-from_IsUtf8}
use Rattle.ga_prompt.specs.Request.{text_request}
use Rattle.ga_prompt.proofs.request.bytes_request.Goals as goal

pub returns-in-Ok-clause-request : goal.returns-in-Ok-clause-request
returns-in-Ok-clause-request c =
    let utf8 = is_utf8-from_IsUtf8 _ c.in-Ok.ensures.cases.1 in
    rw (utf8) (c.text_request.ensures.request ∙ ap text_request c.in-Ok.ensures.cases.0)

pub returns-in-Err-clause-request : goal.returns-in-Err-clause-request
returns-in-Err-clause-request c =
    sym (cond-false _ _ _
    (false_from_ne_true _ (λ utf8. c.in-Err.ensures.cases.0 (IsUtf8-from_is_utf8 _ utf8))))
