use Rattle.std.proofs.Common.{◌∙◌, ap}
use Rattle.std.proofs.lemmas.Result.{IfOk-weaker}
use Rattle.serde_json.specs.Written.{compact_text, has_float}
use Rattle.ga_messages.specs.Message.{report_in}
use Rattle.ga_messages.proofs.Plain.{report_plain}
use Rattle.ga_messages.proofs.json.message_json.Goals as goal

pub returns : goal.returns
returns c =
    let is = c.in_ok-value.ensures in
    IfOk-weaker c.to_string.result _ _
    (λ text same. same (ap has_float is ∙ report_plain (report_in c.args.message.now))
    ∙ ap compact_text is)
    c.to_string.ensures.text
