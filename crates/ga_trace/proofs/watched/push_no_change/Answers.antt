use Rattle.std.proofs.Common.{◌∙◌, ◌++◌, ap, append_assoc, codes, string_bytes}
use Rattle.ga_trace.specs.Stepped.{rest_line}
use Rattle.ga_trace.proofs.watched.push_no_change.Goals as goal

pub returns : goal.returns
returns c =
    let rest = rest_line c.args.node c.args.chip.now in
    c.in_ok-push_rest_line.ensures ∙ ap (λ t. t ++ rest) c.in_ok-push_str.ensures.bytes
    ∙ append_assoc (string_bytes c.args.text.now) (codes "not reached, ") rest
