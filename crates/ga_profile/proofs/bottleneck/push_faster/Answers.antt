use Rattle.std.proofs.Common.{◌∙◌, ◌++◌, append_assoc, ap, codes, string_bytes, sym}
use Rattle.std.specs.Fmt.{decimal}
use Rattle.ga_profile.specs.Bottleneck.{faster_text, percent_up}
use Rattle.ga_profile.proofs.bottleneck.push_faster.Goals as goal

pub returns-in_ok-writeln-in-Some : goal.returns-in_ok-writeln-in-Some
unfolding faster_text
returns-in_ok-writeln-in-Some c =
    let old = string_bytes c.args.text.now in
    let first = codes "If it worked twice as fast, the run would take " in
    let behind = decimal c.percent_up-percent.result ++ codes " % of them.\n" in
    c.in_ok-writeln-in-Some.ensures.bytes
    ∙ ap (λ text. text ++ behind) c.in_ok-push_str-in-Some.ensures.bytes
    ∙ append_assoc old first behind
    ∙ ap (λ percent. old ++ (first ++ decimal percent ++ codes " % of them.\n"))
    (c.percent_up-percent.ensures ∙ ap (λ part. percent_up part c.args.turns) c.from.ensures)
    ∙ ap (λ shorter. old ++ faster_text shorter c.args.turns) (sym c.in-Some.is)
