use Rattle.std.proofs.Common.{◌∙◌, ◌++◌, append_assoc, ap, codes, string_bytes}
use Rattle.std.specs.Fmt.{decimal}
use Rattle.ga_trace.proofs.depth.push_fewer.Goals as goal

pub returns : goal.returns
returns c =
    let behind = codes " of " ++ decimal c.args.all ++ codes " steps\n" in
    c.in_ok-writeln.ensures.bytes ∙ ap (λ text. text ++ behind) c.in_ok-write.ensures.bytes
    ∙ append_assoc (string_bytes c.args.text.now) (codes "in the first " ++ decimal c.args.steps)
    behind
